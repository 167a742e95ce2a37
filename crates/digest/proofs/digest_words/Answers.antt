-- `digest::digest_words` meets its contract: what is left is digested from here.
-- Assumes nothing.
use native.Mathlib.Omega.{arith}
use mathlib.Core.Path.{refl, sym, ap, ◌∙◌}
use Prim.Native.Nat.{ℕ, ◌+◌}
use lib.ListN.{drop}
use Rattle.digest.specs.Digest.{digest, digest-more, digest-end}
use Rattle.digest.proofs.digest_words.Goals as goal

pub loop-x-init : goal.loop-x-init
loop-x-init c = (refl, c.requires)

pub loop-x-preserved : goal.loop-x-preserved
loop-x-preserved c =
    let loop = c.loop-x in
    let words = c.args.words.now in
    (loop.invariant.0 ∙ digest-more loop.d words loop.x-index (omega arith) ∙ ap (λ (d : ℕ). digest d (drop (loop.x-index + 1) words)) (sym c.added-d.ensures.0), c.added-d.ensures.1)

pub returns : goal.returns
returns c =
    let loop = c.loop-x in
    (sym (loop.invariant.0 ∙ digest-end loop.d c.args.words.now loop.x-index (omega arith)), loop.invariant.1)
