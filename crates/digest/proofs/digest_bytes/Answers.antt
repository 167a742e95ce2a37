-- `digest::digest_bytes` meets its contract: what is left is digested from here.
-- Assumes nothing.
use native.Mathlib.Omega.{arith}
use mathlib.Core.Path.{refl, sym, ap, ◌∙◌}
use Prim.Native.Nat.{ℕ, ◌+◌}
use lib.ListN.{drop}
use Rattle.digest.specs.Digest.{added, digest, digest-more, digest-end}
use Rattle.digest.proofs.digest_bytes.Goals as goal

pub loop-b-init : goal.loop-b-init
loop-b-init c = (refl, c.requires)

pub loop-b-preserved : goal.loop-b-preserved
loop-b-preserved c =
    let loop = c.loop-b in
    let bytes = c.args.bytes.now in (
      loop.invariant.0 ∙ digest-more loop.d bytes loop.b-index (omega arith)
          ∙ ap (λ (d : ℕ). digest d (drop (loop.b-index + 1) bytes)) (sym (c.added-d.ensures.0 ∙ ap (added loop.d) c.from.ensures)),
      c.added-d.ensures.1,
    )

pub returns : goal.returns
returns c =
    let loop = c.loop-b in
    sym (loop.invariant.0 ∙ digest-end loop.d c.args.bytes.now loop.b-index (omega arith))
