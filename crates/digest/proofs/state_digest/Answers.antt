-- `digest::state_digest` meets its contract: the words of the tables, then the file memory.
-- Assumes nothing.
use mathlib.Core.Path.{ap, ◌∙◌}
use Prim.Native.Nat.{ℕ}
use Rattle.digest.specs.Digest.{digest}
use Rattle.digest.proofs.state_digest.Goals as goal

pub returns : goal.returns
returns c = c.digest_bytes.ensures ∙ ap (λ (d : ℕ). digest d c.args.memory.now) c.digest_words.ensures.0
