-- `digest::added` meets its contract.
-- Assumes nothing.
use mathlib.Core.Path.{refl}
use native.Mathlib.Omega.{arith}
use Rattle.digest.specs.Digest.{added}
use Rattle.digest.proofs.added.Goals as goal

pub returns : goal.returns
unfolding added
returns c = (refl, omega arith)
