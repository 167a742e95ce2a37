-- `chain::shape::number_inside` meets its contract: both bytes stand inside, and are those of the definition.
-- Assumes nothing.
use native.Mathlib.Omega.{arith}
use Rattle.wire.specs.LittleEndian.{le16_at}
use Rattle.chain.proofs.shape.number_inside.Goals as goal

pub returns : goal.returns
unfolding le16_at
returns c = omega arith
