-- `stream::state::start` meets its contract.
-- Assumes nothing.
use mathlib.Core.Path.{refl}
use Rattle.stream.specs.State.{none_begun}
use Rattle.stream.proofs.state.start.Goals as goal

pub returns : goal.returns
unfolding none_begun
returns c = refl
