-- `stream::state::no_message` meets its contract.
-- Assumes nothing.
use mathlib.Core.Path.{refl}
use Rattle.stream.specs.State.{no_message}
use Rattle.stream.proofs.state.no_message.Goals as goal

pub returns : goal.returns
unfolding no_message
returns c = refl
