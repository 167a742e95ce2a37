-- `stream::state::message_begun` meets its contract.
-- Assumes nothing.
use Rattle.stream.specs.State.{none_begun, message_begun}
use Rattle.stream.proofs.state.message_begun.Goals as goal

pub returns : goal.returns
unfolding none_begun message_begun
returns c = rw c.start.ensures
