-- `stream::state::stopped_by` meets its contract.
-- Assumes nothing.
use Rattle.stream.specs.State.{none_begun, stopped_by}
use Rattle.stream.proofs.state.stopped_by.Goals as goal

pub returns : goal.returns
unfolding none_begun stopped_by
returns c = rw (c.start.ensures, c.from.ensures, c.number.ensures)
