-- `stream::state::header_begun` meets its contract: past the end stands 0.
-- Assumes nothing.
use Rattle.stream.specs.State.{header_begun}
use Rattle.stream.proofs.state.header_begun.Goals as goal

pub returns : goal.returns
unfolding header_begun
returns c = rw (c.header_of.ensures, c.byte_at-3.ensures, c.byte_at-2.ensures, c.byte_at.ensures)
