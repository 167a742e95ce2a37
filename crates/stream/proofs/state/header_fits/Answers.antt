-- `stream::state::header_fits` meets its contract.
-- Assumes nothing.
use Rattle.stream.specs.State.{header_fits}
use Rattle.stream.proofs.state.header_fits.Goals as goal

pub returns : goal.returns
unfolding header_fits
returns c = rw (c.byte_fits-third.ensures, c.byte_fits-second.ensures, c.byte_fits-first.ensures)
