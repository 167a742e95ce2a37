-- `stream::state::header_of` meets its contract.
-- Assumes nothing.
use Rattle.stream.specs.State.{none_begun, header_words}
use Rattle.stream.proofs.state.header_of.Goals as goal

pub returns : goal.returns
unfolding none_begun header_words
returns c = rw (c.start.ensures, c.from.ensures, c.from-2.ensures, c.from-3.ensures)
