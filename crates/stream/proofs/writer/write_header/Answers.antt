-- `stream::writer::write_header` meets its contract.
-- Assumes nothing.
use Rattle.stream.specs.Stream.{header_of}
use Rattle.stream.proofs.writer.write_header.Goals as goal

pub returns : goal.returns
unfolding header_of
returns c = c.lay.ensures
