-- `stream::reader::add_bytes` meets its contract: a part of the buffer is written at its front.
-- Assumes nothing.
use Rattle.lists.specs.PutLaws.{put-part}
use Rattle.stream.proofs.reader.add_bytes.Goals as goal

pub returns : goal.returns
returns c = put-part c.args.buffer.now c.args.part.now c.lay.new.room c.args.got c.args.size c.requires.size_in_bounds c.requires.part_bound c.lay.ensures
