-- `requests::perform::locking_block` meets its contract: the part of the message handed on is the block's byte area.
-- Assumes nothing.
use Rattle.requests.specs.BlockPart.{area-part}
use Rattle.requests.proofs.perform.locking_block.Goals as goal

pub do_locking-requires : goal.do_locking-requires
do_locking-requires c = record { words_len = c.requires.words_len; good = c.requires.good }

pub returns : goal.returns
returns c =
    let args = c.args in record { leaves = (λ m. rw (area-part args.s.now args.at args.size c.requires.locking_part) (c.do_locking.ensures.leaves m)); words_after = c.do_locking.ensures.words_after }
