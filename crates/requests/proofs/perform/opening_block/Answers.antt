-- `requests::perform::opening_block` meets its contract: the part of the message handed on is the block's name.
-- Assumes nothing.
use Rattle.requests.specs.BlockPart.{name-part}
use Rattle.requests.proofs.perform.opening_block.Goals as goal

pub returns : goal.returns
returns c =
    let args = c.args in
    record { leaves = (λ m. rw (name-part args.s.now args.at args.size c.requires.opening_part) (c.do_open.ensures.leaves m)); words_after = c.do_open.ensures.words_after }
