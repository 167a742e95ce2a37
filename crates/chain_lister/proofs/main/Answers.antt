-- The lister's next place is inside the buffer, so what is in front of it can be lent. Assumes nothing.
use Rattle.std.proofs.Common.{sym}
use lib.Seq.{length-take-le}
use Rattle.text.specs.Overlaid.{written-inside}
use Rattle.chain_lister.proofs.main.Goals as goal

pub slice_bounds-text-end : goal.slice_bounds-text-end
slice_bounds-text-end c = written-inside c.list_message-length.ensures

pub slice_bounds-write_all-end : goal.slice_bounds-write_all-end
slice_bounds-write_all-end c =
    sym (length-take-le c.list_message-length.result c.list_message-length.new.out (written-inside c.list_message-length.ensures))
