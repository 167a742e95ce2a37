-- What was written is inside the buffer, so what is in front of its end can be lent. Assumes nothing.
use Rattle.std.proofs.Common.{sym}
use Rattle.std.proofs.lemmas.List.{length-take-le}
use Rattle.text.specs.Overlaid.{written-inside}
use Rattle.replay_stream.proofs.show.print_end.Goals as goal

pub slice_bounds-text-end : goal.slice_bounds-text-end
slice_bounds-text-end g c = written-inside c.put_end-end.ensures

pub slice_bounds-write_all-end : goal.slice_bounds-write_all-end
slice_bounds-write_all-end g c =
    sym (length-take-le c.put_end-end.result c.put_end-end.new.text (written-inside c.put_end-end.ensures))
