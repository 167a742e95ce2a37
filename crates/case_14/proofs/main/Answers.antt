-- One line behind the other is one text from the buffer's start on, and its end is inside: what is in front of it can be lent.
-- Assumes nothing.
use Rattle.std.proofs.Common.{sym}
use Rattle.std.proofs.lemmas.List.{length-take-le}
use Rattle.text.specs.Overlaid.{written-inside, written_then}
use Rattle.case_14.proofs.main.Goals as goal

pub slice_bounds-text-end : goal.slice_bounds-text-end
slice_bounds-text-end c =
    written-inside (written_then c.put_status-a1.ensures (written_then c.put_status-a2.ensures (written_then c.put_status-a3.ensures c.put_status-a4.ensures)))

pub slice_bounds-write_all-end : goal.slice_bounds-write_all-end
slice_bounds-write_all-end c =
    sym (length-take-le c.put_status-a4.result c.put_status-a4.new.text
    (written-inside (written_then c.put_status-a1.ensures (written_then c.put_status-a2.ensures (written_then c.put_status-a3.ensures c.put_status-a4.ensures)))))
