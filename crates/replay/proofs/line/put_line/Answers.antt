-- One text behind the other. Assumes nothing.
use Rattle.text.specs.Overlaid.{written_then}
use Rattle.replay.specs.Line.{call_line}
use Rattle.replay.proofs.line.put_line.Goals as goal

pub returns : goal.returns
unfolding call_line
returns c =
    written_then c.put_decimal-a1.ensures
    (written_then c.put_number-a2.ensures
    (written_then c.put_text-a3.ensures
    (written_then c.put_hex_bytes-a4.ensures
    (written_then c.put_number-a5.ensures
    (written_then c.put_held_by-a6.ensures c.put_text.ensures)))))
