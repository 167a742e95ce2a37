-- Nothing, or one number behind the other. Assumes nothing.
use Rattle.text.specs.Overlaid.{written-nothing, written_then}
use Rattle.replay.specs.Line.{holder_text}
use Rattle.replay.proofs.line.put_held_by.Goals as goal

pub returns-in-None : goal.returns-in-None
unfolding holder_text
returns-in-None c = rw c.in-None.is (written-nothing _ _)

pub returns-in-Some : goal.returns-in-Some
unfolding holder_text
returns-in-Some c =
    rw c.in-Some.is
    (written_then c.put_number-a1.ensures
    (written_then c.put_number-a2.ensures
    (written_then c.put_number-a3.ensures
    (written_then c.put_number-a4.ensures c.put_number.ensures))))
