-- One text behind the other. Assumes nothing.
use Rattle.text.specs.Overlaid.{written_then}
use Rattle.replay_stream.specs.Lines.{end_line}
use Rattle.replay_stream.proofs.show.put_end.Goals as goal

pub returns : goal.returns
unfolding end_line
returns c =
    written_then c.put_text-a1.ensures
    (written_then c.put_number-a2.ensures
    (written_then c.put_number-a3.ensures
    (written_then c.put_number-a4.ensures c.put_text.ensures)))
