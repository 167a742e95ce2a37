-- One text behind the other. Assumes nothing.
use Rattle.text.specs.Overlaid.{written_then}
use Rattle.replay_stream.specs.Lines.{message_line}
use Rattle.replay_stream.proofs.show.put_message.Goals as goal

pub returns : goal.returns
unfolding message_line
returns c =
    written_then c.put_text-a1.ensures
    (written_then c.put_number-a2.ensures
    (written_then c.put_number-a3.ensures
    (written_then c.put_number-a4.ensures
    (written_then c.put_number-a5.ensures c.put_text.ensures))))
