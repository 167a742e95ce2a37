-- The line ends inside the text. Assumes nothing.
use Rattle.std.proofs.Common.{arith}
use Rattle.text.specs.Overlaid.{written-inside}
use Rattle.replay.proofs.play.message_step.Goals as goal

pub returns : goal.returns
returns c = (omega arith, written-inside c.put_line-length.ensures)
