-- The line ends inside the text. Assumes nothing.
use Rattle.std.proofs.Common.{refl}
use Rattle.text.specs.Overlaid.{written-inside}
use Rattle.replay.proofs.play.host_step.Goals as goal

pub returns : goal.returns
returns c = (refl, written-inside c.put_line-length.ensures)
