-- `removal::marks::mark` meets its contract: past the end nothing is set.
-- Assumes nothing.
use mathlib.Core.Path.{sym}
use mathlib.Core.Bool.{true}
use lib.Seq.{set_out}
use Rattle.removal.proofs.marks.mark.Goals as goal

pub returns-else-at-marks : goal.returns-else-at-marks
returns-else-at-marks c = let args = c.args in sym (set_out args.marks.now args.number true c.if-at-marks.false)
