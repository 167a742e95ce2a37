-- `removal::marks::marked` meets its contract: past the end nothing is marked.
-- Assumes nothing.
use mathlib.Core.Path.{sym, ◌∙◌}
use borrow.Author.Tests.{le-ltb}
use mathlib.Core.Bool.{false}
use lib.ListN.{get_or-eq_default}
use Rattle.removal.proofs.marks.marked.Goals as goal

pub returns-else-at-marks : goal.returns-else-at-marks
returns-else-at-marks c = le-ltb _ _ c.if-at-marks.false ∙ sym (get_or-eq_default c.args.marks.now false c.if-at-marks.false)
