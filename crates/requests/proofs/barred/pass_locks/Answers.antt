-- `requests::barred::pass_locks` meets its contract: the lock in the way, if there is one, is listed.
-- Assumes nothing.
use mathlib.Core.Path.{sym, ◌∙◌}
use Rattle.tables.specs.Words.{tables_of}
use Rattle.requests.specs.BarPart.{bar-below}
use Rattle.requests.proofs.barred.pass_locks.Goals as goal

pub refuse_for-requires-clause-place_in_bounds : goal.refuse_for-requires-clause-place_in_bounds
refuse_for-requires-clause-place_in_bounds c = bar-below (tables_of c.args.words.now) c.args.q c.in-Some.place (sym c.first_bar.ensures ∙ c.in-Some.is)
