-- `removal::opens::open_marked` meets its contract: the tests are those of the definition, in its order.
-- Assumes nothing.
use Rattle.std.proofs.Common.{sym, ◌∙◌}
use Rattle.removal.specs.Filter.{open_marked}
use Rattle.removal.proofs.opens.open_marked.Goals as goal

pub returns-then-not-open_named : goal.returns-then-not-open_named
unfolding open_marked
returns-then-not-open_named c = rw (sym c.open_named.ensures ∙ c.if-not-open_named.true) c.marked.ensures

pub returns-else-not-open_named : goal.returns-else-not-open_named
unfolding open_marked
returns-else-not-open_named c = rw (c.if-not-open_named.false, sym c.open_named.ensures ∙ c.if-not-open_named.false)
