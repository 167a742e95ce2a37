-- `removal::trees::tree_marked` meets its contract: the tests are those of the definition, in its order.
-- Assumes nothing.
use Rattle.std.proofs.Common.{sym, ◌∙◌}
use Rattle.removal.specs.Filter.{tree_marked}
use Rattle.removal.proofs.trees.tree_marked.Goals as goal

pub returns-then-not-tree_named : goal.returns-then-not-tree_named
unfolding tree_marked
returns-then-not-tree_named c = rw (sym c.tree_named.ensures ∙ c.if-not-tree_named.true) c.marked.ensures

pub returns-else-not-tree_named : goal.returns-else-not-tree_named
unfolding tree_marked
returns-else-not-tree_named c = rw (c.if-not-tree_named.false, sym c.tree_named.ensures ∙ c.if-not-tree_named.false)
