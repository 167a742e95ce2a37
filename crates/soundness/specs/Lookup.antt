-- Which record a number names.
-- Assumes nothing.
use Rattle.std.specs.Prelude.{ℕ, Bool, ◌&&◌, eqb}
use Rattle.records.specs.declared.Tree.{Tree}

-- the tree has that TID and is of that session
unfoldable pub is_tree : ℕ → ℕ → Tree → Bool
is_tree tid uid t = eqb t.tid tid && eqb t.uid uid
