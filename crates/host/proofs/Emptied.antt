-- Words that are all zero hold no tables.
-- Assumes nothing.
use mathlib.Core.Path.{◌≡◌, refl}
use mathlib.Core.Bool.{true}
use lib.ListN.{replicate}
use Rattle.lists.specs.Walk.{all}
use Rattle.tables.specs.Words.{up_to, array_of, session_of, tree_of, open_of, lock_of, session_array, tree_array, open_array, lock_array, name_of, name_array, file_array, tables_of, records_fit, in_use_fit}
use Rattle.host.specs.HostCall.{no_tables}

pub zero-tables : tables_of (replicate 1605 0) ≡ no_tables
unfolding tables_of no_tables session_array tree_array open_array lock_array name_array file_array array_of up_to session_of tree_of open_of lock_of name_of
zero-tables = refl

pub zero-fit : in_use_fit (replicate 1605 0) ≡ true
unfolding in_use_fit records_fit up_to all
zero-fit = refl
