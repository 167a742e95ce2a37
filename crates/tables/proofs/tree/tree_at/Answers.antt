-- `tables::tree::tree_at` meets its contract: each field is its word of the record, cut to the field's width. Assumes nothing.
use mathlib.Core.Path.{sym}
use Rattle.records.specs.Empty.{no_tree}
use Rattle.tables.specs.Words.{tree_of, tree_array}
use Rattle.tables.specs.ArrayLaws.{record-at}
use Rattle.tables.proofs.tree.tree_at.Goals as goal

pub returns : goal.returns
unfolding tree_of tree_array
returns c =
    let start = c.before.before.before.before.before.before.before in
    rw (c.low16-tid.ensures, c.low16-uid.ensures, c.low8-right.ensures)
    (sym (record-at tree_of 3 32 start.args.words.now start.args.i no_tree start.requires.1 start.requires.0))
