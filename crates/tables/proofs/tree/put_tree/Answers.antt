-- `tables::tree::put_tree` meets its contract: the words stored one by one are one write of the record. Assumes nothing.
use mathlib.Core.Path.{refl}
use native.Mathlib.Omega.{arith}
use lib.ListN.{length-set}
use Rattle.tables.specs.Words.{tree_of, tree_array, tree_limits}
use Rattle.tables.specs.Written.{tree_words}
use Rattle.tables.specs.ArrayLaws.{wrote}
use Rattle.tables.specs.RecordLaws.{Within, tree-back}
use Rattle.tables.proofs.tree.put_tree.Goals as goal

pub bounds-words-at-2 : goal.bounds-words-at-2
bounds-words-at-2 c = simp length-set (omega arith)

pub bounds-words-at-3 : goal.bounds-words-at-3
bounds-words-at-3 c = simp length-set (omega arith)

pub returns : goal.returns
unfolding tree_array
returns c =
    let start = c in
    let args = start.args in
    let narrow : Within tree_limits (tree_words args.t) = (omega arith, (omega arith, (omega arith, tt))) in
    rw (c.from.ensures, c.from-2.ensures, c.from-3.ensures)
    (wrote tree_of tree_limits 32 args.words.now (tree_words args.t) args.i args.t start.requires.1 start.requires.0 refl narrow (tree-back args.t narrow))
