use Rattle.tables.specs.Words.{word}
use Rattle.numbers.specs.ByNumber.{Marked}
use Rattle.soundness.specs.InWords.{rows}
use Rattle.soundness.specs.InWordsLaws.{row_tid, row_code, tree_rule}
use Rattle.soundness.proofs.tree_words.trees_marked.Given as goal

abbrev pub invariant-loop-i : goal.invariant-loop-i
invariant-loop-i l = Marked row_tid row_code 0 33 (tree_rule l.uids) (rows 3 32 l.words) (word l.words 0) l.i l.codes
