use Rattle.tables.specs.Words.{word}
use Rattle.numbers.specs.ByNumber.{Marked}
use Rattle.soundness.specs.InWords.{rows}
use Rattle.soundness.specs.InWordsLaws.{row_fid, row_file, open_rule}
use Rattle.soundness.proofs.open_words.opens_marked.Given as goal

abbrev pub invariant-loop-i : goal.invariant-loop-i
invariant-loop-i l = Marked row_fid row_file 255 65 (open_rule l.codes) (rows 9 64 l.words) (word l.words 0) l.i l.files
