use mathlib.Core.Path.{◌≡◌}
use Rattle.lists.specs.Walk.{rest}
use Rattle.tables.specs.Words.{word, open_array}
use Rattle.soundness.specs.File.{file_table}
use Rattle.soundness.proofs.open_words.file_table.Given as goal

abbrev pub invariant-loop-i : goal.invariant-loop-i
invariant-loop-i l = l.files ≡ file_table (rest (open_array l.words) (word l.words 0) l.i)
