use mathlib.Core.Path.{◌≡◌}
use Rattle.lists.specs.Walk.{all, rest}
use Rattle.tables.specs.Words.{file_array}
use Rattle.soundness.specs.Sound.{file_ok}
use Rattle.soundness.proofs.file_words.files_ok.Given as goal

abbrev pub invariant-loop-i : goal.invariant-loop-i
invariant-loop-i l = all file_ok (file_array l.words) ≡ all file_ok (rest (file_array l.words) 16 l.i)
