use mathlib.Core.Path.{◌≡◌}
use Rattle.lists.specs.Walk.{rest}
use Rattle.locks.specs.Answer.{file_in}
use Rattle.tables.specs.Words.{word, lock_array}
use Rattle.tables.specs.Written.{locks_in}
use Rattle.soundness.specs.Sound.{agree_all}
use Rattle.soundness.proofs.lock_words.locks_agree.Given as goal

abbrev pub invariant-loop-i : goal.invariant-loop-i
invariant-loop-i l = agree_all (file_in l.files) (locks_in l.words) ≡ agree_all (file_in l.files) (rest (lock_array l.words) (word l.words 0) l.i)
