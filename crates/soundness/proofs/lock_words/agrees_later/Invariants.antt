use mathlib.Core.Path.{◌≡◌}
use Prim.Native.Nat.{◌+◌, ◌≤◌, ◌<◌}
use Rattle.lists.specs.Walk.{all, rest}
use Rattle.locks.specs.Answer.{file_in}
use Rattle.tables.specs.Words.{word, lock_array}
use Rattle.soundness.specs.Sound.{agree}
use Rattle.soundness.proofs.lock_words.agrees_later.Given as goal

abbrev pub invariant-loop-j : goal.invariant-loop-j
invariant-loop-j l = (l.i < l.j) × (l.end ≤ word l.words 0) × (all (agree (file_in l.files) l.l) (rest (lock_array l.words) (word l.words 0) (l.i + 1)) ≡ all (agree (file_in l.files) l.l) (rest (lock_array l.words) (word l.words 0) l.j))
