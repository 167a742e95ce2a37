use mathlib.Core.Path.{◌≡◌}
use Prim.Native.Nat.{◌≤◌}
use Rattle.lists.specs.Walk.{rest}
use Rattle.numbers.specs.ColumnWords.{numbers_in, marks_of}
use Rattle.numbers.proofs.column_words.marks.Given as goal

abbrev pub invariant-loop-i : goal.invariant-loop-i
invariant-loop-i l = (l.i ≤ l.count) × (l.marks ≡ marks_of (rest (numbers_in l.step l.count l.words) l.count l.i))
