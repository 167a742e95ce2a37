use mathlib.Core.Path.{◌≡◌}
use Prim.Native.Nat.{◌+◌, ◌-◌}
use Rattle.numbers.specs.Number.{free_from}
use Rattle.numbers.specs.ColumnWords.{numbers_in}
use Rattle.numbers.proofs.column_words.smallest_free.Given as goal

abbrev pub invariant-loop-i : goal.invariant-loop-i
invariant-loop-i l = free_from l.count 1 (numbers_in l.step l.count l.words) ≡ free_from (l.count - l.i) (l.i + 1) (numbers_in l.step l.count l.words)
