use mathlib.Core.Path.{◌≡◌}
use mathlib.Core.Bool.{true}
use Prim.Native.Nat.{◌+◌, ◌-◌, ◌≤◌}
use lib.ListN.{length}
use Rattle.tables.specs.Words.{lock_array, lock_limits, records_fit}
use Rattle.locks.proofs.Appended.{appended}
use Rattle.locks.proofs.grants.append_locks.Given as goal

abbrev pub invariant-loop-k : goal.invariant-loop-k
invariant-loop-k l = (l.from ≤ l.k) × (l.k ≤ l.to) × (length l.words ≡ 641) × (lock_array l.words ≡ appended (lock_array l.initial.words) l.held l.q l.area l.k)
    × (records_fit lock_limits l.held l.initial.words ≡ true → records_fit lock_limits (l.held + (l.k - l.from)) l.words ≡ true)
