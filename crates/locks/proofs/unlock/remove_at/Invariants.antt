use mathlib.Core.Path.{◌≡◌}
use mathlib.Core.Bool.{true}
use Prim.Native.Nat.{◌≤◌, ◌<◌}
use lib.ListN.{length}
use Rattle.tables.specs.Words.{lock_array, lock_limits, records_fit}
use Rattle.locks.proofs.Removed.{moved}
use Rattle.locks.proofs.unlock.remove_at.Given as goal

abbrev pub invariant-loop-i : goal.invariant-loop-i
invariant-loop-i l = (l.place < l.i)
    × (l.i ≤ l.count)
    × (length l.words ≡ 641)
    × (lock_array l.words ≡ moved (lock_array l.initial.words) l.place l.i)
    × (records_fit lock_limits l.count l.initial.words ≡ true → records_fit lock_limits l.count l.words ≡ true)
