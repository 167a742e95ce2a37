-- Of specs/LockReasons.antt: what rests on its other theorems. Assumes nothing.
use Rattle.std.specs.Prelude.{◌≡◌, ◌↔◌}
use Rattle.std.proofs.Common.{sym}
use Rattle.std.proofs.Math.Path.{subst}
use Prim.Native.Nat.{ℕ, ◌+◌, ◌^◌, ◌≤◌, ◌<◌}
use native.Mathlib.Omega.{arith}
use mathlib.Core.List.{List}
use Rattle.records.specs.declared.Open.{Open}
use Rattle.records.specs.declared.Lock.{Lock}
use Rattle.records.specs.declared.Tables.{Tables}
use Rattle.records.specs.Held.{locks_of}
use Rattle.locks.specs.Request.{of_header, lock_of}
use Rattle.locks.specs.declared.types.LockRange.{LockRange}
use Rattle.chain.specs.Layout.{LOCKING, header_command, FIRST, fid_after_andx, lock_type, unlock_count, lock_count}
use Rattle.chain.specs.Grammar.{Span, Reading}
use Rattle.invariants.specs.Fit.{Fit}
use Rattle.message.specs.Caller.{caller_of}
use Rattle.message.specs.Message.{take-message}
use Rattle.demands.specs.Admitted.{Admitted}
use Rattle.demands.specs.LoneCall.{FirstConflict}
use Rattle.demands.proofs.LoneCall.{lone-lock-reading}
use Rattle.demands.specs.CommandReasons.{OnlyTwoBits}
use Rattle.demands.specs.WireFields.{reading-first}
use Rattle.demands.specs.LockEffects.{RangeOn, GrantedLock, BarsGrant, range_in, locking-fits}
use Rattle.demands.proofs.LockReasons.{lock-is, range-is}
use Rattle.demands.specs.LockReasons.{lock_for}

-- "A lock alone in its request, of a served type, on a valid open and within range, is refused for conflict exactly when a listed lock of that file overlaps it and
-- the two aren't both shared": of any reading, the lock's range where the message has it
pub lone-lock-wire : (connection : ℕ) (s : List ℕ) {spans : List Span} → Reading s spans → (t : Tables) (memory room : List ℕ) → Fit s t memory room → (o : Open)
    → header_command s ≡ LOCKING → unlock_count s FIRST ≡ 0 → lock_count s FIRST ≡ 1 → OnlyTwoBits (lock_type s FIRST)
    → Admitted (caller_of connection s) t (fid_after_andx s FIRST) o → (l : Lock) (r : LockRange) → RangeOn s 0 r → GrantedLock s r l → r.offset + r.length ≤ 2 ^ 64
    → FirstConflict (take-message connection s t memory room) ↔ BarsGrant t o (locks_of t) l
unfolding of_header lock_of
lone-lock-wire connection s read t memory room fit o command none one bits valid l r on g low =
    let fits = locking-fits (reading-first read).1 command in
    let n : 0 < unlock_count s FIRST + lock_count s FIRST = omega arith in
    let same : r ≡ range_in s 0 = range-is s (unlock_count s FIRST + lock_count s FIRST) fits n on in
    let e : l ≡ lock_for s (range_in s 0) = lock-is s (unlock_count s FIRST + lock_count s FIRST) fits n on g in
    subst (λ (x : Lock). FirstConflict (take-message connection s t memory room) ↔ BarsGrant t o (locks_of t) x) (sym e)
    (lone-lock-reading connection s read t memory room fit o command none one bits valid (subst (λ (x : LockRange). x.offset + x.length ≤ 2 ^ 64) same low))
