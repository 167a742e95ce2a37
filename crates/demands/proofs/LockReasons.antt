-- Of specs/LockReasons.antt: what rests on its other theorems. Assumes nothing.
use Rattle.std.specs.Prelude.{◌≡◌, ◌↔◌}
use Rattle.std.proofs.Common.{sym, ap, ◌∙◌}
use Rattle.std.proofs.Math.Path.{subst}
use Prim.Native.Nat.{ℕ, zero, suc, ◌+◌, ◌*◌, ◌≤◌, ◌<◌}
use native.Mathlib.Omega.{arith}
use mathlib.Core.List.{List, [], ◌∷◌, ◌++◌, Memᴰ as In}
use Rattle.records.specs.declared.Open.{Open}
use Rattle.records.specs.declared.Lock.{Lock}
use Rattle.records.specs.declared.Tables.{Tables}
use Rattle.locks.specs.Wire.{range_size, ranges_at}
use Rattle.locks.specs.Request.{lock_of}
use Rattle.locks.specs.declared.types.LockRange.{LockRange}
use Rattle.chain.specs.Layout.{LOCKING, header_command, FIRST, byte_count, fid_after_andx, unlock_count, lock_count}
use Rattle.chain.specs.Grammar.{Span, Reading}
use Rattle.invariants.specs.Fit.{Fit}
use Rattle.message.specs.Caller.{caller_of}
use Rattle.message.specs.declared.refusal.Status.{Status}
use Rattle.message.specs.Message.{take-message}
use Rattle.demands.specs.StatusRead.{status_read}
use Rattle.demands.specs.LoneLock.{shared_in}
use Rattle.demands.specs.LoneCall.{locking_fields}
use Rattle.demands.specs.LockWords.{Named, TakenOut, Released, none-to-release, release-then, Unnamed, names-none, later-names-none, PastEnd, AllGranted, none-to-grant, grant-then, OneBlocked, blocked-here, blocked-later}
use Rattle.demands.specs.CommandReasons.{LockingStatus, locking-not, locking-type, locking-unnamed, locking-past, locking-blocked, locking-full, locking-done}
use Rattle.demands.specs.WireFields.{one-first}
use Rattle.demands.specs.LockEffects.{RangeOn, GrantedLock, BarsGrant, Unlocked, none-to-unlock, unlock-then, Locked, none-to-lock, lock-then, area, large, range_in, ranges_in, granted-lock, locking-fits}
use Rattle.demands.proofs.LockEffects.{range-on, unlocked-from, locked-from}
use Rattle.demands.proofs.FirstReadings.{locking-exact}
use Rattle.demands.specs.LockReasons.{LockBlocked, LockingReason, PassesOn, UnlockFails, in-ranges, lock-one, lock_for, m, range-one, ranges_in_lem, u}
use Rattle.demands.specs.LockReasons.{blocked-now}
use Rattle.demands.specs.LockReasons.{blocked-then}
use Rattle.demands.specs.LockReasons.{reason-blocked}
use Rattle.demands.specs.LockReasons.{reason-done}
use Rattle.demands.specs.LockReasons.{reason-full}
use Rattle.demands.specs.LockReasons.{reason-not}
use Rattle.demands.specs.LockReasons.{reason-past}
use Rattle.demands.specs.LockReasons.{reason-type}
use Rattle.demands.specs.LockReasons.{reason-unnamed}
use Rattle.demands.specs.LockReasons.{unlock-later}
use Rattle.demands.specs.LockReasons.{unlock-none}

module _ (s : List ℕ) where
  module _ (n : ℕ) (fits : n * range_size (large s) ≤ byte_count s FIRST) where
    pub range-is : {k : ℕ} {r : LockRange} → k < n → RangeOn s k r → r ≡ range_in s k
    range-is {k} h on = range-one on (range-on s n fits k h)

    pub lock-is : {k : ℕ} {r : LockRange} {l : Lock} → k < n → RangeOn s k r → GrantedLock s r l → l ≡ (lock_for s) (range_in s k)
    lock-is {k} {r} {l} h on g = (lock-one s) r l g ∙ ap (lock_for s) (range-is h on)

    pub released-from : {k m : ℕ} {list left : List Lock} → k + m ≤ n → Unlocked s k m list left → Released (fid_after_andx s FIRST) (ranges_in s k m) list left
    unfolding ranges_at
    released-from h none-to-unlock = none-to-release
    released-from h (unlock-then {k} {n = m} {r} {list} {left} on out more) =
        release-then (subst (λ (x : LockRange). TakenOut (fid_after_andx s FIRST) x list left) (range-is (omega arith) on) out) (released-from (omega arith) more)

    pub fails-from : (k m : ℕ) {list : List Lock} → k + m ≤ n → Unnamed (fid_after_andx s FIRST) (ranges_in s k m) list → UnlockFails s k m list
    unfolding ranges_at
    fails-from k zero h fails = elim fails [ ]
    fails-from k (suc m) h (names-none f) = unlock-none (range-on s n fits k (omega arith)) f
    fails-from k (suc m) h (later-names-none out more) = unlock-later (range-on s n fits k (omega arith)) out (fails-from (suc k) m (omega arith) more)

    pub unnamed-from : {k m : ℕ} {list : List Lock} → k + m ≤ n → UnlockFails s k m list → Unnamed (fid_after_andx s FIRST) (ranges_in s k m) list
    unfolding ranges_at
    unnamed-from h (unlock-none {k} {n = m} {r} {list} on f) =
        names-none (subst (λ (x : LockRange). (l : Lock) → In l list → Named (fid_after_andx s FIRST) x l → ⊥) (range-is (omega arith) on) f)
    unnamed-from h (unlock-later {k} {n = m} {r} {list} {left} on out more) =
        later-names-none (subst (λ (x : LockRange). TakenOut (fid_after_andx s FIRST) x list left) (range-is (omega arith) on) out) (unnamed-from (omega arith) more)

    pub passes-from : (k m : ℕ) → k + m ≤ n → PastEnd (ranges_in s k m) → PassesOn s k m
    unfolding PastEnd
    passes-from k m h p =
        let w = (ranges_in_lem s n fits) k m p.1 in
        let below : w.0 < k + m = w.2 in
        record { place = w.0; from = w.1; below = below; range = p.0; is-there = subst (λ (x : LockRange). RangeOn s w.0 x) (sym w.3) (range-on s n fits w.0 (omega arith)); passes = p.2 }

    pub past-from : (k m : ℕ) → k + m ≤ n → PassesOn s k m → PastEnd (ranges_in s k m)
    unfolding PastEnd
    past-from k m h p =
        let below : p.place < k + m = p.below in
        let e : p.range ≡ range_in s p.place = range-is (omega arith) p.is-there in
        (p.range, rw e ((in-ranges s n fits) k m p.place p.from below), p.passes)

    module _ (t : Tables) (o : Open) where
      pub granted-from : {k m : ℕ} {list last : List Lock} → k + m ≤ n → Locked s t o k m list last
          → AllGranted t o (fid_after_andx s FIRST) (shared_in (locking_fields s)) (ranges_in s k m) list last
      unfolding ranges_at lock_of
      granted-from h none-to-lock = none-to-grant
      granted-from h (lock-then {k} {n = m} {r} {l} {list} {last} on g free more) =
          let e : l ≡ (lock_for s) (range_in s k) = lock-is (omega arith) on g in
          grant-then (subst (λ (x : Lock). BarsGrant t o list x → ⊥) e free)
          (subst (λ (x : Lock). AllGranted t o (fid_after_andx s FIRST) (shared_in (locking_fields s)) (ranges_in s (suc k) m) (list ++ (x ∷ [])) last) e (granted-from (omega arith) more))

      pub blocked-from : (k m : ℕ) {list : List Lock} → k + m ≤ n → OneBlocked t o (fid_after_andx s FIRST) (shared_in (locking_fields s)) (ranges_in s k m) list → LockBlocked s t o k m list
      unfolding ranges_at lock_of
      blocked-from k zero h blocked = elim blocked [ ]
      blocked-from k (suc m) h (blocked-here bar) = blocked-now (range-on s n fits k (omega arith)) (granted-lock s n fits (range_in s k)) bar
      blocked-from k (suc m) h (blocked-later free more) =
          blocked-then (range-on s n fits k (omega arith)) (granted-lock s n fits (range_in s k)) free (blocked-from (suc k) m (omega arith) more)

      pub one-blocked-from : {k m : ℕ} {list : List Lock} → k + m ≤ n → LockBlocked s t o k m list
          → OneBlocked t o (fid_after_andx s FIRST) (shared_in (locking_fields s)) (ranges_in s k m) list
      unfolding ranges_at lock_of
      one-blocked-from h (blocked-now {k} {n = m} {r} {l} {list} on g bar) =
          blocked-here (subst (λ (x : Lock). BarsGrant t o list x) (lock-is (omega arith) on g) bar)
      one-blocked-from h (blocked-then {k} {n = m} {r} {l} {list} on g free more) =
          let e : l ≡ (lock_for s) (range_in s k) = lock-is (omega arith) on g in
          blocked-later (subst (λ (x : Lock). BarsGrant t o list x → ⊥) e free)
          (subst (λ (x : Lock). OneBlocked t o (fid_after_andx s FIRST) (shared_in (locking_fields s)) (ranges_in s (suc k) m) (list ++ (x ∷ []))) e (one-blocked-from (omega arith) more))

module _ (connection : ℕ) (s : List ℕ) (t : Tables) (fits : (unlock_count s FIRST + lock_count s FIRST) * range_size (large s) ≤ byte_count s FIRST) where
  pub to-wire : {n : Status} → LockingStatus (caller_of connection s) t (locking_fields s) (area s) n → LockingReason connection s t n
  unfolding caller_of
  to-wire (locking-not h) = reason-not h
  to-wire (locking-type a b) = reason-type a b
  to-wire (locking-unnamed a b f) = reason-unnamed a b (fails-from s ((u connection s t fits) + (m connection s t fits)) fits 0 (u connection s t fits) (omega arith) f)
  to-wire (locking-past a b r p) = reason-past a b (unlocked-from s ((u connection s t fits) + (m connection s t fits)) fits 0 (u connection s t fits) (omega arith) r) (passes-from s ((u connection s t fits) + (m connection s t fits)) fits (u connection s t fits) (m connection s t fits) (omega arith) p)
  to-wire (locking-blocked {o} a b r p k) =
      reason-blocked a b (unlocked-from s ((u connection s t fits) + (m connection s t fits)) fits 0 (u connection s t fits) (omega arith) r) (λ w. p (past-from s ((u connection s t fits) + (m connection s t fits)) fits (u connection s t fits) (m connection s t fits) (omega arith) w)) (blocked-from s ((u connection s t fits) + (m connection s t fits)) fits t o (u connection s t fits) (m connection s t fits) (omega arith) k)
  to-wire (locking-full {o} a b r p k l) =
      reason-full a b (unlocked-from s ((u connection s t fits) + (m connection s t fits)) fits 0 (u connection s t fits) (omega arith) r) (λ w. p (past-from s ((u connection s t fits) + (m connection s t fits)) fits (u connection s t fits) (m connection s t fits) (omega arith) w)) (locked-from s ((u connection s t fits) + (m connection s t fits)) fits t o (u connection s t fits) (m connection s t fits) (omega arith) k) l
  to-wire (locking-done {o} a b r p k l) =
      reason-done a b (unlocked-from s ((u connection s t fits) + (m connection s t fits)) fits 0 (u connection s t fits) (omega arith) r) (λ w. p (past-from s ((u connection s t fits) + (m connection s t fits)) fits (u connection s t fits) (m connection s t fits) (omega arith) w)) (locked-from s ((u connection s t fits) + (m connection s t fits)) fits t o (u connection s t fits) (m connection s t fits) (omega arith) k) l

  pub from-wire : {n : Status} → LockingReason connection s t n → LockingStatus (caller_of connection s) t (locking_fields s) (area s) n
  unfolding caller_of
  from-wire (reason-not h) = locking-not h
  from-wire (reason-type a b) = locking-type a b
  from-wire (reason-unnamed a b f) = locking-unnamed a b (unnamed-from s ((u connection s t fits) + (m connection s t fits)) fits (omega arith) f)
  from-wire (reason-past a b r p) = locking-past a b (released-from s ((u connection s t fits) + (m connection s t fits)) fits (omega arith) r) (past-from s ((u connection s t fits) + (m connection s t fits)) fits (u connection s t fits) (m connection s t fits) (omega arith) p)
  from-wire (reason-blocked {o} a b r p k) =
      locking-blocked a b (released-from s ((u connection s t fits) + (m connection s t fits)) fits (omega arith) r) (λ w. p (passes-from s ((u connection s t fits) + (m connection s t fits)) fits (u connection s t fits) (m connection s t fits) (omega arith) w)) (one-blocked-from s ((u connection s t fits) + (m connection s t fits)) fits t o (omega arith) k)
  from-wire (reason-full {o} a b r p k l) =
      locking-full a b (released-from s ((u connection s t fits) + (m connection s t fits)) fits (omega arith) r) (λ w. p (passes-from s ((u connection s t fits) + (m connection s t fits)) fits (u connection s t fits) (m connection s t fits) (omega arith) w)) (granted-from s ((u connection s t fits) + (m connection s t fits)) fits t o (omega arith) k) l
  from-wire (reason-done {o} a b r p k l) =
      locking-done a b (released-from s ((u connection s t fits) + (m connection s t fits)) fits (omega arith) r) (λ w. p (passes-from s ((u connection s t fits) + (m connection s t fits)) fits (u connection s t fits) (m connection s t fits) (omega arith) w)) (granted-from s ((u connection s t fits) + (m connection s t fits)) fits t o (omega arith) k) l

-- "Order: as written, for the whole of each command with all its ranges": the reply to a message of one LOCKING has a status exactly for its reason
pub locking-reason-exact : (connection : ℕ) (s : List ℕ) {span : Span} → Reading s (span ∷ []) → (t : Tables) (memory room : List ℕ) → Fit s t memory room
    → header_command s ≡ LOCKING → (n : Status) → (status_read (take-message connection s t memory room).room ≡ n) ↔ LockingReason connection s t n
locking-reason-exact connection s r t memory room fit e n =
    let fits = locking-fits (one-first r) e in
    let q = locking-exact connection s r t memory room fit e n in
    (λ h. to-wire connection s t fits (q.0 h), λ h. q.1 (from-wire connection s t fits h))
