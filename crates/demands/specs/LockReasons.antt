-- The status of a LOCKING and the one reason for it (document 01, "Refusals on the wire" and "Locks, reads and writes"), said of the call and of the message's bytes:
-- ranges are where the message has them, and each lock is told by its fields. Assumes nothing.
use Rattle.std.specs.Prelude.{◌≡◌}
use Rattle.std.proofs.Common.{sym, ap, ◌∙◌}
use Rattle.std.proofs.Math.Logic.{inl, inr}
use Prim.Native.Nat.{ℕ, zero, suc, ◌+◌, ◌*◌, ◌%◌, ◌^◌, ◌≤◌, ◌<◌}
use native.Mathlib.Omega.{arith}
use Rattle.std.proofs.Math.Decide.{ℕ_discrete}
use mathlib.Core.List.Memᴰ.{cases_cons as first-or-later}
use mathlib.Core.List.Memᴰ.{head as here}
use mathlib.Core.List.Memᴰ.{tail as there}
use mathlib.Core.List.{List, [], ◌∷◌, ◌++◌, Memᴰ as In}
use Rattle.std.proofs.Math.ListN.{length}
use Rattle.std.proofs.Math.Dec.{eqb}
use borrow.Author.Tests.{eqb-true, eq-eqb}
use Rattle.lists.specs.Truth.{same_truth}
use Rattle.records.specs.declared.Open.{Open}
use Rattle.records.specs.declared.Lock.{Lock}
use Rattle.records.specs.declared.Tables.{Tables}
use Rattle.records.specs.Held.{locks_of}
use Rattle.locks.specs.Wire.{range_size, ranges_at}
use Rattle.locks.specs.Request.{lock_of}
use Rattle.locks.specs.declared.types.LockRange.{LockRange}
use Rattle.chain.specs.Layout.{FIRST, byte_count, fid_after_andx, lock_type, unlock_count, lock_count}
use Rattle.message.specs.Caller.{caller_of}
use Rattle.message.specs.Refusal.{status}
use Rattle.message.specs.declared.refusal.Status.{Status}
use Rattle.demands.specs.Admitted.{Admitted, NoOpenFor}
use Rattle.demands.specs.LoneLock.{shared_in}
use Rattle.demands.specs.LoneCall.{locking_fields}
use Rattle.demands.specs.LockWords.{Named, TakenOut}
use Rattle.demands.specs.CommandReasons.{OnlyTwoBits}
use Rattle.demands.specs.LockEffects.{RangeOn, short-range, long-range, GrantedLock, BarsGrant, Unlocked, Locked, large, range_in, ranges_in}

-- ---- the reasons

-- "no such lock to release": n unlocks from the k-th range on, one of which names no listed lock
pub data UnlockFails (s : List ℕ) : ℕ → ℕ → List Lock → Type 0 where
  unlock-none : {k n : ℕ} {r : LockRange} {list : List Lock} → RangeOn s k r → ((l : Lock) → In l list → Named (fid_after_andx s FIRST) r l → ⊥)
      → UnlockFails s k (suc n) list
  unlock-later : {k n : ℕ} {r : LockRange} {list left : List Lock} → RangeOn s k r → TakenOut (fid_after_andx s FIRST) r list left → UnlockFails s (suc k) n left
      → UnlockFails s k (suc n) list

-- "lock range passes 2^64": one of n ranges from the k-th on
pub record PassesOn (s : List ℕ) (k n : ℕ) : Type 0 where
  pub place : ℕ
  pub from : k ≤ place
  pub below : place < k + n
  pub range : LockRange
  pub is-there : RangeOn s place range
  pub passes : 2 ^ 64 < range.offset + range.length

-- "lock conflict": n locks from the k-th range on, "each against the list as it stands", one of which has a lock in its way
pub data LockBlocked (s : List ℕ) (t : Tables) (o : Open) : ℕ → ℕ → List Lock → Type 0 where
  blocked-now : {k n : ℕ} {r : LockRange} {l : Lock} {list : List Lock} → RangeOn s k r → GrantedLock s r l → BarsGrant t o list l → LockBlocked s t o k (suc n) list
  blocked-then : {k n : ℕ} {r : LockRange} {l : Lock} {list : List Lock} → RangeOn s k r → GrantedLock s r l → (BarsGrant t o list l → ⊥)
      → LockBlocked s t o (suc k) n (list ++ (l ∷ [])) → LockBlocked s t o k (suc n) list

-- "2/65535 lock type bit other than 0x01 and 0x10; 1/158 no such lock to release; 1/87 lock range passes 2^64; 1/33 lock conflict; 1/8 no lock record free", each
-- where those before it do not hold
pub data LockingReason (connection : ℕ) (s : List ℕ) (t : Tables) : Status → Type 0 where
  -- 2/91, 2/5 or 1/6: Admitted.antt
  reason-not : {n : Status} → NoOpenFor (caller_of connection s) t (fid_after_andx s FIRST) n → LockingReason connection s t n
  reason-type : {o : Open} → Admitted (caller_of connection s) t (fid_after_andx s FIRST) o → (OnlyTwoBits (lock_type s FIRST) → ⊥) → LockingReason connection s t (status 2 65535)
  reason-unnamed : {o : Open} → Admitted (caller_of connection s) t (fid_after_andx s FIRST) o → OnlyTwoBits (lock_type s FIRST)
      → UnlockFails s 0 (unlock_count s FIRST) (locks_of t) → LockingReason connection s t (status 1 158)
  reason-past : {o : Open} {left : List Lock} → Admitted (caller_of connection s) t (fid_after_andx s FIRST) o → OnlyTwoBits (lock_type s FIRST)
      → Unlocked s 0 (unlock_count s FIRST) (locks_of t) left → PassesOn s (unlock_count s FIRST) (lock_count s FIRST) → LockingReason connection s t (status 1 87)
  reason-blocked : {o : Open} {left : List Lock} → Admitted (caller_of connection s) t (fid_after_andx s FIRST) o → OnlyTwoBits (lock_type s FIRST)
      → Unlocked s 0 (unlock_count s FIRST) (locks_of t) left → (PassesOn s (unlock_count s FIRST) (lock_count s FIRST) → ⊥)
      → LockBlocked s t o (unlock_count s FIRST) (lock_count s FIRST) left → LockingReason connection s t (status 1 33)
  reason-full : {o : Open} {left last : List Lock} → Admitted (caller_of connection s) t (fid_after_andx s FIRST) o → OnlyTwoBits (lock_type s FIRST)
      → Unlocked s 0 (unlock_count s FIRST) (locks_of t) left → (PassesOn s (unlock_count s FIRST) (lock_count s FIRST) → ⊥)
      → Locked s t o (unlock_count s FIRST) (lock_count s FIRST) left last → 128 < length last → LockingReason connection s t (status 1 8)
  reason-done : {o : Open} {left last : List Lock} → Admitted (caller_of connection s) t (fid_after_andx s FIRST) o → OnlyTwoBits (lock_type s FIRST)
      → Unlocked s 0 (unlock_count s FIRST) (locks_of t) left → (PassesOn s (unlock_count s FIRST) (lock_count s FIRST) → ⊥)
      → Locked s t o (unlock_count s FIRST) (lock_count s FIRST) left last → length last ≤ 128 → LockingReason connection s t (status 0 0)

-- ---- a range and a lock are told by their fields

same-range : (r q : LockRange) → r.process ≡ q.process → r.offset ≡ q.offset → r.length ≡ q.length → r ≡ q
same-range r q a b c = λ i. record { process = a i; offset = b i; length = c i }

pub range-one : {s : List ℕ} {k : ℕ} {r q : LockRange} → RangeOn s k r → RangeOn s k q → r ≡ q
range-one {r = r} {q = q} (short-range z a b c) (short-range y d e f) = same-range r q (a ∙ sym d) (b ∙ sym e) (c ∙ sym f)
range-one {r = r} {q = q} (long-range z a b c) (long-range y d e f) = same-range r q (a ∙ sym d) (b ∙ sym e) (c ∙ sym f)
range-one (short-range z a b c) (long-range y d e f) = absurd (omega arith)
range-one (long-range z a b c) (short-range y d e f) = absurd (omega arith)

module _ (s : List ℕ) where
  -- the lock of a range
  abbrev pub lock_for : LockRange → Lock
  lock_for r = lock_of (fid_after_andx s FIRST) (shared_in (locking_fields s)) r

  pub lock-one : (r : LockRange) (l : Lock) → GrantedLock s r l → l ≡ lock_for r
  unfolding lock_of
  lock-one r l g =
      let shared : l.shared ≡ eqb (lock_type s FIRST % 2) 1 =
      same_truth l.shared (eqb (lock_type s FIRST % 2) 1) (λ e. eq-eqb (lock_type s FIRST % 2) 1 (g.of-shared.0 e)) (λ e. g.of-shared.1 (eqb-true (lock_type s FIRST % 2) 1 e)) in
      λ i. record { fid = g.of-fid i; process = g.of-process i; offset = g.of-offset i; length = g.of_length i; shared = shared i }

  module _ (n : ℕ) (fits : n * range_size (large s) ≤ byte_count s FIRST) where
    -- ---- unlocks

    -- ---- ranges past 2^64

    pub in-ranges : (k m j : ℕ) → k ≤ j → j < k + m → In (range_in s j) (ranges_in s k m)
    unfolding ranges_at
    in-ranges k zero j h l = absurd (omega arith)
    in-ranges k (suc m) j h l =
        elim (ℕ_discrete j k) [
          | yes e ↦ here (ap (range_in s) e)
          | no e ↦ there (in-ranges (suc k) m j (omega arith) (omega arith))
        ]

    pub ranges_in_lem : (k m : ℕ) {r : LockRange} → In r (ranges_in s k m) → (j : ℕ) × (k ≤ j) × (j < k + m) × (r ≡ range_in s j)
    unfolding ranges_at
    ranges_in_lem k zero i = elim i [ ]
    ranges_in_lem k (suc m) i =
        elim (first-or-later i) [
          | inl e ↦ (k, omega arith, omega arith, e)
          | inr more ↦ let w = ranges_in_lem (suc k) m more in
              let from : suc k ≤ w.0 = w.1 in
              let below : w.0 < suc k + m = w.2 in
              (w.0, omega arith, omega arith, w.3)
        ]
    -- ---- locks

-- ---- the reasons are those of the command's fields

module _ (connection : ℕ) (s : List ℕ) (t : Tables) (fits : (unlock_count s FIRST + lock_count s FIRST) * range_size (large s) ≤ byte_count s FIRST) where
  abbrev pub u : ℕ
  u = unlock_count s FIRST

  abbrev pub m : ℕ
  m = lock_count s FIRST
