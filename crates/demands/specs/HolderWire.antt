-- The holder of a LOCKING that is the first command of its message, by the message's bytes: ranges are where the message has them, and each lock is told by its fields
-- (document 02, CR 2: "in the list as it then stands"; "A lock granted earlier in the same request may be the answer"); of a LOCK_BYTE_RANGE likewise. Assumes nothing.
use Rattle.std.specs.Prelude.{◌≡◌, ℕ, ◌+◌, ◌*◌, ◌≤◌, ◌<◌, true}
use mathlib.Core.List.{List}
use Rattle.records.specs.declared.Open.{Open}
use Rattle.records.specs.declared.Lock.{Lock}
use Rattle.records.specs.declared.Tables.{Tables}
use Rattle.records.specs.Held.{locks_of}
use Rattle.locks.specs.Wire.{range_size}
use Rattle.locks.specs.declared.types.LockRange.{LockRange}
use Rattle.locks.specs.declared.types.Holder.{Holder}
use Rattle.chain.specs.Layout.{FIRST, byte_count, fid_after_andx, lock_type, unlock_count, lock_count}
use Rattle.message.specs.Caller.{caller_of}
use Rattle.demands.specs.Admitted.{Admitted}
use Rattle.demands.specs.LoneCall.{locking_fields, locking_area}
use Rattle.demands.specs.CommandReasons.{OnlyTwoBits}
use Rattle.demands.specs.LockEffects.{RangeOn, GrantedLock, Unlocked, Locked, large}
use Rattle.demands.specs.LockReasons.{PassesOn}
use Rattle.demands.specs.HolderWords.{FirstInWay, LockHeld}

-- ---- the plain words

-- a LOCKING of a served type with its ranges within 2^64, through an open: its unlocks leave a list of those held, `granted` of its locks stand behind it, none having
-- had a lock in its way, and the next range has the holder in its way, the first of the list that then stands
pub record LockHeldOn (connection : ℕ) (s : List ℕ) (t : Tables) (h : Holder) : Type 0 where
  pub through : Open
  pub admitted : Admitted (caller_of connection s) t (fid_after_andx s FIRST) through
  pub served : OnlyTwoBits (lock_type s FIRST)
  pub left : List Lock
  pub unlocked : Unlocked s 0 (unlock_count s FIRST) (locks_of t) left
  pub within : PassesOn s (unlock_count s FIRST) (lock_count s FIRST) → ⊥
  pub granted : ℕ
  pub fewer : granted < lock_count s FIRST
  pub standing : List Lock
  pub earlier : Locked s t through (unlock_count s FIRST) granted left standing
  pub range : LockRange
  pub range-there : RangeOn s (unlock_count s FIRST + granted) range
  pub asked : Lock
  pub asked_is : GrantedLock s range asked
  pub first : FirstInWay t through standing asked.offset asked.length (λ l. (l.shared ≡ true) × (asked.shared ≡ true) → ⊥) h

-- one of the request's own earlier ranges, from the k-th on: the request's FID and that range's process
pub record OwnRangeOn (s : List ℕ) (k n : ℕ) (l : Lock) : Type 0 where
  pub place : ℕ
  pub from : k ≤ place
  pub below : place < k + n
  pub range : LockRange
  pub range-there : RangeOn s place range
  pub is-its : GrantedLock s range l

-- ---- they are those of the command's fields

module _ (connection : ℕ) (s : List ℕ) (t : Tables) (h : Holder) (fits : (unlock_count s FIRST + lock_count s FIRST) * range_size (large s) ≤ byte_count s FIRST) where
  abbrev pub u : ℕ
  u = unlock_count s FIRST

  abbrev pub m : ℕ
  m = lock_count s FIRST

  abbrev pub Fields : Type 0
  Fields = LockHeld (caller_of connection s) t (locking_fields s) (locking_area s) h

-- ---- said of the call, of any reading that begins with a LOCKING

-- ---- of any reading that begins with a LOCK_BYTE_RANGE (document 02, CR 3): its one range is where the message has it
