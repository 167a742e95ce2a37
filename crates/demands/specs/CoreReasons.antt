-- The status of a LOCK_BYTE_RANGE and of an UNLOCK_BYTE_RANGE and the one reason for it, in plain words (document 02, CR 3: "the rules of their AndX counterparts, the process
-- from the header; the lock is exclusive"), and that a request of one range comes to just that. Assumes nothing.
use Rattle.std.specs.Prelude.{ℕ, ◌≤◌, ◌<◌, length}
use Rattle.std.proofs.Common.{arith}
use mathlib.Core.List.{List, Memᴰ as In}
use Rattle.records.specs.declared.Open.{Open}
use Rattle.records.specs.declared.Lock.{Lock}
use Rattle.records.specs.declared.Tables.{Tables}
use Rattle.records.specs.Held.{locks_of}
use Rattle.locks.specs.declared.types.LockRange.{LockRange}
use Rattle.chain.specs.declared.block.RangeFields.{RangeFields}
use Rattle.message.specs.declared.caller.Caller.{Caller}
use Rattle.message.specs.Refusal.{status}
use Rattle.message.specs.declared.refusal.Status.{Status}
use Rattle.demands.specs.LoneLock.{core_range, BarsRange}
use Rattle.demands.specs.Admitted.{Admitted, NoOpenFor}
use Rattle.demands.specs.LockWords.{Named, TakenOut, this-one, later-one}

-- ---- the reasons

-- LOCK_BYTE_RANGE: 1/33 a listed lock of the file that overlaps it, 1/8 "no lock record free": 128 are held already. 2/65535 and 1/87 can't arise, nor 1/158: it unlocks
-- nothing.
pub data LockStatus (c : Caller) (t : Tables) (f : RangeFields) : Status → Type 0 where
  -- 2/91, 2/5 or 1/6: Admitted.antt
  lock-not : {n : Status} → NoOpenFor c t f.fid n → LockStatus c t f n
  lock-barred : {o : Open} → Admitted c t f.fid o → BarsRange c t f o → LockStatus c t f (status 1 33)
  lock-full : {o : Open} → Admitted c t f.fid o → (BarsRange c t f o → ⊥) → 128 ≤ length (locks_of t) → LockStatus c t f (status 1 8)
  lock-done : {o : Open} → Admitted c t f.fid o → (BarsRange c t f o → ⊥) → length (locks_of t) < 128 → LockStatus c t f (status 0 0)

-- a listed lock "with equal FID, process, offset and length"
pub record Listed (c : Caller) (t : Tables) (f : RangeFields) : Type 0 where
  pub lock : Lock
  pub listed : In lock (locks_of t)
  pub named : Named f.fid (core_range c f) lock

-- UNLOCK_BYTE_RANGE: 1/158 "no such lock to release"
pub data UnlockStatus (c : Caller) (t : Tables) (f : RangeFields) : Status → Type 0 where
  -- 2/91, 2/5 or 1/6: Admitted.antt
  unlock-not : {n : Status} → NoOpenFor c t f.fid n → UnlockStatus c t f n
  unlock-unnamed : {o : Open} → Admitted c t f.fid o → (Listed c t f → ⊥) → UnlockStatus c t f (status 1 158)
  unlock-done : {o : Open} → Admitted c t f.fid o → Listed c t f → UnlockStatus c t f (status 0 0)

-- ---- what a request of one range comes to

-- what is left is no longer than what was listed, of which there are at most 128
pub out-shorter : {fid : ℕ} {r : LockRange} {list left : List Lock} → TakenOut fid r list left → length left ≤ length list
out-shorter (this-one n) = omega arith
out-shorter (later-one h out) = let few = out-shorter out in omega arith
