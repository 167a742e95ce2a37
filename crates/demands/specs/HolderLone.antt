-- The holder of a read, a write and a lock alone in its request, through a given open: the first of the locks held that is in the way. A LOCK_BYTE_RANGE is such a lock
-- (document 02, CR 3). Assumes nothing.
use Rattle.std.specs.Prelude.{◌≡◌, ◌↔◌, ℕ, ◌+◌, ◌/◌, ◌^◌, ◌<◌, true, false, List, [], ◌∷◌}
use Rattle.std.proofs.Common.{sym, ◌∙◌}
use native.Mathlib.Omega.{arith}
use Rattle.records.specs.declared.Open.{Open}
use Rattle.records.specs.declared.Lock.{Lock}
use Rattle.records.specs.declared.Tables.{Tables}
use Rattle.records.specs.Held.{opens_of, locks_of}
use Rattle.numbers.specs.Column.{fid_of}
use Rattle.locks.specs.Wire.{ranges_at}
use Rattle.locks.specs.Request.{of_header}
use Rattle.locks.specs.declared.types.Holder.{Holder}
use Rattle.soundness.specs.Sound.{sound}
use Rattle.chain.specs.declared.block.LockingFields.{LockingFields}
use Rattle.invariants.specs.Numbered.{numbered-same}
use Rattle.invariants.specs.SoundParts.{sound-says}
use Rattle.message.specs.declared.caller.Caller.{Caller}
use Rattle.demands.specs.LoneLock.{AnyLock, lone_range, shared_in, any-clash, exclusive-way}
use Rattle.demands.specs.LoneCall.{WithinRange}
use Rattle.demands.specs.Admitted.{Admitted}
use Rattle.demands.specs.LockWords.{PastEnd, one-past}
use Rattle.demands.specs.CommandReasons.{ranges_by, locks_in}
use Rattle.demands.specs.HolderWords.{FirstInWay}

-- ---- through a given open

module _ {c : Caller} {t : Tables} (ok : sound t ≡ true) {fid : ℕ} {o : Open} (a : Admitted c t fid o) where
  pub same-open : {p : Open} → Admitted c t fid p → p ≡ o
  same-open b = numbered-same fid_of 64 (opens_of t) (sound-says t ok).records.fids b.opened.listed a.opened.listed (b.opened.of-fid ∙ sym a.opened.of-fid)

-- ---- a lock alone in its request

-- the first listed lock of the open's file that "overlaps it and the two aren't both shared"
abbrev pub LoneHeld : Tables → Open → LockingFields → List ℕ → Holder → Type 0
LoneHeld t o f area h =
    FirstInWay t o (locks_of t) (lone_range f area).offset (lone_range f area).length (λ l. (l.shared ≡ true) × (shared_in f ≡ true) → ⊥) h

module _ {c : Caller} {t : Tables} (ok : sound t ≡ true) (f : LockingFields) (area : List ℕ) {o : Open} (a : Admitted c t f.fid o) (none_out : f.unlocks ≡ 0) (one : f.locks ≡ 1) where
  pub of_none : (k n : ℕ) → n ≡ 0 → ranges_by c.process f area k n ≡ []
  unfolding ranges_at
  of_none k n e = rw e

  pub not-past : WithinRange f area → PastEnd (locks_in c f area) → ⊥
  unfolding ranges_at of_header
  not-past low p =
      let only : PastEnd (of_header (c.process / 65536) (lone_range f area) ∷ []) = rw (none_out, one) at p in
      let past : 2 ^ 64 < (lone_range f area).offset + (lone_range f area).length = one-past _ only in
      omega arith

-- ---- a LOCK_BYTE_RANGE

-- an exclusive lock asked for and a listed one are not both shared
pub exclusive-first : {t : Tables} {o : Open} {list : List Lock} {offset size : ℕ} {h : Holder}
    → FirstInWay t o list offset size (λ l. (l.shared ≡ true) × (false ≡ true) → ⊥) h ↔ FirstInWay t o list offset size AnyLock h
exclusive-first {h = h} = (
  λ w. record {
    in_list = w.in_list;
    stands-there = w.stands-there;
    of-file = w.of-file;
    overlap = w.overlap;
    clash = tt;
    none_before = λ b. w.none_before (exclusive-way.1 b);
  },
  λ w. record {
    in_list = w.in_list;
    stands-there = w.stands-there;
    of-file = w.of-file;
    overlap = w.overlap;
    clash = any-clash h.lock;
    none_before = λ b. w.none_before (exclusive-way.0 b);
  },
)

-- ---- core commands through a given open
