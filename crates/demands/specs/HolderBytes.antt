-- A holder has at least one byte and does not pass 2^64 (document 01: "Length 0 covers no byte and overlaps nothing"; "no lock passes 2^64"; "1/87 lock range passes
-- 2^64", before 1/33), so that its last byte is offset + length - 1. Assumes nothing.
use Rattle.std.specs.Prelude.{◌≡◌, ℕ, zero, suc, ◌+◌, ◌^◌, ◌≤◌, ◌<◌, Bool, true}
use Rattle.std.proofs.Common.{inl, inr, arith}
use Rattle.std.proofs.Math.Decide.{dec_lt}
use mathlib.Core.List.Memᴰ.{cases_cons as first-or-later}
use mathlib.Core.List.Memᴰ.{head as here}
use mathlib.Core.List.Memᴰ.{tail as there}
use mathlib.Core.List.{List, Memᴰ as In, map}
use Rattle.lists.specs.PairLaws.{place_in}
use Rattle.records.specs.declared.Open.{Open}
use Rattle.records.specs.declared.Lock.{Lock}
use Rattle.records.specs.declared.Tables.{Tables}
use Rattle.records.specs.Empty.{no_lock}
use Rattle.records.specs.Held.{locks_of}
use Rattle.locks.specs.Range.{InRange, Overlap}
use Rattle.locks.specs.Wire.{ranges_at}
use Rattle.locks.specs.declared.types.LockRange.{LockRange}
use Rattle.locks.specs.declared.types.Holder.{Holder}
use Rattle.chain.specs.declared.block.LockingFields.{LockingFields}
use Rattle.soundness.specs.Sound.{sound}
use Rattle.claims.proofs.SoundPlain.{sound-plain}
use Rattle.message.specs.declared.caller.Caller.{Caller}
use Rattle.demands.specs.LockWords.{PastEnd}
use Rattle.demands.specs.HolderWords.{LockHeld, Stands}
use Rattle.demands.specs.HolderOpen.{OwnRange}

-- a lock that overlaps something has a byte
pub stands-some : {t : Tables} {o : Open} {list : List Lock} {offset size : ℕ} {h : Holder} → Stands t o list offset size h → 1 ≤ h.lock.length
unfolding Overlap InRange
stands-some {h = h} w =
    let both = w.overlap in
    let low : h.lock.offset ≤ both.0 = both.1.0 in
    let high : both.0 < h.lock.offset + h.lock.length = both.1.1 in
    omega arith

-- the first ranges of a request are ranges of it
among : (f : LockRange → LockRange) (large : Bool) (area : List ℕ) (k m n : ℕ) → m ≤ n → {r : LockRange} → In r (map f (ranges_at large area k m)) → In r (map f (ranges_at large area k n))
unfolding ranges_at
among f large area k zero n low i = elim i [ ]
among f large area k (suc m) zero low i = absurd (omega arith)
among f large area k (suc m) (suc n) low i = elim (first-or-later i) [ inl e ↦ here e | inr more ↦ there (among f large area (suc k) m n (omega arith) more) ]

-- an own earlier range is within 2^64, as all of the request's
pub own-ends : {c : Caller} {t : Tables} {f : LockingFields} {area : List ℕ} {h : Holder} (r : LockHeld c t f area h) → OwnRange c f area r.held.granted h.lock
    → h.lock.offset + h.lock.length ≤ 2 ^ 64
unfolding PastEnd
own-ends {f = f} {area = area} r w =
    let few : r.held.granted < f.locks = r.held.fewer in
    elim (dec_lt (2 ^ 64) (w.range.offset + w.range.length)) [
      | yes past ↦ absurd (r.within (w.range, among _ _ area f.unlocks r.held.granted f.locks (omega arith) w.earlier, past))
      | no n ↦ rw (w.of-offset, w.of_length) (omega arith)
    ]

module _ (t : Tables) (ok : sound t ≡ true) where
  -- a listed lock is, by soundness
  pub listed-ends : (l : Lock) → In l (locks_of t) → l.offset + l.length ≤ 2 ^ 64
  listed-ends l m = ((sound-plain t).0 ok).lock-ends l m

  pub stands-ends : {o : Open} {offset size : ℕ} {h : Holder} → Stands t o (locks_of t) offset size h → h.lock.offset + h.lock.length ≤ 2 ^ 64
  stands-ends {h = h} w = listed-ends h.lock (rw w.stands-there at (place_in no_lock (locks_of t) h.place w.in_list))
