-- Of specs/HolderWire.antt: what rests on its other theorems. Assumes nothing.
use Rattle.std.specs.Prelude.{◌≡◌, ◌↔◌, ℕ, ◌+◌, ◌*◌, ◌%◌, ◌≤◌, ◌<◌, true, length}
use Rattle.std.proofs.Common.{sym, ◌∙◌, arith}
use Rattle.std.proofs.Math.Path.{subst}
use Rattle.std.proofs.Math.Logic.Iff
use mathlib.Core.List.{List, Memᴰ as In}
use borrow.Author.Tests.{eqb-true, eq-eqb}
use Rattle.records.specs.declared.Lock.{Lock}
use Rattle.records.specs.declared.Tables.{Tables}
use Rattle.records.specs.Held.{locks_of}
use Rattle.locks.specs.Wire.{range_size}
use Rattle.locks.specs.Request.{lock_of, of_header}
use Rattle.locks.specs.declared.types.LockRange.{LockRange}
use Rattle.locks.specs.declared.types.Holder.{Holder}
use Rattle.chain.specs.Layout.{LOCKING, LOCK_BYTE_RANGE, header_command, FIRST, byte_count, fid_after_andx, lock_type, unlock_count, lock_count}
use Rattle.chain.specs.Grammar.{Span, Reading}
use Rattle.chain.specs.Parse.{range_fields}
use Rattle.invariants.specs.BlockParse.{body_at}
use Rattle.invariants.specs.Fit.{Fit}
use Rattle.message.specs.Caller.{caller_of}
use Rattle.demands.specs.LoneLock.{shared_in}
use Rattle.demands.specs.LoneCall.{locking_fields}
use Rattle.demands.specs.WireFields.{reading-first}
use Rattle.demands.specs.LockEffects.{RangeOn, large, granted-lock, locking-fits, range_in}
use Rattle.demands.proofs.LockEffects.{range-on, unlocked-from, locked-from}
use Rattle.demands.specs.LockReasons.{ranges_in_lem}
use Rattle.demands.proofs.LockReasons.{lock-is, released-from, passes-from, past-from, granted-from}
use Rattle.demands.specs.HolderWords.{FirstInWay, RangeLockHeld, CommandHeld}
use Rattle.demands.specs.HolderExactly.{call}
use Rattle.demands.specs.HolderFirst.{FirstMeets}
use Rattle.demands.proofs.HolderFirst.{first_by}
use Rattle.demands.proofs.HolderOpen.{holder-own, holder-listed}
use Rattle.demands.specs.HolderWire.{Fields, LockHeldOn, OwnRangeOn, m, u}

module _ (connection : ℕ) (s : List ℕ) (t : Tables) (h : Holder) (fits : (unlock_count s FIRST + lock_count s FIRST) * range_size (large s) ≤ byte_count s FIRST) where
  pub to-wire : (Fields connection s t h fits) → LockHeldOn connection s t h
  unfolding lock_of of_header caller_of
  to-wire r =
      let w = r.held in
      let few : w.granted < (m connection s t h fits) = w.fewer in
      record {
        through = r.through;
        admitted = r.admitted;
        served = r.served;
        left = r.left;
        unlocked = unlocked-from s ((u connection s t h fits) + (m connection s t h fits)) fits 0 (u connection s t h fits) (omega arith) r.unlocked;
        within = λ p. r.within (past-from s ((u connection s t h fits) + (m connection s t h fits)) fits (u connection s t h fits) (m connection s t h fits) (omega arith) p);
        granted = w.granted;
        fewer = few;
        standing = w.standing;
        earlier = locked-from s ((u connection s t h fits) + (m connection s t h fits)) fits t r.through (u connection s t h fits) w.granted (omega arith) w.earlier;
        range = range_in s ((u connection s t h fits) + w.granted);
        range-there = range-on s ((u connection s t h fits) + (m connection s t h fits)) fits ((u connection s t h fits) + w.granted) (omega arith);
        asked = lock_of (fid_after_andx s FIRST) (shared_in (locking_fields s)) (range_in s ((u connection s t h fits) + w.granted));
        asked_is = granted-lock s ((u connection s t h fits) + (m connection s t h fits)) fits (range_in s ((u connection s t h fits) + w.granted));
        first = w.first;
      }

  pub from-wire : LockHeldOn connection s t h → (Fields connection s t h fits)
  unfolding lock_of of_header caller_of
  from-wire r =
      let few : r.granted < (m connection s t h fits) = r.fewer in
      let same = lock-is s ((u connection s t h fits) + (m connection s t h fits)) fits (omega arith) r.range-there r.asked_is in
      record {
        through = r.through;
        admitted = r.admitted;
        served = r.served;
        left = r.left;
        unlocked = released-from s ((u connection s t h fits) + (m connection s t h fits)) fits (omega arith) r.unlocked;
        within = λ p. r.within (passes-from s ((u connection s t h fits) + (m connection s t h fits)) fits (u connection s t h fits) (m connection s t h fits) (omega arith) p);
        held = record {
          granted = r.granted;
          fewer = few;
          standing = r.standing;
          earlier = granted-from s ((u connection s t h fits) + (m connection s t h fits)) fits t r.through (omega arith) r.earlier;
          first = subst (λ (l : Lock). FirstInWay t r.through r.standing l.offset l.length (λ k. (k.shared ≡ true) × (l.shared ≡ true) → ⊥) h) same r.first;
        };
      }

  -- its own earlier ranges stand at the end: a holder at a place behind what the unlocks left is one of them
  pub own-range-on : (r : LockHeldOn connection s t h) → length r.left ≤ h.place → OwnRangeOn s (u connection s t h fits) r.granted h.lock
  unfolding from-wire caller_of
  own-range-on r low =
      let few : r.granted < (m connection s t h fits) = r.fewer in
      let w = holder-own (from-wire r) low in
      let j = ranges_in_lem s ((u connection s t h fits) + (m connection s t h fits)) fits (u connection s t h fits) r.granted w.earlier in
      let below : j.0 < (u connection s t h fits) + r.granted = j.2 in
      record {
        place = j.0;
        from = j.1;
        below = below;
        range = w.range;
        range-there = subst (λ (x : LockRange). RangeOn s j.0 x) (sym j.3) (range-on s ((u connection s t h fits) + (m connection s t h fits)) fits j.0 (omega arith));
        is-its = record {
          of-fid = w.of-fid;
          of-process = w.of-process;
          of-offset = w.of-offset;
          of_length = w.of_length;
          of-shared = (λ e. eqb-true (lock_type s FIRST % 2) 1 (sym w.of-shared ∙ e), λ e. w.of-shared ∙ eq-eqb (lock_type s FIRST % 2) 1 e);
        };
      }

  -- one at a place before that is listed, and of the list before the call
  pub listed-on : (r : LockHeldOn connection s t h) → h.place < length r.left → In h.lock (locks_of t)
  unfolding from-wire
  listed-on r low = holder-listed (from-wire r) low

module _ (connection : ℕ) (s : List ℕ) {spans : List Span} (r : Reading s spans) (t : Tables) (memory room : List ℕ) (fit : Fit s t memory room) (e : header_command s ≡ LOCKING)
    (h : Holder) where
  -- the host gets as holder the lock in the way of one of its ranges, whatever commands follow
  pub lock-first : FirstMeets (call connection s t memory room) h ↔ LockHeldOn connection s t h
  unfolding body_at CommandHeld
  lock-first =
      let fits = locking-fits (reading-first r).1 e in
      Iff.trans (first_by connection s r t memory room fit h LOCKING e) (to-wire connection s t h fits, from-wire connection s t h fits)

  -- an own earlier range as holder: the request's FID and that range's process
  pub lock-own : (k : LockHeldOn connection s t h) → length k.left ≤ h.place → OwnRangeOn s (unlock_count s FIRST) k.granted h.lock
  lock-own = own-range-on connection s t h (locking-fits (reading-first r).1 e)

  -- any other is one of the locks held
  pub lock-listed : (k : LockHeldOn connection s t h) → h.place < length k.left → In h.lock (locks_of t)
  lock-listed = listed-on connection s t h (locking-fits (reading-first r).1 e)

pub range-first : (connection : ℕ) (s : List ℕ) {spans : List Span} → Reading s spans → (t : Tables) (memory room : List ℕ) → Fit s t memory room → header_command s ≡ LOCK_BYTE_RANGE
    → (h : Holder) → FirstMeets (call connection s t memory room) h ↔ RangeLockHeld (caller_of connection s) t (range_fields s FIRST) h
unfolding body_at CommandHeld
range-first connection s r t memory room fit e h = first_by connection s r t memory room fit h LOCK_BYTE_RANGE e
