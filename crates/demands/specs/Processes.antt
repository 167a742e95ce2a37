-- Document 02, CR 4, "Two processes taken for one": the sender's process, that of a range, who owns a lock, who sends the messages of a chain's commands, and what
-- PROCESS_EXIT leaves; said of the message's bytes, of the core commands too (CR 3: "the process from the header"). Assumes nothing.
use Rattle.std.specs.Prelude.{◌≡◌, refl, ◌↔◌, ℕ, ◌+◌, ◌*◌, ◌/◌, ◌%◌, ◌^◌, ◌≤◌, ◌<◌, Bool, true, not, ◌&&◌, length, eqb}
use Rattle.std.proofs.Common.{sym, ap, ◌∙◌, eqb-true, eq-eqb}
use native.Mathlib.Omega.{arith}
use mathlib.Core.List.{List, [], ◌∷◌, ◌++◌, map, Memᴰ as In}
use Rattle.std.proofs.lemmas.Bool.{not-true}
use Rattle.lists.specs.Truth.{both_hold, hold-both, fails, not-decided-twice, not-holds}
use Rattle.lists.specs.Members.{kept-was, was-kept}
use Rattle.wire.specs.LittleEndian.{le16_at, le32_at, le16-below}
use Rattle.records.specs.declared.Open.{Open}
use Rattle.records.specs.declared.Lock.{Lock}
use Rattle.records.specs.declared.Tables.{Tables}
use Rattle.records.specs.Held.{opens_of, locks_of}
use Rattle.numbers.specs.Number.{contains}
use Rattle.numbers.specs.Column.{fid_of}
use Rattle.locks.specs.declared.types.LockRange.{LockRange}
use Rattle.chain.specs.Layout.{FIRST, fid_after_andx, lock_type, range_length, range_offset}
use Rattle.chain.specs.Grammar.{Span, ReadingFrom, plain_end, andx-end, andx-next}
use Rattle.chain.specs.Parse.{range_fields}
use Rattle.soundness.specs.Sound.{sound}
use Rattle.invariants.specs.Numbered.{named-one, one-named, numbered-same}
use Rattle.invariants.specs.SoundParts.{sound-says}
use Rattle.invariants.specs.BlockParse.{block_inside}
use Rattle.message.specs.Caller.{caller_of}
use Rattle.claims.specs.StreamKept.{Bytes}
use Rattle.claims.specs.RemovalPlain.{Exited}
use Rattle.demands.specs.LoneLock.{core_range}
use Rattle.demands.specs.WireFields.{sender_process, upper_half}
use Rattle.demands.specs.LockEffects.{short_at, long_at, RangeOn, short-range, long-range, Unlocked, none-to-unlock, unlock-then}

-- ---- the plain words

-- two messages whose senders' processes differ in the upper half only: PIDHigh stands at 12, PIDLow at 26
pub record UpperHalvesDiffer (s t : List ℕ) : Type 0 where
  pub same_low : le16_at s 26 ≡ le16_at t 26
  pub other-high : le16_at s 12 ≡ le16_at t 12 → ⊥

-- the process of the k-th range of a message's LOCKING block, in the form of 10 bytes and in that of 20
pub record RangeProcess (s : List ℕ) (k : ℕ) (r : LockRange) : Type 0 where
  pub short-form : lock_type s FIRST / 16 % 2 ≡ 0 → r.process ≡ 65536 * le16_at s 12 + le16_at s (short_at s k)
  pub long-form : lock_type s FIRST / 16 % 2 ≡ 1 → r.process ≡ 65536 * le16_at s 12 + le16_at s (long_at s k)

-- what a PROCESS_EXIT of that UID and process leaves and removes: "the opens of that UID and process", with their locks
pub record ExitLeaves (uid process : ℕ) (t after : Tables) : Type 0 where
  pub open-left : (o : Open) → In o (opens_of t) → ((o.uid ≡ uid) × (o.process ≡ process) → ⊥) → In o (opens_of after)
  pub lock-left : (o : Open) → In o (opens_of t) → ((o.uid ≡ uid) × (o.process ≡ process) → ⊥) → (l : Lock) → In l (locks_of t) → l.fid ≡ o.fid → In l (locks_of after)
  pub open_gone : (o : Open) → In o (opens_of after) → (o.uid ≡ uid) × (o.process ≡ process) → ⊥
  pub lock-gone : (o : Open) → In o (opens_of t) → (o.uid ≡ uid) × (o.process ≡ process) → (l : Lock) → In l (locks_of after) → l.fid ≡ o.fid → ⊥

-- ---- the sender's process

module _ (s : List ℕ) (b : Bytes s) where
  half : (at : ℕ) → le16_at s at < 65536
  half at = le16-below s b.small at

  -- the sender's process has no more than 32 bits
  pub sender-32 : sender_process s < 2 ^ 32
  sender-32 = let high = half 12 in let low = half 26 in omega arith

  -- "PIDHigh is the upper half of the process number"
  pub upper-half : upper_half s ≡ le16_at s 12
  upper-half = let low = half 26 in omega arith

  -- a range's process has PIDHigh above its 16 bits
  pub range-upper : {k : ℕ} {r : LockRange} → RangeOn s k r → r.process / 65536 ≡ le16_at s 12
  range-upper {k} (short-range z e _ _) = let low = half (short_at s k) in let high = upper-half in omega arith
  range-upper {k} (long-range z e _ _) = let low = half (long_at s k) in let high = upper-half in omega arith

  -- "a 16-bit process in a lock range takes its upper half from the header": unlock ranges and lock ranges, in both forms
  pub range-process : {k : ℕ} {r : LockRange} → RangeOn s k r → RangeProcess s k r
  range-process (short-range z e _ _) = record { short-form = λ _. rw (← upper-half) e; long-form = λ n. absurd (let no : ⊥ = omega arith in no) }
  range-process (long-range z e _ _) = record { short-form = λ n. absurd (let no : ⊥ = omega arith in no); long-form = λ _. rw (← upper-half) e }

  -- four bytes make 32 bits
  whole-32 : (at : ℕ) → le32_at s at % 4294967296 ≡ le32_at s at
  unfolding le32_at
  whole-32 at = let low = half at in let high = half (at + 2) in omega arith

  -- of a message of bytes the range of a LOCK_BYTE_RANGE or an UNLOCK_BYTE_RANGE is the one of its fields: offset and count, and the sender's process with both halves
  pub range-whole : (connection : ℕ)
      → core_range (caller_of connection s) (range_fields s FIRST) ≡ record { process = sender_process s; offset = range_offset s FIRST; length = range_length s FIRST }
  unfolding caller_of
  range-whole connection = rw (whole-32 (FIRST + 7), whole-32 (FIRST + 3))

-- "a request's process is PIDHigh × 65,536 + PIDLow"
pub sender-process : (connection : ℕ) (s : List ℕ) → (caller_of connection s).process ≡ 65536 * le16_at s 12 + le16_at s 26
unfolding caller_of
sender-process connection s = refl

module _ (s t : List ℕ) (b : Bytes s) (d : Bytes t) where
  -- two messages have the same process exactly if both halves are equal
  pub same-process : (sender_process s ≡ sender_process t) ↔ ((le16_at s 12 ≡ le16_at t 12) × (le16_at s 26 ≡ le16_at t 26))
  same-process =
      let low = half s b 26 in
      let other = half t d 26 in (
        λ e. (let n : le16_at s 12 ≡ le16_at t 12 = omega arith in n, let n : le16_at s 26 ≡ le16_at t 26 = omega arith in n),
        λ h. rw (h.0, h.1),
      )

  module _ (u : UpperHalvesDiffer s t) where
    pub other-process : sender_process s ≡ sender_process t → ⊥
    other-process e = u.other-high (same-process.0 e).0

-- ---- locks of the one against requests of the other

-- and its core read or write over it

-- ---- a lock alone that is done

-- the lock stands behind those that were held; its FID is the block's and its process that of the range
pub record LockTaken (s : List ℕ) (before after : List Lock) : Type 0 where
  pub lock : Lock
  pub range : LockRange
  pub behind : after ≡ before ++ (lock ∷ [])
  pub of-fid : lock.fid ≡ fid_after_andx s FIRST
  pub of-process : lock.process ≡ range.process
  pub whole : RangeProcess s 0 range

pub none-unlocked : {s : List ℕ} {k n : ℕ} {list left : List Lock} → n ≡ 0 → Unlocked s k n list left → left ≡ list
none-unlocked e none-to-unlock = refl
none-unlocked e (unlock-then on out more) = absurd (omega arith)

-- ---- the messages of a chain's commands

-- a place from which a message is read is inside it
pub place_inside : {s : List ℕ} {command at : ℕ} {spans : List Span} → ReadingFrom s command at spans → at ≤ length s
place_inside (plain_end h p) = let i = block_inside h in omega arith
place_inside (andx-end h a e) = let i = block_inside h in omega arith
place_inside (andx-next h m e r) = let i = block_inside h in omega arith

-- ---- PROCESS_EXIT

pub exit-leaves : (uid process : ℕ) (t after : Tables) → sound t ≡ true → Exited uid process t after → ExitLeaves uid process t after
exit-leaves uid process t after ok e =
    record {
      open-left = left;
      lock-left = λ o i n l j f. rw e.locks (was-kept (λ l. contains l.fid (map fid_of (opens_of after))) j (one-named fid_of l.fid (left o i n) (sym f)));
      open_gone = gone;
      lock-gone = λ o i h l j f.
          let stays = kept-was (λ l. contains l.fid (map fid_of (opens_of after))) (locks_of t) (rw e.locks at j) in
          let p = named-one fid_of l.fid (opens_of after) stays.1 in
          let same : p.0 ≡ o = numbered-same fid_of 64 (opens_of t) (sound-says t ok).records.fids (was p.0 p.1) i (p.2 ∙ f) in
          gone p.0 p.1 (ap (λ (x : Open). x.uid) same ∙ h.0, ap (λ (x : Open). x.process) same ∙ h.1);
    }
  where
    named : Open → Bool
    named o = eqb o.uid uid && eqb o.process process

    left : (o : Open) → In o (opens_of t) → ((o.uid ≡ uid) × (o.process ≡ process) → ⊥) → In o (opens_of after)
    left o i n =
        let other : named o ≡ true → ⊥ = λ h.
        let both = both_hold (eqb o.uid uid) (eqb o.process process) h in
        n (eqb-true o.uid uid both.0, eqb-true o.process process both.1) in
        rw e.opens (was-kept (λ o. not (named o)) i (not-holds (named o) (fails (named o) other)))

    was : (o : Open) → In o (opens_of after) → In o (opens_of t)
    was o i = (kept-was (λ o. not (named o)) (opens_of t) (rw e.opens at i)).0

    gone : (o : Open) → In o (opens_of after) → (o.uid ≡ uid) × (o.process ≡ process) → ⊥
    gone o i h =
        let kept = kept-was (λ o. not (named o)) (opens_of t) (rw e.opens at i) in
        not-decided-twice (named o) (hold-both (eqb o.uid uid) (eqb o.process process) (eq-eqb o.uid uid h.0) (eq-eqb o.process process h.1)) (not-true (named o) kept.1)
