-- What a LOCKING that is done leaves (document 01, "Locks, reads and writes": "Unlocks go first, in order: each removes the earliest listed lock with equal FID,
-- process, offset and length. Then locks in order, each against the list as it stands"), and a LOCK_BYTE_RANGE and an UNLOCK_BYTE_RANGE
-- (document 02, CR 3), said of the call and of the message's bytes: every field of every lock is one of the message's. Assumes nothing.
use Rattle.std.specs.Prelude.{◌≡◌, refl, ◌↔◌, Bool, List, [], ◌∷◌, ◌++◌, length, drop, eqb}
use Rattle.std.proofs.Common.{ap, ◌∙◌, length-take, get_or-take, get_or-drop}
use Prim.Native.Nat.{ℕ, suc, min, ◌+◌, ◌*◌, ◌/◌, ◌%◌, ◌≤◌, ◌<◌}
use native.Mathlib.Omega.{arith}
use Rattle.std.proofs.Math.Bool.{true, false}
use borrow.Author.Tests.{eqb-true, eqb-false, eq-eqb}
use Rattle.wire.specs.LittleEndian.{byte_at, le16_at, le32_at}
use Rattle.records.specs.declared.Open.{Open}
use Rattle.records.specs.declared.Lock.{Lock}
use Rattle.records.specs.declared.Tables.{Tables}
use Rattle.records.specs.Held.{locks_of, with_locks}
use Rattle.locks.specs.Wire.{range_size, number_at, range_from, range_at}
use Rattle.locks.specs.Request.{of_header, lock_of}
use Rattle.locks.specs.declared.types.LockRange.{LockRange}
use Rattle.chain.specs.Layout.{LOCKING, header_command, FIRST, byte_area, byte_count, fid_after_andx, lock_type, unlock_count, lock_count, first_fid, range_length, range_offset}
use Rattle.chain.specs.Grammar.{Span, Reading}
use Rattle.chain.specs.Chain.{blocks}
use Rattle.chain.specs.declared.block.Block.{Block}
use Rattle.claims.specs.RemovalPlain.{CatalogueStands}
use Rattle.invariants.specs.BlockParse.{body_at}
use Rattle.invariants.specs.Chained.{read-chained}
use Rattle.invariants.specs.Sound.{Good}
use Rattle.invariants.specs.Fit.{Fit}
use Rattle.readings.specs.SameNumbers.{same-16, same-32}
use Rattle.message.specs.Caller.{caller_of}
use Rattle.message.specs.declared.caller.Caller.{Caller}
use Rattle.message.specs.Refusal.{status}
use Rattle.message.specs.Command.{with_lock_list}
use Rattle.message.specs.Message.{Taken, take-message}
use Rattle.demands.specs.StatusRead.{status_read}
use Rattle.demands.specs.Admitted.{Admitted}
use Rattle.demands.specs.LoneLock.{InWay, AnyLock, shared_in}
use Rattle.demands.specs.LoneCall.{area-first, locking_fields, locking_area}
use Rattle.demands.specs.LockWords.{TakenOut}
use Rattle.demands.specs.ReplyBytes.{PlainBlock}
use Rattle.demands.specs.CommandReasons.{ranges_by}
use Rattle.demands.specs.WireFields.{sender_process, upper_half, FirstBlock, one-first, first_body, first-area}

-- ---- the plain words

-- the k-th range of the message's LOCKING block, unlocks first, from 0: "process 2, offset 4, length 4; or process 2, pad 2, offset high 4, low 4,
-- length high 4, low 4", the longer form with type bit 0x10. Document 02, CR 4: "a 16-bit process in a lock range takes its upper half from the header"
abbrev pub short_at : List ℕ → ℕ → ℕ
short_at s k = byte_area s FIRST + k * 10

abbrev pub long_at : List ℕ → ℕ → ℕ
long_at s k = byte_area s FIRST + k * 20

pub data RangeOn (s : List ℕ) (k : ℕ) (r : LockRange) : Type 0 where
  short-range : lock_type s FIRST / 16 % 2 ≡ 0 → r.process ≡ 65536 * upper_half s + le16_at s (short_at s k) → r.offset ≡ le32_at s (short_at s k + 2) → r.length ≡ le32_at s (short_at s k + 6)
      → RangeOn s k r
  long-range : lock_type s FIRST / 16 % 2 ≡ 1 → r.process ≡ 65536 * upper_half s + le16_at s (long_at s k) → r.offset ≡ 4294967296 * le32_at s (long_at s k + 4) + le32_at s (long_at s k + 8)
      → r.length ≡ 4294967296 * le32_at s (long_at s k + 12) + le32_at s (long_at s k + 16) → RangeOn s k r

-- the lock that is granted for a range: of the message's FID and of the range's process, offset and length; "Type bit 0x01 means shared"
pub record GrantedLock (s : List ℕ) (r : LockRange) (l : Lock) : Type 0 where
  pub of-fid : l.fid ≡ fid_after_andx s FIRST
  pub of-process : l.process ≡ r.process
  pub of-offset : l.offset ≡ r.offset
  pub of_length : l.length ≡ r.length
  pub of-shared : (l.shared ≡ true) ↔ (lock_type s FIRST % 2 ≡ 1)

-- a listed lock of that file overlaps it and the two aren't both shared
abbrev pub BarsGrant : Tables → Open → List Lock → Lock → Type 0
BarsGrant t o list l = InWay t o list l.offset l.length (λ m. (m.shared ≡ true) × (l.shared ≡ true) → ⊥)

-- "Unlocks go first, in order": n ranges from the k-th on, each of which takes a lock out
pub data Unlocked (s : List ℕ) : ℕ → ℕ → List Lock → List Lock → Type 0 where
  none-to-unlock : {k : ℕ} {list : List Lock} → Unlocked s k 0 list list
  unlock-then : {k n : ℕ} {r : LockRange} {list left last : List Lock} → RangeOn s k r → TakenOut (fid_after_andx s FIRST) r list left
      → Unlocked s (suc k) n left last → Unlocked s k (suc n) list last

-- "Then locks in order, each against the list as it stands": each of n ranges puts its lock behind the others, and none of them is in its way
pub data Locked (s : List ℕ) (t : Tables) (o : Open) : ℕ → ℕ → List Lock → List Lock → Type 0 where
  none-to-lock : {k : ℕ} {list : List Lock} → Locked s t o k 0 list list
  lock-then : {k n : ℕ} {r : LockRange} {l : Lock} {list last : List Lock} → RangeOn s k r → GrantedLock s r l → (BarsGrant t o list l → ⊥)
      → Locked s t o (suc k) n (list ++ (l ∷ [])) last → Locked s t o k (suc n) list last

-- what the call leaves
pub record LockingDone (connection : ℕ) (s : List ℕ) (t : Tables) (memory : List ℕ) (call : Taken) : Type 0 where
  pub through : Open
  pub admitted : Admitted (caller_of connection s) t (fid_after_andx s FIRST) through
  -- what the unlocks leave of the list, and what stands there behind the locks
  pub left : List Lock
  pub unlocked : Unlocked s 0 (unlock_count s FIRST) (locks_of t) left
  pub last : List Lock
  pub locked : Locked s t through (unlock_count s FIRST) (lock_count s FIRST) left last
  -- "1/8 exactly if over 128 would then be held": these are not over
  pub not-over : length last ≤ 128
  -- these are the locks held; every other table, the catalogue among them, and every file byte is as before
  pub held : locks_of call.tables ≡ last
  pub other-tables : call.tables ≡ with_lock_list t call.tables.locks call.tables.nlocks
  pub catalogue : CatalogueStands t call.tables
  pub whole : call.tables ≡ with_locks t last
  pub same_memory : call.memory ≡ memory

-- what a LOCK_BYTE_RANGE leaves (document 02, CR 3): one lock more, behind the others; FID, count and offset are its words
pub record LockRangeDone (connection : ℕ) (s : List ℕ) (t : Tables) (memory : List ℕ) (call : Taken) : Type 0 where
  pub through : Open
  pub admitted : Admitted (caller_of connection s) t (first_fid s FIRST) through
  -- "the process from the header; the lock is exclusive". Of a message of bytes offset and count are the fields (Processes.antt: `range-whole`).
  pub lock : Lock
  pub of-fid : lock.fid ≡ first_fid s FIRST
  pub of-process : lock.process ≡ sender_process s
  pub of-offset : lock.offset ≡ range_offset s FIRST % 4294967296
  pub of_length : lock.length ≡ range_length s FIRST % 4294967296
  pub exclusive : lock.shared ≡ false
  -- no listed lock was in its way, and there was a record for it
  pub free : InWay t through (locks_of t) lock.offset lock.length AnyLock → ⊥
  pub not-over : length (locks_of t) < 128
  pub held : locks_of call.tables ≡ locks_of t ++ (lock ∷ [])
  pub other-tables : call.tables ≡ with_lock_list t call.tables.locks call.tables.nlocks
  pub catalogue : CatalogueStands t call.tables
  pub whole : call.tables ≡ with_locks t (locks_of t ++ (lock ∷ []))
  pub same_memory : call.memory ≡ memory
  -- a block of no words and no bytes
  pub reply : PlainBlock call.room
  pub reply-ends : call.length ≡ 35

-- and an UNLOCK_BYTE_RANGE: the list without the earliest lock "with equal FID, process, offset and length"
pub record UnlockRangeDone (connection : ℕ) (s : List ℕ) (t : Tables) (memory : List ℕ) (call : Taken) : Type 0 where
  pub through : Open
  pub admitted : Admitted (caller_of connection s) t (first_fid s FIRST) through
  pub range : LockRange
  pub of-process : range.process ≡ sender_process s
  pub of-offset : range.offset ≡ range_offset s FIRST % 4294967296
  pub of_length : range.length ≡ range_length s FIRST % 4294967296
  pub unlocked : TakenOut (first_fid s FIRST) range (locks_of t) (locks_of call.tables)
  pub other-tables : call.tables ≡ with_lock_list t call.tables.locks call.tables.nlocks
  pub catalogue : CatalogueStands t call.tables
  pub whole : call.tables ≡ with_locks t (locks_of call.tables)
  pub same_memory : call.memory ≡ memory
  pub reply : PlainBlock call.room
  pub reply-ends : call.length ≡ 35

-- tables that differ in locks alone have the same catalogue
pub catalogue-stands : (t after : Tables) → after ≡ with_lock_list t after.locks after.nlocks → CatalogueStands t after
unfolding with_lock_list
catalogue-stands t after e = (ap (λ (x : Tables). x.nnames) e, ap (λ (x : Tables). x.names) e)

-- ---- ranges of the block's byte area are those of the message

module _ (s : List ℕ) where
  abbrev pub area : List ℕ
  area = locking_area s

  abbrev pub large : Bool
  large = eqb (lock_type s FIRST / 16 % 2) 1

  area_byte : (j : ℕ) → j < byte_count s FIRST → byte_at area j ≡ byte_at s (byte_area s FIRST + j)
  area_byte j h = get_or-take (byte_count s FIRST) (drop (byte_area s FIRST) s) j 0 h ∙ get_or-drop (byte_area s FIRST) s j 0

  -- a number of two bytes of the area, and one of four, m bytes behind a place
  area-16 : (j : ℕ) → j + 2 ≤ byte_count s FIRST → le16_at area j ≡ le16_at s (byte_area s FIRST + j)
  area-16 j h =
      same-16 s (byte_area s FIRST + j) area j
      (λ i l. let e : byte_area s FIRST + (j + i) ≡ byte_area s FIRST + j + i = omega arith in area_byte (j + i) (omega arith) ∙ ap (byte_at s) e)

  area-32 : (j m : ℕ) → j + m + 4 ≤ byte_count s FIRST → le32_at area (j + m) ≡ le32_at s (byte_area s FIRST + j + m)
  area-32 j m h =
      same-32 s (byte_area s FIRST + j + m) area (j + m)
      (λ i l. let e : byte_area s FIRST + (j + m + i) ≡ byte_area s FIRST + j + m + i = omega arith in area_byte (j + m + i) (omega arith) ∙ ap (byte_at s) e)

  -- the k-th range, and m of them from the k-th on
  abbrev pub range_in : ℕ → LockRange
  range_in k = of_header (upper_half s) (range_at large area k)

  abbrev pub ranges_in : ℕ → ℕ → List LockRange
  ranges_in k m = ranges_by (sender_process s) (locking_fields s) area k m

  pub range-on-by : (b : Bool) → large ≡ b → (n : ℕ) → n * range_size b ≤ byte_count s FIRST → (k : ℕ) → k < n → RangeOn s k (of_header (upper_half s) (range_at b area k))
  unfolding of_header range_at range_from number_at range_size
  range-on-by true e n fits k h =
      let low : k * 20 + 4 + 4 ≡ k * 20 + 8 = omega arith in
      let end : k * 20 + 12 + 4 ≡ k * 20 + 16 = omega arith in
      long-range (eqb-true (lock_type s FIRST / 16 % 2) 1 e) (ap (λ (n : ℕ). 65536 * upper_half s + n) (area-16 (k * 20) (omega arith)))
      (rw (low, area-32 (k * 20) 4 (omega arith), area-32 (k * 20) 8 (omega arith)))
      (rw (end, area-32 (k * 20) 12 (omega arith), area-32 (k * 20) 16 (omega arith)))
  range-on-by false e n fits k h =
      let other = eqb-false (lock_type s FIRST / 16 % 2) 1 e in
      short-range (omega arith) (ap (λ (n : ℕ). 65536 * upper_half s + n) (area-16 (k * 10) (omega arith))) (area-32 (k * 10) 2 (omega arith)) (area-32 (k * 10) 6 (omega arith))

  module _ (n : ℕ) (fits : n * range_size large ≤ byte_count s FIRST) where
    pub granted-lock : (r : LockRange) → GrantedLock s r (lock_of (fid_after_andx s FIRST) (shared_in (locking_fields s)) r)
    unfolding lock_of
    granted-lock r =
        record {
          of-fid = refl;
          of-process = refl;
          of-offset = refl;
          of_length = refl;
          of-shared = (eqb-true (lock_type s FIRST % 2) 1, eq-eqb (lock_type s FIRST % 2) 1);
        }

-- all the ranges that a first block announces are in its byte area
pub locking-fits : {s : List ℕ} {later : List Block} (q : FirstBlock s later) → header_command s ≡ LOCKING
    → (unlock_count s FIRST + lock_count s FIRST) * range_size (large s) ≤ byte_count s FIRST
unfolding blocks body_at
locking-fits {s} {later} q e =
    let long : length (locking_area s) ≡ (unlock_count s FIRST + lock_count s FIRST) * range_size (large s) =
    rw (first-area q) at (area-first (read-chained s (header_command s) FIRST (q.block ∷ later) q.is_read) q.block later refl (locking_fields s) (first_body q LOCKING e)) in
    let cut : length (locking_area s) ≡ min (byte_count s FIRST) (length (drop (byte_area s FIRST) s)) = length-take (byte_count s FIRST) (drop (byte_area s FIRST) s) in
    rw (← long) (omega arith)

-- ---- a message whose reading is one LOCKING, fit to be answered, on good tables, whose reply's Status is 0/0

-- ---- a message whose reading is one LOCK_BYTE_RANGE or UNLOCK_BYTE_RANGE

module _ (connection : ℕ) (s : List ℕ) {span : Span} (r : Reading s (span ∷ [])) (t : Tables) (memory room : List ℕ) (g : Good t) (fit : Fit s t memory room)
    (z : status_read (take-message connection s t memory room).room ≡ status 0 0) where
  abbrev pub caller : Caller
  caller = caller_of connection s

  abbrev pub call : Taken
  call = take-message connection s t memory room

  pub only : FirstBlock s []
  only = one-first r
