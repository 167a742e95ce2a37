-- Change request 4 of document 02, "Two processes taken for one", sentence by sentence. Assumes nothing.
use Rattle.std.specs.Prelude.{◌≡◌, ◌↔◌, ℕ, ◌+◌, ◌*◌, ◌/◌, ◌^◌, ◌≤◌, ◌<◌, false}
use mathlib.Core.List.{List, [], ◌∷◌, ◌++◌, Memᴰ as In}
use Rattle.wire.specs.LittleEndian.{le16_at}
use Rattle.records.specs.declared.Open.{Open}
use Rattle.records.specs.declared.Lock.{Lock}
use Rattle.records.specs.declared.Tables.{Tables}
use Rattle.records.specs.Held.{opens_of, locks_of}
use Rattle.locks.specs.Range.{Overlap}
use Rattle.locks.specs.declared.types.LockRange.{LockRange}
use Rattle.chain.specs.Layout.{LOCKING, READ, WRITE, PROCESS_EXIT, CORE-READ, CORE-WRITE, LOCK_BYTE_RANGE, UNLOCK_BYTE_RANGE, header_command, FIRST, fid_after_andx, read_max, data_length, lock_type, unlock_count, lock_count, first_fid, core_count, core_offset}
use Rattle.chain.specs.Grammar.{Span, Reading}
use Rattle.message.specs.Caller.{caller_of}
use Rattle.host.specs.HostCall.{add_open}
use Rattle.claims.specs.StreamKept.{Bytes}
use Rattle.demands.specs.SpansOneByOne.{own_span}
use Rattle.demands.specs.LoneLock.{Owner}
use Rattle.demands.specs.LockWords.{Named}
use Rattle.demands.specs.CommandReasons.{OnlyTwoBits}
use Rattle.demands.specs.WireFields.{read_from, write_from}
use Rattle.demands.proofs.EffectsStated.{exit-reading}
use Rattle.demands.specs.LockEffects.{RangeOn, GrantedLock}
use Rattle.demands.specs.Processes.{UpperHalvesDiffer, RangeProcess, LockTaken, ExitLeaves, exit-leaves}
use Rattle.order.specs.Call.{Call, gives, Answerable, OneCommand, Says, sender, sending}
use Rattle.order.specs.Demand2.{ReplyHeader, DoneAlone, ValidOpen, RefusedForConflict, core_asked, ValidCoreOpen, covered_from, covered_count}

-- A message is a list of bytes (below 256, which the type says of code) where a sentence is on halves: PIDHigh, at 12, and PIDLow, at 26, have 16 bits each. Demand 2's
-- sentences on PROCESS_EXIT, on reads and writes and on the ranges of a LOCKING say the sender's whole process without that (Demand2.antt; of a message's bytes it is
-- demands/specs/WireFields.antt's `sender_process`).

-- "Now a request's process is PIDHigh × 65,536 + PIDLow": two messages have the same process exactly if both halves are equal
pub record WholeProcess : Type 0 where
  pub both_halves : (c : Call) → (sender c).process ≡ 65536 * le16_at c.message 12 + le16_at c.message 26
  pub no-more-bits : (c : Call) → Bytes c.message → (sender c).process < 2 ^ 32
  pub same : (c d : Call) → Bytes c.message → Bytes d.message
      → ((sender c).process ≡ (sender d).process) ↔ ((le16_at c.message 12 ≡ le16_at d.message 12) × (le16_at c.message 26 ≡ le16_at d.message 26))

-- "a 16-bit process in a lock range takes its upper half from the header": the k-th range of a LOCKING, of its unlocks and of its locks, in both forms (what is a range of
-- the message: demands/specs/LockEffects.antt, `RangeOn`, by which demand 2 says what a LOCKING unlocks and locks). "the pad of the 20-byte form is not looked at": demand
-- 3's `UnreadBytes` (readings/specs/Unread.antt: `unread-pad`).
pub record WholeRange : Type 0 where
  pub of_range : (c : Call) → Bytes c.message → (k : ℕ) (r : LockRange) → RangeOn c.message k r → RangeProcess c.message k r
  -- "Opens and locks keep 32 bits": a lock alone in its request that is done stands behind those held, with that process
  pub taken : (c : Call) → Bytes c.message → DoneAlone c LOCKING → unlock_count c.message FIRST ≡ 0 → lock_count c.message FIRST ≡ 1
      → LockTaken c.message (locks_of c.tables) (locks_of (gives c).tables)
  -- a LOCK_BYTE_RANGE or UNLOCK_BYTE_RANGE (CR 3: "the process from the header") asks with all of the sender's process, and a lock that it takes has it
  pub core-range : (c : Call) → (core_asked c).process ≡ (sender c).process
  pub core-taken : (c : Call) → DoneAlone c LOCK_BYTE_RANGE
      → (l : Lock) × (locks_of (gives c).tables ≡ locks_of c.tables ++ (l ∷ [])) × (l.process ≡ (sender c).process)
  -- and an open that the host adds, behind those there are, with the process that the host gives
  pub open-keeps : (t : Tables) (uid tid process file access : ℕ) → (add_open t uid tid process file access).number ≡ 0
      → (o : Open) × (opens_of (add_open t uid tid process file access).tables ≡ opens_of t ++ (o ∷ [])) × (o.process ≡ process)

-- "unlock, the owner test .. use them all": two requests whose process numbers differ only in the upper half are different owners. d is the message of the one, who
-- holds the lock l, c the other's.
pub record DifferentOwners : Type 0 where
  -- a lock that the one took through a FID is not the other's own
  pub not-its-own : (c d : Call) → Bytes c.message → Bytes d.message → UpperHalvesDiffer d.message c.message
      → (fid : ℕ) (l : Lock) → Owner fid (sender d).process l → Owner fid (sender c).process l → ⊥
  -- where it is exclusive it bars the other's read over it, through the same FID: 1/33
  pub read-barred : (c d : Call) → Bytes c.message → Bytes d.message → UpperHalvesDiffer d.message c.message
      → (spans : List Span) (o : Open) → Answerable c → Reading c.message spans → header_command c.message ≡ READ → ValidOpen c o → (o.access ≡ 1 → ⊥)
      → (l : Lock) → In l (locks_of c.tables) → Owner (fid_after_andx c.message FIRST) (sender d).process l → l.shared ≡ false
      → Overlap l.offset l.length (read_from c.message) (read_max c.message FIRST) → RefusedForConflict c
  -- and the other's write
  pub write-barred : (c d : Call) → Bytes c.message → Bytes d.message → UpperHalvesDiffer d.message c.message
      → (spans : List Span) (o : Open) → Answerable c → Reading c.message spans → header_command c.message ≡ WRITE → ValidOpen c o → (o.access ≡ 0 → ⊥)
      → (l : Lock) → In l (locks_of c.tables) → Owner (fid_after_andx c.message FIRST) (sender d).process l → l.shared ≡ false
      → Overlap l.offset l.length (write_from c.message) (data_length c.message FIRST) → RefusedForConflict c
  -- and its core READ and core WRITE over it
  pub core-read-barred : (c d : Call) → Bytes c.message → Bytes d.message → UpperHalvesDiffer d.message c.message
      → (spans : List Span) (o : Open) → Answerable c → Reading c.message spans → header_command c.message ≡ CORE-READ → ValidCoreOpen c o → (o.access ≡ 1 → ⊥)
      → (l : Lock) → In l (locks_of c.tables) → Owner (first_fid c.message FIRST) (sender d).process l → l.shared ≡ false
      → Overlap l.offset l.length (core_offset c.message FIRST) (core_count c.message FIRST) → RefusedForConflict c
  pub core-write-barred : (c d : Call) → Bytes c.message → Bytes d.message → UpperHalvesDiffer d.message c.message
      → (spans : List Span) (o : Open) → Answerable c → Reading c.message spans → header_command c.message ≡ CORE-WRITE → (core_count c.message FIRST ≡ 0 → ⊥)
      → ValidCoreOpen c o → (o.access ≡ 0 → ⊥) → (l : Lock) → In l (locks_of c.tables) → Owner (first_fid c.message FIRST) (sender d).process l → l.shared ≡ false
      → Overlap l.offset l.length (core_offset c.message FIRST) (core_count c.message FIRST) → RefusedForConflict c
  -- of count 0 between the old and the new size
  pub size-barred : (c d : Call) → Bytes c.message → Bytes d.message → UpperHalvesDiffer d.message c.message
      → (spans : List Span) (o : Open) → Answerable c → Reading c.message spans → header_command c.message ≡ CORE-WRITE → core_count c.message FIRST ≡ 0
      → ValidCoreOpen c o → (o.access ≡ 0 → ⊥) → (l : Lock) → In l (locks_of c.tables) → Owner (first_fid c.message FIRST) (sender d).process l → l.shared ≡ false
      → Overlap l.offset l.length (covered_from c o) (covered_count c o) → RefusedForConflict c
  -- no range of the other's names the lock that was granted for a range of the one's, the same FID, 16 bits, offset and length or not
  pub not_named : (c d : Call) → Bytes c.message → Bytes d.message → (le16_at d.message 12 ≡ le16_at c.message 12 → ⊥)
      → (j k : ℕ) (q r : LockRange) (l : Lock) → RangeOn d.message j q → GrantedLock d.message q l → RangeOn c.message k r → (fid : ℕ) → Named fid r l → ⊥
  -- nor does the range of its LOCK_BYTE_RANGE or UNLOCK_BYTE_RANGE name a lock of the one's process
  pub core-not-named : (c d : Call) → Bytes c.message → Bytes d.message → UpperHalvesDiffer d.message c.message
      → (l : Lock) → l.process ≡ (sender d).process → (fid : ℕ) → Named fid (core_asked c) l → ⊥
  -- an unlock where no listed lock has its upper half: 1/158
  pub unlock-refused : (c : Call) → Bytes c.message → Answerable c → OneCommand c LOCKING → 1 ≤ unlock_count c.message FIRST → OnlyTwoBits (lock_type c.message FIRST)
      → (o : Open) → ValidOpen c o → ((l : Lock) → In l (locks_of c.tables) → l.process / 65536 ≡ le16_at c.message 12 → ⊥) → Says c 1 158
  pub core-unlock-refused : (c : Call) → Bytes c.message → Answerable c → OneCommand c UNLOCK_BYTE_RANGE
      → (o : Open) → ValidCoreOpen c o → ((l : Lock) → In l (locks_of c.tables) → l.process / 65536 ≡ le16_at c.message 12 → ⊥) → Says c 1 158

-- "A bench that numbers its processes beyond 65,535 lost its opens when another process on it ended"; "PROCESS_EXIT .. use them all": PROCESS_EXIT, alone in its message,
-- leaves every open but those of its UID and process, with the locks through them, as they were, and removes those of its UID and process
pub record ExitOfOne : Type 0 where
  pub left-and-gone : (c : Call) → DoneAlone c PROCESS_EXIT → ExitLeaves (le16_at c.message 28) (sender c).process c.tables (gives c).tables
  -- of a process d that differs in the upper half only
  pub other-left : (c d : Call) → Bytes c.message → Bytes d.message → UpperHalvesDiffer d.message c.message → DoneAlone c PROCESS_EXIT
      → (o : Open) → In o (opens_of c.tables) → o.process ≡ (sender d).process
      → In o (opens_of (gives c).tables) × ((l : Lock) → In l (locks_of c.tables) → l.fid ≡ o.fid → In l (locks_of (gives c).tables))

-- "demands 2 and 3 use them all": demand 2's sentences say the sender's process, and the messages of a chain's commands, of which demand 3 speaks (and demand 1, by which
-- the holder in a chain is that of its command's message), have the chain's sender
abbrev pub SameSender : Type 0
SameSender = (c : Call) (spans : List Span) → Reading c.message spans → (x : Span) → In x spans → (just : ℕ) → sender (sending c (own_span c.message just x)) ≡ sender c

pub record Request4 : Type 0 where
  pub whole-process : WholeProcess
  pub whole-range : WholeRange
  pub different-owners : DifferentOwners
  pub exit-of-one : ExitOfOne
  pub same-sender : SameSender
  -- "Reply bytes don't change": the header is document 01's, PIDHigh copied
  pub replies : ReplyHeader

-- ---- the proof: each line cites the theorem that does the work

pub exit-left : (c : Call) → DoneAlone c PROCESS_EXIT → ExitLeaves (le16_at c.message 28) (sender c).process c.tables (gives c).tables
unfolding caller_of
exit-left c d = exit-leaves _ _ c.tables (gives c).tables d.0.fit.tables-sound (exit-reading c.connection c.message d.1.reading c.tables c.memory c.room d.0.good d.0.fit d.2 d.1.is).0
