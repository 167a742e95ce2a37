-- Change request 3 of document 02, "The oldest benches", sentence by sentence. Assumes nothing.
use Rattle.std.specs.Prelude.{◌≡◌, refl, ◌↔◌, ℕ, ◌+◌, ◌*◌, ◌^◌, ◌≤◌, ◌<◌, false, length, get_or}
use Rattle.std.proofs.Common.{sym, ap, subst, ◌∙◌, arith}
use Rattle.std.proofs.Math.Decide.{ℕ_discrete}
use mathlib.Core.List.{List, [], ◌∷◌, ◌++◌, Memᴰ as In}
use Rattle.wire.specs.LittleEndian.{byte_at, le16_at, le32_at, le16-below}
use Rattle.records.specs.declared.Open.{Open}
use Rattle.records.specs.declared.Lock.{Lock}
use Rattle.records.specs.declared.Tables.{Tables}
use Rattle.records.specs.Held.{locks_of}
use Rattle.locks.specs.declared.types.LockRange.{LockRange}
use Rattle.host.specs.HostCall.{no_tables}
use Rattle.chain.specs.Layout.{LOCKING, READ, WRITE, CORE-READ, CORE-WRITE, LOCK_BYTE_RANGE, UNLOCK_BYTE_RANGE, header_command, FIRST, block_end, andx_command, andx_offset, data_length, first_fid, core_count, core_offset, range_length, range_offset}
use Rattle.chain.specs.Grammar.{IsBlock, MayFollow, Span, span_at, Reading}
use Rattle.chain.specs.Parse.{range_fields}
use Rattle.chain.specs.declared.block.WriteFields.{WriteFields}
use Rattle.chain.specs.declared.block.RangeFields.{RangeFields}
use Rattle.message.specs.Caller.{caller_of}
use Rattle.message.specs.Contents.{size_of}
use Rattle.message.specs.Refusal.{status}
use Rattle.message.specs.declared.caller.Caller.{Caller}
use Rattle.message.specs.declared.refusal.Status.{Status}
use Rattle.invariants.specs.Fit.{take-message-good}
use Rattle.invariants.specs.SoundParts.{sound-says}
use Rattle.invariants.specs.Sound.{Good, size-most}
use Rattle.readings.specs.CoreAlone.{EndsChain, Core, may-end, ends_read, ends-write, core-lock, core-unlock, CoreStands, core-last, core-follows, core-alone, core-ends}
use Rattle.readings.proofs.CoreAlone.{core-stands}
use Rattle.claims.proofs.SoundPlain.{sound-plain}
use Rattle.claims.specs.StreamKept.{Bytes}
use Rattle.demands.specs.NotServed.{Known}
use Rattle.demands.specs.LoneLock.{InWay, Owner}
use Rattle.demands.specs.LockWords.{Named, TakenOut}
use Rattle.demands.specs.Admitted.{no-session, before-tree, no-tree, before-open, no-open}
use Rattle.demands.specs.CoreReasons.{LockStatus, lock-not, lock-barred, lock-full, lock-done, unlock-unnamed, unlock-done}
use Rattle.demands.specs.WritingReasons.{write-space, write_done}
use Rattle.demands.specs.WireFields.{read_from, write_from, core_read_fields, core_write_fields}
use Rattle.demands.specs.CommandReasons.{count-0}
use Rattle.demands.proofs.FirstReadings.{first-set-size-reading, one-conflict, core-write-exact, lock-exact, unlock-exact}
use Rattle.demands.specs.HolderLone.{same-open}
use Rattle.demands.specs.DataBlock.{BadCoreWrite, AnsweredMalformed, marked-block, reading-block}
use Rattle.demands.specs.CorePairCalls.{EqualReadWrite, EqualFields, BlocksAlike, SameCalls, SameLocking, ChainsAlike}
use Rattle.demands.proofs.CorePairCallsStated.{core-calls}
use Rattle.demands.proofs.CorePairCalls.{chain-calls}
use Rattle.demands.proofs.Effects.{core-read-reading, core-write-reading}
use Rattle.demands.specs.SetSize.{SizeSet}
use Rattle.demands.proofs.SetSize.{set-size-reading}
use Rattle.demands.proofs.LockEffects.{lock-reading, unlock-reading}
use Rattle.demands.specs.Processes.{range-whole}
use Rattle.demands.specs.SpansOneByOne.{own_span}
use Rattle.demands.specs.CoreMoved.{SameBlock}
use Rattle.demands.specs.Reached.{take-message-memory}
use Rattle.demands.specs.OldBytes.{ZeroFrom, Asked, history}
use Rattle.order.specs.Call.{Call, gives, Answerable, OneCommand, Says, sender, sending}
use Rattle.order.specs.Demand1.{StatusForItsReason, RoomSuffices}
use Rattle.order.specs.Demand2.{DoneAlone, ValidOpen, core_asked, ValidCoreOpen, covered_from, covered_count}
use Rattle.order.specs.Demand3.{Demand3}

-- In names READ and WRITE without more are the AndX requests, as in document 01; document 02's READ 0x0A and WRITE 0x0B, of which the comments here speak, are the core READ and
-- WRITE (docs/DECISIONS.md, 81). What each of the four leaves where it is carried out, with every byte of its reply block, is demand 2's `CarriedOut`; each Status with its reason is demand 1's
-- `StatusForItsReason`; who holds the lock in its way is Request2's `PlaceOfTheFirst`. Behind a LOCKING a command is what it is alone on the tables then left: demand 3's
-- `OneToAMessage` and `EachAlone`. That the premises here can hold together: Possible3.antt.

-- ---- "Add them with 32-bit offsets and the rules of their AndX counterparts, the process from the header; the lock is exclusive."

-- the lock that a LOCK_BYTE_RANGE takes, behind those held
pub record ExclusiveTaken (c : Call) : Type 0 where
  pub lock : Lock
  pub of-fid : lock.fid ≡ first_fid c.message FIRST
  pub of-process : lock.process ≡ (sender c).process
  pub of-offset : lock.offset ≡ range_offset c.message FIRST
  pub of_length : lock.length ≡ range_length c.message FIRST
  pub exclusive : lock.shared ≡ false
  pub behind : locks_of (gives c).tables ≡ locks_of c.tables ++ (lock ∷ [])

-- the fields where the message has them, the block standing at 32. `core_read_fields`, `core_write_fields` and `range_fields` are what the rows of demands 1 and 2 speak of; here
-- they are spelled at their byte places. Of a message of bytes (below 256, which the type says of code) an offset has 32 bits. The rules of
-- the counterparts are `SameAsCounterpart` below.
pub record OnTheWire : Type 0 where
  -- READ, WRITE: 5 words, FID 2, count 2, offset 4; a WRITE's data at 48, behind the mark and the length of its data block
  pub read : (c : Call) → core_read_fields c.message ≡ record { fid = le16_at c.message 33; offset = le32_at c.message 37; max = le16_at c.message 35 }
  pub write : (c : Call) → OneCommand c CORE-WRITE
      → core_write_fields c.message ≡ record { fid = le16_at c.message 33; offset = le32_at c.message 37; count = le16_at c.message 35; from = 48 }
  -- LOCK_BYTE_RANGE, UNLOCK_BYTE_RANGE: FID 2, count 4, offset 4
  pub range : (c : Call) → range_fields c.message FIRST ≡ record { fid = le16_at c.message 33; offset = le32_at c.message 39; length = le32_at c.message 35 }
  pub offset-32 : (c : Call) → Bytes c.message → (core_offset c.message FIRST < 2 ^ 32) × (range_offset c.message FIRST < 2 ^ 32)
  -- "the process from the header": the range that a LOCK_BYTE_RANGE or UNLOCK_BYTE_RANGE asks for. It never passes 2^64, so that 1/87 can't arise
  pub asks : (c : Call) → Bytes c.message
      → core_asked c ≡ record { process = (sender c).process; offset = range_offset c.message FIRST; length = range_length c.message FIRST }
  pub within : (c : Call) → (core_asked c).offset + (core_asked c).length ≤ 2 ^ 64
  -- "the lock is exclusive"
  pub locks : (c : Call) → Bytes c.message → DoneAlone c LOCK_BYTE_RANGE → ExclusiveTaken c
  -- and an unlock takes the earliest lock "with equal FID, process, offset and length" out of the list
  pub unlocks : (c : Call) → Bytes c.message → DoneAlone c UNLOCK_BYTE_RANGE
      → TakenOut (first_fid c.message FIRST) (record { process = (sender c).process; offset = range_offset c.message FIRST; length = range_length c.message FIRST })
      (locks_of c.tables) (locks_of (gives c).tables)

-- ---- "Each stands alone in a message, save that READ and WRITE may end a chain after LOCKING_ANDX."

-- said of the grammar's readings; whatever stands otherwise is no sentence, and so 2/1 (demand 3's `MalformedExactly`)
pub record StandsAlone : Type 0 where
  -- a core command is the only block of a reading, or it is a READ or WRITE, the second of two, and the first is a LOCKING
  pub stands : (c : Call) (spans : List Span) → Reading c.message spans → (x : Span) → In x spans → Core x.command → CoreStands x spans
  -- it follows a command exactly if that is LOCKING and it is READ or WRITE; no command follows it
  pub follows : (command next : ℕ) → Core next → MayFollow command next ↔ ((command ≡ LOCKING) × EndsChain next)
  pub nothing-follows : (command next : ℕ) → Core command → MayFollow command next → ⊥
  -- and both are readings: a core command's block at 32, and a LOCKING's there with a READ's or WRITE's where its AndX words say, at or behind its end
  pub alone : (c : Call) (command : ℕ) → Core command → header_command c.message ≡ command → IsBlock c.message FIRST command
      → Reading c.message (span_at c.message command FIRST ∷ [])
  pub ends : (c : Call) (command : ℕ) → EndsChain command → header_command c.message ≡ LOCKING → IsBlock c.message FIRST LOCKING → andx_command c.message FIRST ≡ command
      → block_end c.message FIRST ≤ andx_offset c.message FIRST → IsBlock c.message (andx_offset c.message FIRST) command
      → Reading c.message (span_at c.message LOCKING FIRST ∷ span_at c.message command (andx_offset c.message FIRST) ∷ [])

-- document 01, "Sent one to a message": "each block in turn makes a message of the chain's header with the block's command, then the block at 32". Of a READ or WRITE behind a LOCKING
-- (and of one alone) that message has at 32 the FID, the count, the offset and the data that the chain has at the block's place, and the chain's sender. What the chain gives is
-- what these messages give in turn (demand 3's `OneToAMessage`), each fit to be answered and one command alone (`EachAlone`): so the rows here say what a WRITE of
-- count 0 does behind a LOCKING, on the tables that the LOCKING left, with its locks.
abbrev pub SentAlone : Type 0
SentAlone =
    (c : Call) (spans : List Span) → Reading c.message spans → Answerable c → (x : Span) → In x spans → EndsChain x.command → (just : ℕ)
    → SameBlock c.message x.place (own_span c.message just x) x.command × (sender (sending c (own_span c.message just x)) ≡ sender c)

-- ---- "A core WRITE of count 0 sets the file's size to the offset (past 4,096 is 3/39), with zeros where it grows and no byte changed where it shrinks; for locks it
-- ---- covers the bytes between the old and the new size."

-- a core WRITE of count 0 alone in its message, through an open that may be written
pub record AsksSize (c : Call) (o : Open) : Type 0 where
  pub answerable : Answerable c
  pub one : OneCommand c CORE-WRITE
  pub count-0 : core_count c.message FIRST ≡ 0
  pub valid : ValidCoreOpen c o
  pub may_write : o.access ≡ 0 → ⊥

-- a lock of that file on "the bytes between the old and the new size", save the writer's own exclusive ones
abbrev pub LockBetween : Call → Open → Type 0
LockBetween c o =
    InWay c.tables o (locks_of c.tables) (covered_from c o) (covered_count c o) (λ l. (l.shared ≡ false) × Owner (first_fid c.message FIRST) (sender c).process l → ⊥)

pub record SetsTheSize : Type 0 where
  -- done: the open's file has the offset as its size; its bytes are the old ones below it, then zeros; where it shrinks or stays no byte of the file memory is changed; its change
  -- number is raised where the size is another (CR 8); every other file and record is as before; where the size was the offset already, nothing at all is changed (demands/specs/SetSize.antt)
  pub sets : (c : Call) (o : Open) → AsksSize c o → Says c 0 0
      → SizeSet c.tables (gives c).tables o.file (core_offset c.message FIRST) c.memory (gives c).memory
  -- refused 1/33 exactly for such a lock, also where the offset is past 4,096
  pub covers : (c : Call) (o : Open) → AsksSize c o → Says c 1 33 ↔ LockBetween c o
  -- else 3/39 exactly past 4,096, and done up to there
  pub past : (c : Call) (o : Open) → AsksSize c o → Says c 3 39 ↔ ((LockBetween c o → ⊥) × (4096 < core_offset c.message FIRST))
  pub not-past : (c : Call) (o : Open) → AsksSize c o → Says c 0 0 ↔ ((LockBetween c o → ⊥) × (core_offset c.message FIRST ≤ 4096))

-- ---- "Prove once that a core command and its counterpart with equal fields change the same things, count 0 excepted."

-- another message, of the same sender, is sent instead of the call's, on the same tables, file memory and room
pub record SentInstead (c : Call) (other : List ℕ) : Type 0 where
  pub answerable : Answerable c
  pub other-answerable : Answerable (sending c other)
  pub same-sender : sender c ≡ sender (sending c other)

-- the four pairs are one list, `EqualFields`, each by the fields of the messages' bytes; it asks of a WRITE a count that is not 0. Both calls give the same number, Status
-- and holder and leave the same tables and file memory, and their reply blocks say the same, each in its own form (`SameCalls`).
pub record SameAsCounterpart : Type 0 where
  pub alone : (c : Call) (other : List ℕ) (core counterpart : ℕ) → SentInstead c other → Bytes c.message → OneCommand c core → OneCommand (sending c other) counterpart
      → EqualFields c.message other core counterpart → SameCalls (BlocksAlike FIRST) c.message other c.room (gives c) (gives (sending c other))
  -- READ and WRITE at the end of a chain, each behind a LOCKING of the same fields and ranges
  pub in-a-chain : (c : Call) (other : List ℕ) (core counterpart : ℕ) → SentInstead c other → (w x y z : Span) → Reading c.message (w ∷ x ∷ []) → Reading other (y ∷ z ∷ [])
      → SameLocking c.message other → andx_command c.message FIRST ≡ core → andx_command other FIRST ≡ counterpart
      → EqualReadWrite c.message (andx_offset c.message FIRST) other (andx_offset other FIRST) core counterpart
      → SameCalls (ChainsAlike core counterpart) c.message other c.room (gives c) (gives (sending c other))

-- ---- "Demand 3's grammar gains these rows; show again that the reply room is enough."

pub record RowsGained : Type 0 where
  -- the grammar of demand 3 has them (chain/specs/Grammar.antt: `core-read`, `core-write`, `lock-byte-range`, `unlock-byte-range`, `locking-core-read`, `locking-core-write`), and
  -- all its sentences hold
  pub demand : Demand3
  pub known : Known CORE-READ × Known CORE-WRITE × Known LOCK_BYTE_RANGE × Known UNLOCK_BYTE_RANGE
  pub room : RoomSuffices
  -- alone the longest is a READ's, at most the header, 16 bytes and a whole file
  pub longest : (c : Call) (command : ℕ) → Core command → DoneAlone c command → (gives c).length ≤ 32 + 16 + 4096

-- ---- "Refusals: as for the counterparts; a data block not marked 0x01 or whose lengths disagree is 2/1."

pub record Refusals : Type 0 where
  -- with the counterpart's Status: `SameAsCounterpart`; each for its reason: demand 1's rows
  pub statuses : StatusForItsReason
  -- "UNLOCK of what isn't locked is 1/158, though 000 and 004 say no error"
  pub unlock-of-nothing : (c : Call) (o : Open) → Answerable c → OneCommand c UNLOCK_BYTE_RANGE → ValidCoreOpen c o
      → Says c 1 158 ↔ ((l : Lock) → In l (locks_of c.tables) → Named (first_fid c.message FIRST) (core_asked c) l → ⊥)
  -- "2/65535 and 1/87 can't arise for LOCK"
  pub cannot-arise : (c : Call) → Answerable c → OneCommand c LOCK_BYTE_RANGE → (Says c 2 65535 → ⊥) × (Says c 1 87 → ⊥)
  -- of a core WRITE alone or behind a LOCKING: 2/1, before anything is carried out
  pub bad-data-block : (c : Call) → Answerable c → BadCoreWrite c.message → AnsweredMalformed c.tables c.memory (gives c)

-- ---- "After a shrink the bytes stay, and a later growth puts zeros from the then size on, so old bytes never show again."

-- a call that is made on what another left
pub record OnWhatItLeft (c d : Call) : Type 0 where
  pub same_tables : d.tables ≡ (gives c).tables
  pub same_memory : d.memory ≡ (gives c).memory

pub record OldBytesNeverShow : Type 0 where
  -- cut to one offset, and grown by a count of 0 to another: between the two the file has zeros, in the file memory, in its contents and in every read (`ZeroFrom`)
  pub then-grown : (c d : Call) (o p : Open) → AsksSize c o → Says c 0 0 → OnWhatItLeft c d → AsksSize d p → Says d 0 0 → p.file ≡ o.file
      → ZeroFrom (gives d).tables (gives d).memory o.file (core_offset c.message FIRST) (core_offset d.message FIRST)
  -- or by a write of some bytes further on, core WRITE or WRITE
  pub then-core-written : (c d : Call) (o p : Open) → AsksSize c o → Says c 0 0 → OnWhatItLeft c d → DoneAlone d CORE-WRITE → 1 ≤ core_count d.message FIRST
      → ValidCoreOpen d p → p.file ≡ o.file → ZeroFrom (gives d).tables (gives d).memory o.file (core_offset c.message FIRST) (core_offset d.message FIRST)
  pub then-written : (c d : Call) (o p : Open) → AsksSize c o → Says c 0 0 → OnWhatItLeft c d → DoneAlone d WRITE → 1 ≤ data_length d.message FIRST
      → ValidOpen d p → p.file ≡ o.file → ZeroFrom (gives d).tables (gives d).memory o.file (core_offset c.message FIRST) (write_from d.message)
  -- and so in the reply to a core READ or a READ that comes to them, whose bytes stand at 48 or at 59 and whose count at 33 or at 43
  pub core-read-back : (c : Call) (o : Open) (from to : ℕ) → DoneAlone c CORE-READ → ValidCoreOpen c o → ZeroFrom c.tables c.memory o.file from to
      → (i : ℕ) → i < le16_at (gives c).room 33 → from ≤ core_offset c.message FIRST + i → core_offset c.message FIRST + i < to → byte_at (gives c).room (48 + i) ≡ 0
  pub read_back : (c : Call) (o : Open) (from to : ℕ) → DoneAlone c READ → ValidOpen c o → ZeroFrom c.tables c.memory o.file from to
      → (i : ℕ) → i < le16_at (gives c).room 43 → from ≤ read_from c.message + i → read_from c.message + i < to → byte_at (gives c).room (59 + i) ≡ 0
  -- whatever stands in the file memory at or above the files' sizes: two file memories with the same bytes below them are told apart by no history of calls
  pub never : (t : Tables) (memory other : List ℕ) → Good t → length memory ≡ 65536 → length other ≡ 65536
      → ((file i : ℕ) → file ≤ 15 → i < size_of t file → get_or memory (file * 4096 + i) 0 ≡ get_or other (file * 4096 + i) 0)
      → (calls : List Asked) → history calls t memory ≡ history calls t other
  -- nor what stood in the file memory that the host lends first, with the empty tables
  pub nor-before : (memory other : List ℕ) → length memory ≡ 65536 → length other ≡ 65536 → (calls : List Asked) → history calls no_tables memory ≡ history calls no_tables other

pub record Request3 : Type 0 where
  pub on-the-wire : OnTheWire
  pub stands-alone : StandsAlone
  pub sent-alone : SentAlone
  pub sets-the-size : SetsTheSize
  pub same-as-counterpart : SameAsCounterpart
  pub rows-gained : RowsGained
  pub refusals : Refusals
  pub old-bytes-never-show : OldBytesNeverShow

-- ---- the proof: each line cites the theorem that does the work

-- one Status has one code
pub two-codes : {x n m : Status} → x ≡ n → x ≡ m → n.code ≡ m.code
two-codes e f = ap (λ (s : Status). s.code) (sym e ∙ f)

-- four bytes make 32 bits
below-32 : (s : List ℕ) → Bytes s → (at : ℕ) → le32_at s at < 2 ^ 32
unfolding le32_at
below-32 s b at = let low = le16-below s b.small at in let high = le16-below s b.small (at + 2) in omega arith

pub on-wire : OnTheWire
unfolding caller_of
on-wire =
    record {
      read = λ c. refl;
      write = λ c one.
          ap (λ (n : ℕ). let f : WriteFields = record { fid = le16_at c.message 33; offset = le32_at c.message 37; count = le16_at c.message 35; from = 32 + 3 + 2 * n + 3 } in f)
          (marked-block (rw one.is at (reading-block one.reading))).shape.counted;
      range = λ c. refl;
      offset-32 = λ c b. (below-32 c.message b 37, below-32 c.message b 39);
      asks = λ c b. range-whole c.message b c.connection;
      within = λ c. omega arith;
      locks = λ c b d.
          let w = lock-reading c.connection c.message d.1.reading c.tables c.memory c.room d.0.good d.0.fit d.2 d.1.is in
          let whole = range-whole c.message b c.connection in
          record {
            lock = w.lock;
            of-fid = w.of-fid;
            of-process = w.of-process;
            of-offset = w.of-offset ∙ ap (λ (r : LockRange). r.offset) whole;
            of_length = w.of_length ∙ ap (λ (r : LockRange). r.length) whole;
            exclusive = w.exclusive;
            behind = w.held;
          };
      unlocks = λ c b d.
          let w = unlock-reading c.connection c.message d.1.reading c.tables c.memory c.room d.0.good d.0.fit d.2 d.1.is in
          let asked : w.range ≡ core_asked c = λ i. record { process = w.of-process i; offset = w.of-offset i; length = w.of_length i } in
          subst (λ (r : LockRange). TakenOut (first_fid c.message FIRST) r (locks_of c.tables) (locks_of (gives c).tables)) (asked ∙ range-whole c.message b c.connection) w.unlocked;
    }

pub standing : StandsAlone
standing =
    record {
      stands = λ c spans r. core-stands r;
      follows = core-follows;
      nothing-follows = λ command next core. core-last core;
      alone = λ c command core. core-alone core;
      ends = λ c command ends. core-ends ends;
    }

-- the size of the open's file, where it is set
pub size-set : (c : Call) (o : Open) → AsksSize c o → Says c 0 0
    → (core_offset c.message FIRST ≤ 4096) × SizeSet c.tables (gives c).tables o.file (core_offset c.message FIRST) c.memory (gives c).memory
size-set c o a z =
    let w = set-size-reading c.connection c.message a.one.reading c.tables c.memory c.room a.answerable.good a.answerable.fit z a.one.is a.count-0 in
    let same : w.through ≡ o = same-open a.answerable.fit.tables-sound a.valid w.admitted in
    (w.not-past, subst (λ (p : Open). SizeSet c.tables (gives c).tables p.file (core_offset c.message FIRST) c.memory (gives c).memory) same w.sets)

pub size-covers : (c : Call) (o : Open) → AsksSize c o → Says c 1 33 ↔ LockBetween c o
unfolding caller_of
size-covers c o a =
    one-conflict c.connection c.message a.one.reading c.tables c.memory c.room a.answerable.fit
    (first-set-size-reading c.connection c.message a.one.reading c.tables c.memory c.room a.answerable.fit o a.valid a.one.is a.count-0 a.may_write)

pub size-done : (c : Call) (o : Open) → AsksSize c o → (LockBetween c o → ⊥) → core_offset c.message FIRST ≤ 4096 → Says c 0 0
unfolding caller_of
size-done c o a free low =
    (core-write-exact c.connection c.message a.one.reading c.tables c.memory c.room a.answerable.fit a.one.is (status 0 0)).1
    (count-0 a.count-0 (write_done a.valid a.may_write free low))

pub size-past : (c : Call) (o : Open) → AsksSize c o → (LockBetween c o → ⊥) → 4096 < core_offset c.message FIRST → Says c 3 39
unfolding caller_of
size-past c o a free past =
    (core-write-exact c.connection c.message a.one.reading c.tables c.memory c.room a.answerable.fit a.one.is (status 3 39)).1
    (count-0 a.count-0 (write-space a.valid a.may_write free past))

pub counterparts : SameAsCounterpart
counterparts =
    record {
      alone = λ c other core counterpart i b one two equal.
          core-calls c.connection c.message other equal b one.is two.is i.same-sender one.reading two.reading c.tables c.memory c.room i.answerable.fit
          i.other-answerable.fit;
      in-a-chain = λ c other core counterpart i w x y z r q same is is' equal.
          chain-calls c.connection c.message other same is is' equal i.same-sender r q c.tables c.memory c.room i.answerable.fit i.other-answerable.fit;
    }

pub longest-reply : (c : Call) {command : ℕ} → Core command → DoneAlone c command → (gives c).length ≤ 32 + 16 + 4096
longest-reply c (may-end ends_read) d =
    let w = core-read-reading c.connection c.message d.1.reading c.tables c.memory c.room d.0.good d.0.fit d.2 d.1.is in
    let most = size-most c.tables w.through.file (sound-says c.tables d.0.fit.tables-sound) in
    let n = w.so-many in
    let long = w.reply-ends in
    omega arith
longest-reply c (may-end ends-write) d =
    elim (ℕ_discrete (core_count c.message FIRST) 0) [
      | yes e ↦
          let long = (set-size-reading c.connection c.message d.1.reading c.tables c.memory c.room d.0.good d.0.fit d.2 d.1.is e).reply-ends in
          omega arith
      | no n ↦
          let some : 1 ≤ core_count c.message FIRST = omega arith in
          let long = (core-write-reading c.connection c.message d.1.reading c.tables c.memory c.room d.0.good d.0.fit d.2 d.1.is some).reply-ends in
          omega arith
    ]
longest-reply c core-lock d =
    let long = (lock-reading c.connection c.message d.1.reading c.tables c.memory c.room d.0.good d.0.fit d.2 d.1.is).reply-ends in omega arith
longest-reply c core-unlock d =
    let long = (unlock-reading c.connection c.message d.1.reading c.tables c.memory c.room d.0.good d.0.fit d.2 d.1.is).reply-ends in omega arith

lock-codes : {c : Caller} {t : Tables} {f : RangeFields} {n : Status} → LockStatus c t f n → (n.code ≡ 65535 → ⊥) × (n.code ≡ 87 → ⊥)
unfolding status
lock-codes (lock-not (before-open (before-tree (no-session _)))) = (λ e. omega arith, λ e. omega arith)
lock-codes (lock-not (before-open (no-tree _ _))) = (λ e. omega arith, λ e. omega arith)
lock-codes (lock-not (no-open _ _ _)) = (λ e. omega arith, λ e. omega arith)
lock-codes (lock-barred _ _) = (λ e. omega arith, λ e. omega arith)
lock-codes (lock-full _ _ _) = (λ e. omega arith, λ e. omega arith)
lock-codes (lock-done _ _ _) = (λ e. omega arith, λ e. omega arith)

pub nothing-unlocked : (c : Call) (o : Open) → Answerable c → OneCommand c UNLOCK_BYTE_RANGE → ValidCoreOpen c o
    → Says c 1 158 ↔ ((l : Lock) → In l (locks_of c.tables) → Named (first_fid c.message FIRST) (core_asked c) l → ⊥)
unfolding status
nothing-unlocked c o a one valid =
    let exact = unlock-exact c.connection c.message one.reading c.tables c.memory c.room a.fit one.is in (
      λ h l i named. let n = two-codes h ((exact (status 0 0)).1 (unlock-done valid (record { lock = l; listed = i; named = named }))) in omega arith,
      λ none. (exact (status 1 158)).1 (unlock-unnamed valid (λ w. none w.lock w.listed w.named)),
    )

pub never-arise : (c : Call) → Answerable c → OneCommand c LOCK_BYTE_RANGE → (Says c 2 65535 → ⊥) × (Says c 1 87 → ⊥)
unfolding status
never-arise c a one =
    let exact = lock-exact c.connection c.message one.reading c.tables c.memory c.room a.fit one.is in
    (λ h. (lock-codes ((exact (status 2 65535)).0 h)).0 refl, λ h. (lock-codes ((exact (status 1 87)).0 h)).1 refl)

-- what is said of tables, a file and a file memory, of those that they are
pub moved : (P : Tables → ℕ → List ℕ → Type 0) {t u : Tables} {i j : ℕ} {m n : List ℕ} → t ≡ u → i ≡ j → m ≡ n → P t i m → P u j n
moved P {t} {u} {i} {j} {m} {n} e f g x = subst (λ (k : List ℕ). P u j k) g (subst (λ (k : ℕ). P u k m) f (subst (λ (k : Tables). P k i m) e x))

-- what the second of two calls leaves
module _ (d : Call) (a : Answerable d) where
  pub left-good : Good (gives d).tables
  left-good = take-message-good d.connection d.message d.tables d.memory d.room a.good

  pub left-whole : length (gives d).memory ≡ 65536
  left-whole = take-message-memory d.connection d.message d.tables d.memory d.room a.good ∙ a.fit.memory-whole

pub file-low : (c : Call) (o : Open) → AsksSize c o → o.file ≤ 15
file-low c o a = ((sound-plain c.tables).0 a.answerable.fit.tables-sound).files o a.valid.opened.listed
