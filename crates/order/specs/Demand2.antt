-- Demand 2 of the order, sentence by sentence. Assumes nothing.
use Rattle.std.specs.Prelude.{◌≡◌, ◌↔◌, ℕ, min, max, ◌+◌, ◌-◌, ◌^◌, ◌≤◌, Bool, true}
use mathlib.Core.List.{List, [], ◌∷◌, map, Memᴰ as In}
use Rattle.wire.specs.LittleEndian.{le16_at}
use Rattle.records.specs.declared.Open.{Open}
use Rattle.records.specs.declared.Lock.{Lock}
use Rattle.records.specs.Held.{locks_of}
use Rattle.locks.specs.Range.{Overlap}
use Rattle.locks.specs.declared.types.LockRange.{LockRange}
use Rattle.chain.specs.Layout.{LOCKING, READ, WRITE, CLOSE, LOGOFF, TREE_DISCONNECT, PROCESS_EXIT, CORE-READ, CORE-WRITE, LOCK_BYTE_RANGE, UNLOCK_BYTE_RANGE, OPEN, header_command, FIRST, fid_after_andx, lock_type, unlock_count, lock_count, first_fid, core_count, core_offset}
use Rattle.chain.specs.Grammar.{Span, Reading, Sentence}
use Rattle.chain.specs.Parse.{range_fields}
use Rattle.message.specs.Caller.{caller_of}
use Rattle.message.specs.Contents.{size_of}
use Rattle.claims.specs.Cases.{message, table, cases}
use Rattle.demands.specs.SentenceCases.{message-61-sentence, message-60-none, message-62-sentence}
use Rattle.demands.specs.Admitted.{Admitted}
use Rattle.demands.specs.CommandReasons.{OnlyTwoBits}
use Rattle.demands.specs.LoneLock.{OfFile, core_range, lone_range, shared_in}
use Rattle.demands.specs.LoneCall.{locking_fields, locking_area}
use Rattle.demands.proofs.LoneCall.{lone-lock-reading}
use Rattle.demands.specs.ReplyHeader.{HeaderOf}
use Rattle.demands.proofs.ReplyHeader.{reply-header as header-given}
use Rattle.demands.specs.FirstReadings.{BarsReadOn, BarsWriteOn, BarsCoreReadOn, BarsCoreWriteOn, BarsSizeOn}
use Rattle.demands.proofs.FirstReadings.{first-read-reading, first-write-reading, first-core-read-reading, first-core-write-reading, first-set-size-reading, first-lock-reading}
use Rattle.demands.specs.Effects.{ReadDone, WriteDone, CoreReadDone, CoreWriteDone}
use Rattle.demands.proofs.Effects.{read-reading, write-reading, core-read-reading, core-write-reading, disconnect-reading, logoff-reading}
use Rattle.demands.proofs.EffectsStated.{close-reading, exit-reading}
use Rattle.demands.specs.OpenEffects.{OpenDone}
use Rattle.demands.proofs.OpenEffects.{open-reading}
use Rattle.demands.specs.SetSize.{SetSizeDone}
use Rattle.demands.proofs.SetSize.{set-size-reading}
use Rattle.demands.specs.LockEffects.{LockingDone, LockRangeDone, UnlockRangeDone}
use Rattle.demands.proofs.LockEffects.{locking-reading, lock-reading, unlock-reading}
use Rattle.claims.specs.RemovalPlain.{Closed, Disconnected, LoggedOff, Exited}
use Rattle.claims.specs.AskUnchanged.{ask-stands}
use Rattle.claims.specs.EndOne.{OneEnded}
use Rattle.claims.proofs.EndOne.{end_one-frame}
use Rattle.claims.specs.HostFrames.{SessionAdded, TreeAdded, OpenAdded, FileLoaded, ConnectionDropped, CatalogueSet, add_session-frame, add_tree-frame, add_open-frame, load_file-frame, set_catalogue-frame}
use Rattle.claims.proofs.HostFrames.{drop_connection-frame}
use Rattle.host.specs.declared.ending.One.{One}
use Rattle.host.specs.HostCall.{add_session, add_tree, add_open, load_file, load_memory, drop_connection, set_catalogue, ask_unchanged, end_one}
use Rattle.records.specs.declared.Name.{Name}
use Rattle.records.specs.declared.Tables.{Tables}
use Rattle.invariants.specs.Sound.{Good}
use Rattle.order.specs.Call.{Call, gives, Answerable, OneCommand, Says, sender}

-- "Every reply, table and file byte is what the public CIFS documents say, as cut down in document 01": what a call gives is defined for all inputs
-- (message/specs/Message.antt: `take-message`; host/specs/HostCall.antt), and the contract of each entry point is an equation with that definition. The papers'
-- numbers stand a second time, as literals, in the crate `literals`. What the definitions come to, in plain words:

-- document 01's starred cases 1 to 12: what the definitions give is what the document says; cases 1 to 3 of the grammar, "with 62 and 85 bytes" whatever the free byte
pub record StarredCases : Type 0 where
  pub rows : map (λ c. c.given) table ≡ map (λ c. c.said) table
  pub case-1 : Sentence (message 61 [])
  pub case-2 : Sentence (message 60 []) → ⊥
  pub case-3 : (x : ℕ) → Sentence (message 62 (x ∷ []))

-- "A reply copies Command, PIDHigh, TID, PIDLow, UID and MID; Flags is 0x80 plus the request's 0x08; .. the rest is 0 but for Status"; Flags2 is the request's & 0x4001 (docs/DECISIONS.md,
-- 127)
abbrev pub ReplyHeader : Type 0
ReplyHeader = (c : Call) → Answerable c → HeaderOf c.message (gives c).room

-- a command alone in its message that is carried out (Status 0/0): what it leaves, and a READ's bytes and a WRITE's count in the reply (every byte of each kind of reply:
-- literals/specs/Replies.antt)
abbrev pub DoneAlone : Call → ℕ → Type 0
DoneAlone c command = Answerable c × OneCommand c command × Says c 0 0

pub record CarriedOut : Type 0 where
  pub locking : (c : Call) → DoneAlone c LOCKING → LockingDone c.connection c.message c.tables c.memory (gives c)
  pub read : (c : Call) → DoneAlone c READ → ReadDone c.connection c.message c.tables c.memory (gives c)
  pub write : (c : Call) → DoneAlone c WRITE → WriteDone c.connection c.message c.tables c.memory (gives c)
  pub close : (c : Call) → DoneAlone c CLOSE → Closed (first_fid c.message FIRST) c.tables (gives c).tables × ((gives c).memory ≡ c.memory)
  pub disconnect : (c : Call) → DoneAlone c TREE_DISCONNECT → Disconnected (le16_at c.message 24) c.tables (gives c).tables × ((gives c).memory ≡ c.memory)
  pub logoff : (c : Call) → DoneAlone c LOGOFF → LoggedOff (le16_at c.message 28) c.tables (gives c).tables × ((gives c).memory ≡ c.memory)
  pub exit : (c : Call) → DoneAlone c PROCESS_EXIT
      → Exited (le16_at c.message 28) (sender c).process c.tables (gives c).tables × ((gives c).memory ≡ c.memory)
  -- the core commands (document 02, CR 3), each with the bytes of its reply block: READ, WRITE of some bytes and of count 0, LOCK_BYTE_RANGE, UNLOCK_BYTE_RANGE
  pub core-read : (c : Call) → DoneAlone c CORE-READ → CoreReadDone c.connection c.message c.tables c.memory (gives c)
  pub core-write : (c : Call) → DoneAlone c CORE-WRITE → 1 ≤ core_count c.message FIRST → CoreWriteDone c.connection c.message c.tables c.memory (gives c)
  pub set-size : (c : Call) → DoneAlone c CORE-WRITE → core_count c.message FIRST ≡ 0
      → SetSizeDone (sender c) c.tables (first_fid c.message FIRST) (core_offset c.message FIRST) c.memory (gives c)
  pub core-lock : (c : Call) → DoneAlone c LOCK_BYTE_RANGE → LockRangeDone c.connection c.message c.tables c.memory (gives c)
  pub core-unlock : (c : Call) → DoneAlone c UNLOCK_BYTE_RANGE → UnlockRangeDone c.connection c.message c.tables c.memory (gives c)
  -- OPEN_ANDX (document 02, CR 6): one open more, with the smallest free FID, and the reply's bytes with Flags bit 0 clear and set
  pub opening : (c : Call) → DoneAlone c OPEN → OpenDone c.connection c.message c.tables c.memory (gives c)

-- what a host call leaves, and what stands
pub record HostCallsDone : Type 0 where
  pub session : (t : Tables) (connection : ℕ) → (add_session t connection).number ≡ 0 → SessionAdded t connection (add_session t connection)
  pub tree : (t : Tables) (uid right : ℕ) → (add_tree t uid right).number ≡ 0 → TreeAdded t uid right (add_tree t uid right)
  pub open-file : (t : Tables) (uid tid process file access : ℕ) → (add_open t uid tid process file access).number ≡ 0
      → OpenAdded t uid tid process file access (add_open t uid tid process file access)
  pub load : (t : Tables) → Good t → (file : ℕ) (bytes memory : List ℕ) → (load_file t file bytes memory).number ≡ 0
      → FileLoaded t file bytes memory (load_file t file bytes memory) (load_memory t file bytes memory)
  pub drop : (t : Tables) (connection : ℕ) → (drop_connection t connection).number ≡ 0 → ConnectionDropped t connection (drop_connection t connection)
  -- a session, tree or open ended by its number: what LOGOFF, TREE_DISCONNECT and CLOSE leave
  pub end : (t : Tables) (one : One) → (end_one t one).number ≡ 0 → OneEnded t one (end_one t one)
  pub catalogue : (t : Tables) (names : List Name) (count : ℕ) → (set_catalogue t names count).number ≡ 0 → CatalogueSet t names count (set_catalogue t names count)
  -- document 02, CR 8: the question leaves everything
  pub ask : (t : Tables) (fid : ℕ) → (ask_unchanged t fid).tables ≡ t

-- ---- locks

-- the range of the first block's first lock, as the wire has it: its process is the 16 bits there, and only its offset and length are used; and whether it is to be shared:
-- "Type bit 0x01 means shared"
abbrev pub range_asked : Call → LockRange
range_asked c = lone_range (locking_fields c.message) (locking_area c.message)

abbrev pub shared_asked : Call → Bool
shared_asked c = shared_in (locking_fields c.message)

-- "a lock alone in its request"
pub record AsksOneLock (c : Call) : Type 0 where
  pub is-locking : header_command c.message ≡ LOCKING
  pub no-unlock : unlock_count c.message FIRST ≡ 0
  pub one-lock : lock_count c.message FIRST ≡ 1

-- "on a valid open": its FID, the sender's session and tree
abbrev pub ValidOpen : Call → Open → Type 0
ValidOpen c o = Admitted (sender c) c.tables (fid_after_andx c.message FIRST) o

-- "a listed lock of that file overlaps it and the two aren't both shared": of the file that the open names; some byte is in both ranges
abbrev pub Conflicting : Call → Open → Lock → Type 0
Conflicting c o l =
    In l (locks_of c.tables) × OfFile c.tables o l × Overlap l.offset l.length (range_asked c).offset (range_asked c).length
    × ((l.shared ≡ true) × (shared_asked c ≡ true) → ⊥)

-- "refused for conflict": Status 1/33, in either form, in a reply of one refused block, 35 bytes
abbrev pub RefusedForConflict : Call → Type 0
RefusedForConflict c = Says c 1 33 × ((gives c).length ≡ 35)

-- "A lock alone in its request, of a served type, on a valid open and within range, is refused for conflict exactly when a listed lock of that file overlaps it and
-- the two aren't both shared", whatever commands follow it in the message
abbrev pub LoneLock : Type 0
LoneLock =
    (c : Call) (spans : List Span) (o : Open) → Answerable c → Reading c.message spans → AsksOneLock c → OnlyTwoBits (lock_type c.message FIRST) → ValidOpen c o
    → (range_asked c).offset + (range_asked c).length ≤ 2 ^ 64 → RefusedForConflict c ↔ ((l : Lock) × Conflicting c o l)

-- the same of a LOCK_BYTE_RANGE (document 02, CR 3), which is always alone in its request, of a served type and within range: "the process from the header", and offset
-- and count are its words (Request3.antt: `OnTheWire`). Its FID is the first word
abbrev pub core_asked : Call → LockRange
core_asked c = core_range (sender c) (range_fields c.message FIRST)

abbrev pub ValidCoreOpen : Call → Open → Type 0
ValidCoreOpen c o = Admitted (sender c) c.tables (first_fid c.message FIRST) o

-- "the lock is exclusive", so that the two are never both shared
abbrev pub CoreConflicting : Call → Open → Lock → Type 0
CoreConflicting c o l = In l (locks_of c.tables) × OfFile c.tables o l × Overlap l.offset l.length (core_asked c).offset (core_asked c).length

abbrev pub CoreLock : Type 0
CoreLock =
    (c : Call) (spans : List Span) (o : Open) → Answerable c → Reading c.message spans → header_command c.message ≡ LOCK_BYTE_RANGE → ValidCoreOpen c o
    → RefusedForConflict c ↔ ((l : Lock) × CoreConflicting c o l)

-- the bytes that a core WRITE of count 0 covers, where it is the first command: those "between the old and the new size", from the smaller to the larger of the size of the
-- open's file and the offset
abbrev pub covered_from : Call → Open → ℕ
covered_from c o = min (size_of c.tables o.file) (core_offset c.message FIRST)

abbrev pub covered_count : Call → Open → ℕ
covered_count c o = max (size_of c.tables o.file) (core_offset c.message FIRST) - covered_from c o

-- document 01: "A read is refused 1/33 exactly if an exclusive lock of another owner overlaps offset and max." "A write is refused 1/33 exactly if any lock overlaps
-- it save the writer's own exclusive ones." Each here as the first command of the message
pub record FirstTransfer : Type 0 where
  pub read : (c : Call) (spans : List Span) (o : Open) → Answerable c → Reading c.message spans → header_command c.message ≡ READ → ValidOpen c o → (o.access ≡ 1 → ⊥)
      → RefusedForConflict c ↔ BarsReadOn c.message c.tables o
  pub write : (c : Call) (spans : List Span) (o : Open) → Answerable c → Reading c.message spans → header_command c.message ≡ WRITE → ValidOpen c o → (o.access ≡ 0 → ⊥)
      → RefusedForConflict c ↔ BarsWriteOn c.message c.tables o
  -- the core commands by the same rules (document 02, CR 3); of count 0: "for locks it covers the bytes between the old and the new size"
  pub core-read : (c : Call) (spans : List Span) (o : Open) → Answerable c → Reading c.message spans → header_command c.message ≡ CORE-READ → ValidCoreOpen c o
      → (o.access ≡ 1 → ⊥) → RefusedForConflict c ↔ BarsCoreReadOn c.message c.tables o
  pub core-write : (c : Call) (spans : List Span) (o : Open) → Answerable c → Reading c.message spans → header_command c.message ≡ CORE-WRITE
      → (core_count c.message FIRST ≡ 0 → ⊥) → ValidCoreOpen c o → (o.access ≡ 0 → ⊥) → RefusedForConflict c ↔ BarsCoreWriteOn c.message c.tables o
  pub set-size : (c : Call) (spans : List Span) (o : Open) → Answerable c → Reading c.message spans → header_command c.message ≡ CORE-WRITE
      → core_count c.message FIRST ≡ 0 → ValidCoreOpen c o → (o.access ≡ 0 → ⊥) → RefusedForConflict c ↔ BarsSizeOn c.message c.tables o

pub record Demand2 : Type 0 where
  pub starred-cases : StarredCases
  pub reply-header : ReplyHeader
  pub carried-out : CarriedOut
  pub host-calls-done : HostCallsDone
  pub lone-lock : LoneLock
  pub core-lock : CoreLock
  pub first-transfer : FirstTransfer

-- ---- the proof: each line cites the theorem that does the work

pub demand-2 : Demand2
unfolding caller_of
demand-2 =
    record {
      starred-cases = record { rows = cases; case-1 = message-61-sentence; case-2 = message-60-none; case-3 = message-62-sentence };
      reply-header = λ c a. header-given c.connection c.message c.tables c.memory c.room a.fit;
      carried-out = record {
        locking = λ c d. locking-reading c.connection c.message d.1.reading c.tables c.memory c.room d.0.good d.0.fit d.2 d.1.is;
        read = λ c d. read-reading c.connection c.message d.1.reading c.tables c.memory c.room d.0.good d.0.fit d.2 d.1.is;
        write = λ c d. write-reading c.connection c.message d.1.reading c.tables c.memory c.room d.0.good d.0.fit d.2 d.1.is;
        close = λ c d. close-reading c.connection c.message d.1.reading c.tables c.memory c.room d.0.good d.0.fit d.2 d.1.is;
        disconnect = λ c d. disconnect-reading c.connection c.message d.1.reading c.tables c.memory c.room d.0.good d.0.fit d.2 d.1.is;
        logoff = λ c d. logoff-reading c.connection c.message d.1.reading c.tables c.memory c.room d.0.good d.0.fit d.2 d.1.is;
        exit = λ c d. exit-reading c.connection c.message d.1.reading c.tables c.memory c.room d.0.good d.0.fit d.2 d.1.is;
        core-read = λ c d. core-read-reading c.connection c.message d.1.reading c.tables c.memory c.room d.0.good d.0.fit d.2 d.1.is;
        core-write = λ c d. core-write-reading c.connection c.message d.1.reading c.tables c.memory c.room d.0.good d.0.fit d.2 d.1.is;
        set-size = λ c d. set-size-reading c.connection c.message d.1.reading c.tables c.memory c.room d.0.good d.0.fit d.2 d.1.is;
        core-lock = λ c d. lock-reading c.connection c.message d.1.reading c.tables c.memory c.room d.0.good d.0.fit d.2 d.1.is;
        core-unlock = λ c d. unlock-reading c.connection c.message d.1.reading c.tables c.memory c.room d.0.good d.0.fit d.2 d.1.is;
        opening = λ c d. open-reading c.connection c.message d.1.reading c.tables c.memory c.room d.0.good d.0.fit d.2 d.1.is;
      };
      host-calls-done = record {
        session = add_session-frame;
        tree = add_tree-frame;
        open-file = add_open-frame;
        load = λ t g. load_file-frame t g.shaped;
        drop = drop_connection-frame;
        end = end_one-frame;
        catalogue = set_catalogue-frame;
        ask = ask-stands;
      };
      lone-lock = λ c spans o a r asks bits valid low.
          let q = lone-lock-reading c.connection c.message r c.tables c.memory c.room a.fit o asks.is-locking asks.no-unlock asks.one-lock bits valid low in (
            λ h. let w = q.0 h in (w.lock, (w.listed, w.of-file, w.overlap, w.clash)),
            λ l. q.1 (record { lock = l.0; listed = l.1.0; of-file = l.1.1; overlap = l.1.2; clash = l.1.3 }),
          );
      core-lock = λ c spans o a r e valid.
          let q = first-lock-reading c.connection c.message r c.tables c.memory c.room a.fit o valid e in
          (λ h. let w = q.0 h in (w.lock, (w.listed, w.of-file, w.overlap)), λ l. q.1 (record { lock = l.0; listed = l.1.0; of-file = l.1.1; overlap = l.1.2; clash = _ }));
      first-transfer = record {
        read = λ c spans o a r e valid access. first-read-reading c.connection c.message r c.tables c.memory c.room a.fit o valid e access;
        write = λ c spans o a r e valid access. first-write-reading c.connection c.message r c.tables c.memory c.room a.fit o valid e access;
        core-read = λ c spans o a r e valid access. first-core-read-reading c.connection c.message r c.tables c.memory c.room a.fit o valid e access;
        core-write = λ c spans o a r e more valid access.
            first-core-write-reading c.connection c.message r c.tables c.memory c.room a.fit o valid e more access;
        set-size = λ c spans o a r e none valid access. first-set-size-reading c.connection c.message r c.tables c.memory c.room a.fit o valid e none access;
      };
    }
