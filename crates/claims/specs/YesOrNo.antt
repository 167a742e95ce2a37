-- What a message gives without CR 2 and CR 7 of document 02, where a conflict is yes or no, as in document 01: no holder, no place; and Status has one form. What they moved
-- is restated here, all else is cited, the class and code of the other refusals too (literals/specs/Codes.antt has them spelled). Assumes nothing.
use Rattle.std.specs.Prelude.{ℕ, ◌+◌, ◌*◌, ◌/◌, ◌%◌, Bool, cond, not, ◌||◌, List, [], ◌∷◌, ◌++◌, length, take, drop, get_or, replicate, leb, ltb, eqb, Option, None, Some}
use Rattle.lists.specs.Walk.{any, found}
use Rattle.lists.specs.Put.{put}
use Rattle.wire.specs.LittleEndian.{byte_at}
use Rattle.records.specs.declared.Lock.{Lock}
use Rattle.records.specs.declared.Open.{Open}
use Rattle.records.specs.declared.Tables.{Tables}
use Rattle.records.specs.Change.{changes_of, with_read}
use Rattle.records.specs.Empty.{no_open}
use Rattle.records.specs.Held.{opens_of, locks_of, with_locks}
use Rattle.locks.specs.Answer.{answers}
use Rattle.locks.specs.Wire.{range_size, small_form}
use Rattle.locks.specs.Request.{ranges_of, ask_of, lock_of, release_all, range_passes}
use Rattle.locks.specs.declared.types.Ask.{Ask}
use Rattle.locks.specs.declared.types.LockRange.{LockRange}
use Rattle.locks.specs.declared.types.Request.{Request}
use Rattle.locks.specs.declared.types.Purpose.TheVariants.{Grant, Read as Reading, Write as Writing}
use Rattle.soundness.specs.File.{file_of}
use Rattle.soundness.specs.Sound.{sound}
use Rattle.chain.specs.Layout.{header_command, FIRST}
use Rattle.chain.specs.Header.{dropped}
use Rattle.chain.specs.Chain.{blocks}
use Rattle.chain.specs.declared.block.LockingFields.{LockingFields}
use Rattle.chain.specs.declared.block.ReadFields.{ReadFields}
use Rattle.chain.specs.declared.block.WriteFields.{WriteFields}
use Rattle.chain.specs.declared.block.RangeFields.{RangeFields}
use Rattle.chain.specs.declared.block.Body.{Body}
use Rattle.chain.specs.declared.block.Body.TheVariants.{Locking as LockingBody, Read as ReadBody, Write as WriteBody, Close, Logoff, TreeDisconnect, ProcessExit, CoreRead as CoreReadBody, CoreWrite as CoreWriteBody, LockByteRange, UnlockByteRange, Open as OpenBody}
use Rattle.chain.specs.declared.block.Block.{Block}
use Rattle.message.specs.Caller.{caller_of}
use Rattle.message.specs.declared.caller.Caller.{Caller}
use Rattle.message.specs.Contents.{size_of, read_bytes, grown, written, resized, sized_to}
use Rattle.message.specs.Refusal.{status, status_of}
use Rattle.message.specs.declared.refusal.Status.{Status}
use Rattle.message.specs.Command.{Said, locked, read, wrote, plain, core_wrote, Given, refused, done, is_open, with_open, served_type, request_of, ask_by, ends_past, core_said, range_by, one_range, between_sizes, perform}
use Rattle.message.specs.JustOpened.{NOBODY, opened_by, body_meant}
use Rattle.message.specs.Message.{area_of, data_of, link_to, served}
use Rattle.message.specs.Reply.{two, reply_block, refused_block, reply_size}

-- a command refused with a Status, or done: the tables and the file memory it leaves, and what it says
pub data Gave : Type 0 where
  refused_with : Status → Gave
  did : Tables → List ℕ → Said → Gave

-- "Order: as written": a refusal that comes before a conflict stands, by its Status; where there is none, the command's end goes on to what follows
unfoldable pub onward : Given → (Gave → Gave) → Gave
onward (refused why) next = refused_with (status_of why)
onward (done t memory said) next = next (did t memory said)

-- the other commands meet no lock: what they give, a refusal by its Status
unfoldable pub plainly : Given → Gave
plainly given = onward given (λ end. end)

unfoldable pub open_in : Option ℕ → List Open → Open
open_in (Some k) opens = get_or opens k no_open
open_in None opens = no_open

-- from "2/91 no session" to "1/6 no open of that FID, UID and TID", then what follows with the open that was found
unfoldable pub opened : Caller → Tables → ℕ → (Open → Gave) → Gave
opened c t fid next = onward (with_open c t fid (λ o. done t [] plain)) (λ _. next (open_in (found (is_open c fid) (opens_of t)) (opens_of t)))

-- "1/33 lock conflict": some listed lock stands in the way, yes or no
unfoldable pub unless_conflict : Tables → Ask → List Lock → Gave → Gave
unless_conflict t q list next = cond (any (answers (file_of (opens_of t)) q) list) (refused_with (status 1 33)) next

-- ---- LOCKING

-- "Then locks in order, each against the list as it stands, the asker's own locks included, however long it gets; 1/8 exactly if over 128 would then
-- be held."
unfoldable pub grants_before : Tables → List ℕ → ℕ → Bool → List LockRange → List Lock → Gave
grants_before t memory fid shared [] list = cond (leb (length list) 128) (did (with_locks t list) memory locked) (refused_with (status 1 8))
grants_before t memory fid shared (r ∷ rs) list =
    unless_conflict t (ask_of fid (Grant shared) r) list (grants_before t memory fid shared rs (list ++ (lock_of fid shared r ∷ [])))

-- "1/158 no such lock to release; 1/87 lock range passes 2^64"
unfoldable pub after_releases_before : Tables → List ℕ → ℕ → Bool → List LockRange → Option (List Lock) → Gave
after_releases_before t memory fid shared locks None = refused_with (status 1 158)
after_releases_before t memory fid shared locks (Some list) =
    cond (any range_passes locks) (refused_with (status 1 87)) (grants_before t memory fid shared locks list)

-- "Unlocks go first, in order": the bytes are "(unlocks + locks) × 10, or × 20 with type bit 0x10"
unfoldable pub request_before : Tables → List ℕ → Request → List ℕ → Gave
request_before t memory q area =
    cond (eqb (length area) ((q.unlocks + q.locks) * range_size q.large))
    (after_releases_before t memory q.fid q.shared (ranges_of q area q.unlocks q.locks)
    (release_all (file_of (opens_of t)) q.fid (ranges_of q area 0 q.unlocks) (locks_of t)))
    (refused_with (status 2 1))

-- "2/65535 lock type bit other than 0x01 and 0x10", then the request
unfoldable pub locking_before : Caller → Tables → List ℕ → LockingFields → List ℕ → Gave
locking_before c t memory f area =
    opened c t f.fid (λ o. cond (served_type f.kind) (request_before t memory (request_of c f) area) (refused_with (status 2 65535)))

-- ---- reading and writing

-- "A read is refused 1/33 exactly if an exclusive lock of another owner overlaps offset and max." "1/5 is a read on access 1"
unfoldable pub read_before : Caller → Tables → List ℕ → ReadFields → Gave
read_before c t memory f =
    opened c t f.fid
    (λ o.
    cond (eqb o.access 1) (refused_with (status 1 5))
    (unless_conflict t (ask_by c f.fid f.offset f.max Reading) (locks_of t)
    (did (with_read t f.fid (changes_of t o.file)) memory (read (read_bytes t memory o.file f.offset f.max)))))

-- "A write is refused 1/33 exactly if any lock overlaps it save the writer's own exclusive ones." "or a write on access 0"; "class 3, code 39, write
-- would end past 4,096"
unfoldable pub writing_before : Caller → Tables → ℕ → (Open → Ask) → Bool → (Open → Gave) → Gave
writing_before c t fid ask past next =
    opened c t fid
    (λ o.
    cond (eqb o.access 0) (refused_with (status 1 5))
    (unless_conflict t (ask o) (locks_of t) (cond past (refused_with (status 3 39)) (next o))))

unfoldable pub write_before : Caller → Tables → List ℕ → WriteFields → List ℕ → Gave
write_before c t memory f bytes =
    writing_before c t f.fid (λ o. ask_by c f.fid f.offset f.count Writing) (ends_past f.offset f.count)
    (λ o. did (resized t o.file f.offset f.count) (written t memory o.file f.offset bytes) (wrote f.count))

-- ---- the core commands (document 02, CR 3): "the rules of their AndX counterparts"

-- what the counterpart gives, said in the core command's reply block
unfoldable pub core_gave : Gave → Gave
core_gave (refused_with why) = refused_with why
core_gave (did t memory said) = did t memory (core_said said)

-- "the process from the header; the lock is exclusive": the LOCKING of one range
unfoldable pub range_before : Caller → Tables → List ℕ → RangeFields → ℕ → ℕ → Gave
range_before c t memory f unlocks locks = core_gave (locking_before c t memory (one_range f unlocks locks) (small_form (range_by c f)))

-- "A core WRITE of count 0 sets the file's size to the offset (past 4,096 is 3/39)"; "for locks it covers the bytes between the old and the new size."
unfoldable pub set_size_before : Caller → Tables → List ℕ → WriteFields → Gave
set_size_before c t memory f =
    writing_before c t f.fid (λ o. between_sizes c f.fid (size_of t o.file) f.offset) (ltb 4096 f.offset)
    (λ o. did (sized_to t o.file f.offset) (grown t memory o.file f.offset) (core_wrote 0))

unfoldable pub core_write_before : Caller → Tables → List ℕ → WriteFields → List ℕ → Gave
core_write_before c t memory f bytes = cond (eqb f.count 0) (set_size_before c t memory f) (core_gave (write_before c t memory f bytes))

-- ---- a message

unfoldable pub perform_before : Caller → Tables → List ℕ → Body → List ℕ → List ℕ → Gave
perform_before c t memory (LockingBody f) area bytes = locking_before c t memory f area
perform_before c t memory (ReadBody f) area bytes = read_before c t memory f
perform_before c t memory (WriteBody f) area bytes = write_before c t memory f bytes
perform_before c t memory (Close fid) area bytes = plainly (perform c t memory (Close fid) area bytes)
perform_before c t memory Logoff area bytes = plainly (perform c t memory Logoff area bytes)
perform_before c t memory TreeDisconnect area bytes = plainly (perform c t memory TreeDisconnect area bytes)
perform_before c t memory ProcessExit area bytes = plainly (perform c t memory ProcessExit area bytes)
perform_before c t memory (CoreReadBody f) area bytes = core_gave (read_before c t memory f)
perform_before c t memory (CoreWriteBody f) area bytes = core_write_before c t memory f (drop 3 area)
perform_before c t memory (LockByteRange f) area bytes = range_before c t memory f 0 1
perform_before c t memory (UnlockByteRange f) area bytes = range_before c t memory f 1 0
perform_before c t memory (OpenBody f) area bytes = plainly (perform c t memory (OpenBody f) area bytes)

-- what a chain leaves: its status, the tables, the file memory, and the reply blocks
pub record RanBefore : Type 0 where
  pub status : Status
  pub tables : Tables
  pub memory : List ℕ
  pub blocks : List ℕ

-- "A refused command or message gives WordCount 0 and ByteCount 0, and Status stands in the header."
unfoldable pub refused_before : Status → Tables → List ℕ → RanBefore
refused_before why t memory = record { status = why; tables = t; memory = memory; blocks = refused_block }

-- "Blocks stand end to end"
unfoldable pub in_front : List ℕ → RanBefore → RanBefore
in_front bytes r = record { status = r.status; tables = r.tables; memory = r.memory; blocks = bytes ++ r.blocks }

-- "Commands before it in the chain stand; those after it aren't begun."
unfoldable pub after_gave : Gave → List Block → ℕ → Tables → List ℕ → (ℕ → ℕ → Tables → List ℕ → RanBefore) → RanBefore
after_gave (refused_with why) bs place t memory rest = refused_before why t memory
after_gave (did t' memory' said) bs place t memory rest =
    in_front (reply_block said place (link_to bs (place + reply_size said))) (rest (opened_by said) (place + reply_size said) t' memory')

unfoldable pub run_before : Caller → List ℕ → ℕ → List Block → ℕ → Tables → List ℕ → RanBefore
run_before c s just [] place t memory = record { status = status 0 0; tables = t; memory = memory; blocks = [] }
run_before c s just (b ∷ bs) place t memory =
    after_gave (perform_before c t memory (body_meant just b.body) (area_of s b) (data_of s b)) bs place t memory (λ j p t' m. run_before c s j bs p t' m)

-- "2/22 header command not served; 2/1 not a sentence": "2/22 and 2/1 come before anything is carried out."
unfoldable pub chain_before : Caller → List ℕ → Option (List Block) → Tables → List ℕ → RanBefore
chain_before c s None t memory = refused_before (status 2 1) t memory
chain_before c s (Some bs) t memory = run_before c s NOBODY bs FIRST t memory

unfoldable pub answered_before : ℕ → List ℕ → Tables → List ℕ → RanBefore
answered_before connection s t memory =
    cond (served (header_command s)) (chain_before (caller_of connection s) s (blocks s) t memory) (refused_before (status 2 22) t memory)

-- what the call gives back: the number, the reply's length, tables, file memory and reply room
pub record TakenBefore : Type 0 where
  pub number : ℕ
  pub length : ℕ
  pub tables : Tables
  pub memory : List ℕ
  pub room : List ℕ

unfoldable pub untaken : ℕ → Tables → List ℕ → List ℕ → TakenBefore
untaken number t memory room = record { number = number; length = 0; tables = t; memory = memory; room = room }

-- document 01: "A reply copies Command, PIDHigh, TID, PIDLow, UID and MID; Flags is 0x80 plus the request's 0x08; Flags2 keeps only 0x0001; the rest is 0 but for Status."
-- "SMBSTATUS is class, 0, code."
unfoldable pub header01 : List ℕ → Status → List ℕ
header01 s status =
    (0xFF ∷ 0x53 ∷ 0x4D ∷ 0x42 ∷ byte_at s 4 ∷ status.class ∷ 0 ∷ [])
    ++ (two status.code
    ++ (((128 + byte_at s 9 / 8 % 2 * 8) ∷ byte_at s 10 % 2 ∷ 0 ∷ byte_at s 12 ∷ byte_at s 13 ∷ [])
    ++ (replicate 10 0 ++ take 8 (drop 24 s))))

unfoldable pub replied_before : List ℕ → List ℕ → RanBefore → TakenBefore
replied_before s room r =
    let reply = header01 s r.status ++ r.blocks in
    record { number = 0; length = length reply; tables = r.tables; memory = r.memory; room = put room 0 reply }

-- 2 "reply room under 12,292 bytes, or file memory not 65,536", 4 "tables not sound", 1 "message dropped": "A refusal of this table writes nothing at all."
unfoldable pub take_before : ℕ → List ℕ → Tables → List ℕ → List ℕ → TakenBefore
take_before connection s t memory room =
    cond (ltb (length room) 12292 || not (eqb (length memory) 65536)) (untaken 2 t memory room)
    (cond (not (sound t)) (untaken 4 t memory room)
    (cond (dropped s) (untaken 1 t memory room) (replied_before s room (answered_before connection s t memory))))
