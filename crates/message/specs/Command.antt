-- What one command does (document 01, "Refusals on the wire" for the order, "Locks, reads and writes" for the rest; document 02, CR 3, CR 6 and CR 8). It takes
-- the caller's numbers, the command's fields and its bytes, never its place, and gives a refusal or the new state with what
-- its reply block says. Assumes nothing.
use Rattle.std.specs.Prelude.{ℕ, min, max, ◌+◌, ◌-◌, ◌/◌, ◌%◌, Bool, cond, not, ◌&&◌, ◌||◌, List, [], ◌∷◌, ◌++◌, length, take, drop, get_or, leb, ltb, eqb, Option, Some, None, Ok, Err}
use Rattle.lists.specs.Walk.{any, found}
use Rattle.records.specs.declared.Session.{Session}
use Rattle.records.specs.declared.Open.{Open}
use Rattle.records.specs.declared.Lock.{Lock}
use Rattle.records.specs.declared.Tables.{Tables}
use Rattle.records.specs.Change.{changes_of, with_read}
use Rattle.records.specs.Empty.{no_open, no_name}
use Rattle.records.specs.Held.{sessions_of, trees_of, opens_of, locks_of, names_of, with_opens}
use Rattle.locks.specs.Answer.{answers}
use Rattle.locks.specs.Request.{holder_at, locking}
use Rattle.locks.specs.Wire.{small_form}
use Rattle.locks.specs.declared.types.Ask.{Ask}
use Rattle.locks.specs.declared.types.LockRange.{LockRange}
use Rattle.locks.specs.declared.types.Request.{Request}
use Rattle.locks.specs.declared.types.Locking.{Locking}
use Rattle.locks.specs.Outcome.{Outcome}
use Rattle.locks.specs.declared.types.LockRefusal.TheVariants.{Malformed as BadRanges, NoSuchLock as NoLock, PassesEnd as PastEnd, Conflict as InWay, NoRecord as NoRoom}
use Rattle.locks.specs.declared.types.Purpose.{Purpose}
use Rattle.locks.specs.declared.types.Purpose.TheVariants.{Read as Reading, Write as Writing}
use Rattle.numbers.specs.NewOpen.{open_with}
use Rattle.catalogue.specs.Name.{is_named}
use Rattle.soundness.specs.File.{file_of}
use Rattle.soundness.specs.Sound.{holds_open, sharing_ok}
use Rattle.soundness.specs.Lookup.{is_tree}
use Rattle.removal.specs.Removal.{remove}
use Rattle.removal.specs.declared.Gone.TheVariants.{Session as UserGone, Tree as TreeGone, Open as OpenGone, Process as ProcessGone}
use Rattle.chain.specs.declared.block.LockingFields.{LockingFields}
use Rattle.chain.specs.declared.block.ReadFields.{ReadFields}
use Rattle.chain.specs.declared.block.WriteFields.{WriteFields}
use Rattle.chain.specs.declared.block.RangeFields.{RangeFields}
use Rattle.chain.specs.declared.block.OpenFields.{OpenFields}
use Rattle.chain.specs.declared.block.Body.{Body}
use Rattle.chain.specs.declared.block.Body.TheVariants.{Locking as LockingBody, Read as ReadBody, Write as WriteBody, Close, Logoff, TreeDisconnect, ProcessExit, CoreRead as CoreReadBody, CoreWrite as CoreWriteBody, LockByteRange, UnlockByteRange, Open as OpenBody}
use Rattle.message.specs.declared.caller.Caller.{Caller}
use Rattle.message.specs.Sharing.{kept_out}
use Rattle.message.specs.Contents.{size_of, read_bytes, grown, written, resized, sized_to}
use Rattle.message.specs.declared.refusal.Refusal.{Refusal}
use Rattle.message.specs.declared.refusal.Refusal.TheVariants.{NotSentence, NoSession, NoTree, NoOpen, NoAccess, LockType, NoSuchLock, PassesEnd, LockNotGranted, FileLockConflict, NoRecord, NoSpace, OpenMode, BadAccess, NoSuchFile, BadShare, NoFids}

-- what a command's reply block says
pub data Said : Type 0 where
  locked : Said
  logged_off : Said
  read : List ℕ → Said
  wrote : ℕ → Said
  plain : Said
  core_read : List ℕ → Said
  core_wrote : ℕ → Said
  -- an OPEN_ANDX: FID, size, access and OpenResults
  opened : ℕ → ℕ → ℕ → ℕ → Said

-- a command refused, or done: the tables and the file memory it leaves, and what it says
pub data Given : Type 0 where
  refused : Refusal → Given
  done : Tables → List ℕ → Said → Given

-- ---- who may ask

-- "no session of that UID on this connection"
unfoldable pub is_session : Caller → Session → Bool
is_session c s = eqb s.uid c.uid && eqb s.connection c.connection

unfoldable pub with_session : Caller → Tables → Given → Given
with_session c t next = cond (any (is_session c) (sessions_of t)) next (refused NoSession)

-- "no tree of that TID and UID"
unfoldable pub with_tree : Caller → Tables → Given → Given
with_tree c t next = with_session c t (cond (any (is_tree c.tid c.uid) (trees_of t)) next (refused NoTree))

-- "no open of that FID, UID and TID"
unfoldable pub is_open : Caller → ℕ → Open → Bool
is_open c fid o = eqb o.fid fid && (eqb o.uid c.uid && eqb o.tid c.tid)

unfoldable pub open_at : Option ℕ → List Open → (Open → Given) → Given
open_at (Some k) opens next = next (get_or opens k no_open)
open_at None opens next = refused NoOpen

unfoldable pub with_open : Caller → Tables → ℕ → (Open → Given) → Given
with_open c t fid next = with_tree c t (open_at (found (is_open c fid) (opens_of t)) (opens_of t) next)

-- ---- LOCKING

-- "lock type bit other than 0x01 and 0x10"
unfoldable pub served_type : ℕ → Bool
served_type kind = eqb kind 0 || (eqb kind 1 || (eqb kind 16 || eqb kind 17))

-- "Type bit 0x01 means shared"; the ranges have the upper half of the caller's process (document 02, CR 4)
unfoldable pub request_of : Caller → LockingFields → Request
request_of c f =
    record {
      fid = f.fid;
      high = c.process / 65536;
      shared = eqb (f.kind % 2) 1;
      large = eqb (f.kind / 16 % 2) 1;
      unlocks = f.unlocks;
      locks = f.locks;
    }

unfoldable pub with_lock_list : Tables → List Lock → ℕ → Tables
with_lock_list t locks count =
    record {
      sessions = t.sessions;
      nsessions = t.nsessions;
      trees = t.trees;
      ntrees = t.ntrees;
      opens = t.opens;
      nopens = t.nopens;
      locks = locks;
      nlocks = count;
      files = t.files;
      names = t.names;
      nnames = t.nnames;
    }

unfoldable pub locking_end : Outcome → Tables → List ℕ → Locking → Given
locking_end (Ok _) t memory l = done (with_lock_list t l.locks l.count) memory locked
locking_end (Err BadRanges) t memory l = refused NotSentence
locking_end (Err NoLock) t memory l = refused NoSuchLock
locking_end (Err PastEnd) t memory l = refused PassesEnd
locking_end (Err (InWay h)) t memory l = refused (LockNotGranted h)
locking_end (Err NoRoom) t memory l = refused NoRecord

unfoldable pub locking_after : Tables → List ℕ → Locking → Given
locking_after t memory l = locking_end l.outcome t memory l

unfoldable pub do_locking : Caller → Tables → List ℕ → LockingFields → List ℕ → Given
do_locking c t memory f area =
    with_open c t f.fid
    (λ o.
    cond (served_type f.kind)
    (locking_after t memory (locking (file_of (opens_of t)) t.locks t.nlocks (request_of c f) area))
    (refused LockType))

-- ---- reading and writing

-- the header's process asks for the range, through the FID
unfoldable pub ask_by : Caller → ℕ → ℕ → ℕ → Purpose → Ask
ask_by c fid offset count purpose = record { fid = fid; process = c.process; offset = offset; length = count; purpose = purpose }

-- document 02, CR 2: "Locks, reads and writes pass it up"
unfoldable pub unless_barred : Tables → Option ℕ → Given → Given
unless_barred t (Some place) next = refused (FileLockConflict (holder_at (locks_of t) place))
unless_barred t None next = next

unfoldable pub barring : Tables → Ask → Option ℕ
barring t q = found (answers (file_of (opens_of t)) q) (locks_of t)

-- "1/5 is a read on access 1". "Each open remembers the number at its last granted read" (document 02, CR 8)
unfoldable pub do_read : Caller → Tables → List ℕ → ReadFields → Given
do_read c t memory f =
    with_open c t f.fid
    (λ o.
    cond (eqb o.access 1) (refused NoAccess)
    (unless_barred t (barring t (ask_by c f.fid f.offset f.max Reading))
    (done (with_read t f.fid (changes_of t o.file)) memory (read (read_bytes t memory o.file f.offset f.max)))))

-- what every write is refused for, and what it gives otherwise: through an open (2/91, 2/5, 1/6), "1/5 is .. a write on access 0", 1/33 for what it asks of the locks, 3/39 where
-- it is past the file's room
abbrev pub writing : Caller → Tables → ℕ → (Open → Ask) → Bool → (Open → Given) → Given
writing c t fid ask past next =
    with_open c t fid
    (λ o.
    cond (eqb o.access 0) (refused NoAccess)
    (unless_barred t (barring t (ask o)) (cond past (refused NoSpace) (next o))))

-- "write would end past 4,096"; "Length 0 writes nothing, changes no size and is done at any offset"
unfoldable pub ends_past : ℕ → ℕ → Bool
ends_past offset count = not (eqb count 0) && ltb 4096 (offset + count)

unfoldable pub do_write : Caller → Tables → List ℕ → WriteFields → List ℕ → Given
do_write c t memory f bytes =
    writing c t f.fid (λ o. ask_by c f.fid f.offset f.count Writing) (ends_past f.offset f.count)
    (λ o. done (resized t o.file f.offset f.count) (written t memory o.file f.offset bytes) (wrote f.count))

-- ---- the core commands (document 02, CR 3): "with 32-bit offsets and the rules of their AndX counterparts"

-- what is said in the counterpart's reply block, in the core command's
unfoldable pub core_said : Said → Said
core_said locked = plain
core_said logged_off = logged_off
core_said (read bytes) = core_read bytes
core_said (wrote count) = core_wrote count
core_said plain = plain
core_said (core_read bytes) = core_read bytes
core_said (core_wrote count) = core_wrote count
core_said (opened fid size access results) = opened fid size access results

unfoldable pub as_core : Given → Given
as_core (refused why) = refused why
as_core (done t memory said) = done t memory (core_said said)

-- "the process from the header; the lock is exclusive": LOCK_BYTE_RANGE and UNLOCK_BYTE_RANGE are the LOCKING of one range
unfoldable pub range_by : Caller → RangeFields → LockRange
range_by c f = record { process = c.process; offset = f.offset; length = f.length }

unfoldable pub one_range : RangeFields → ℕ → ℕ → LockingFields
one_range f unlocks locks = record { fid = f.fid; kind = 0; unlocks = unlocks; locks = locks }

unfoldable pub do_range : Caller → Tables → List ℕ → RangeFields → ℕ → ℕ → Given
do_range c t memory f unlocks locks = as_core (do_locking c t memory (one_range f unlocks locks) (small_form (range_by c f)))

-- "A core WRITE of count 0 sets the file's size to the offset (past 4,096 is 3/39), with zeros where it grows and no byte changed where it
-- shrinks; for locks it covers the bytes between the old and the new size."
unfoldable pub between_sizes : Caller → ℕ → ℕ → ℕ → Ask
between_sizes c fid old new = ask_by c fid (min old new) (max old new - min old new) Writing

unfoldable pub do_set_size : Caller → Tables → List ℕ → WriteFields → Given
do_set_size c t memory f =
    writing c t f.fid (λ o. between_sizes c f.fid (size_of t o.file) f.offset) (ltb 4096 f.offset)
    (λ o. done (sized_to t o.file f.offset) (grown t memory o.file f.offset) (core_wrote 0))

unfoldable pub do_core_write : Caller → Tables → List ℕ → WriteFields → List ℕ → Given
do_core_write c t memory f bytes = cond (eqb f.count 0) (do_set_size c t memory f) (as_core (do_write c t memory f bytes))

-- ---- OPEN_ANDX (document 02, CR 6): "Refusals, after 2/5: 2/65535 OpenMode, 1/12 access or sharing code, 1/2 name, 1/5 tree right, 1/32 sharing, 1/4 all 64 FIDs
-- in use"

-- "access codes 0 to 2, sharing codes 1 to 4"
unfoldable pub codes_served : ℕ → ℕ → Bool
codes_served access sharing = leb access 2 && sharing_ok sharing

-- "The byte area is a name .., then one zero byte"
unfoldable pub name_asked : List ℕ → List ℕ
name_asked area = take (length area - 1) area

-- the smallest free FID, the header's UID, TID and process, and the codes asked for
unfoldable pub open_by : Caller → Tables → OpenFields → ℕ → Open
open_by c t f file = open_with t c.uid c.tid c.process file f.access f.sharing

-- "zero after the FID with the block's Flags bit 0 clear; with it set the size, the access and OpenResults 1"
unfoldable pub opened_said : Bool → ℕ → ℕ → ℕ → Said
opened_said full fid size access = cond full (opened fid size access 1) (opened fid 0 0 0)

-- the file that the catalogue names: 1/5 where the tree doesn't permit the access, 1/32, 1/4
unfoldable pub open_file : Caller → Tables → List ℕ → OpenFields → ℕ → Given
open_file c t memory f file =
    cond (any (holds_open (open_by c t f file)) (trees_of t))
    (cond (any (kept_out file f.access f.sharing) (opens_of t)) (refused BadShare)
    (cond (leb 64 t.nopens) (refused NoFids)
    (done (with_opens t (opens_of t ++ (open_by c t f file ∷ []))) memory
    (opened_said f.full (open_by c t f file).fid (size_of t file) f.access))))
    (refused NoAccess)

unfoldable pub open_named : Caller → Tables → List ℕ → OpenFields → Option ℕ → Given
open_named c t memory f (Some k) = open_file c t memory f (get_or (names_of t) k no_name).file
open_named c t memory f None = refused NoSuchFile

unfoldable pub do_open : Caller → Tables → List ℕ → OpenFields → List ℕ → Given
do_open c t memory f name =
    with_tree c t
    (cond (eqb f.mode 1)
    (cond (codes_served f.access f.sharing) (open_named c t memory f (found (is_named name) (names_of t))) (refused BadAccess))
    (refused OpenMode))

-- ---- all twelve

-- "LOGOFF and PROCESS_EXIT stop after 2/91, TREE_DISCONNECT after 2/5, CLOSE after 1/6." `area` is the block's byte area,
-- `bytes` a write's data; a core WRITE's data stand in its byte area, behind the mark and the length of its data block.
unfoldable pub perform : Caller → Tables → List ℕ → Body → List ℕ → List ℕ → Given
perform c t memory (LockingBody f) area bytes = do_locking c t memory f area
perform c t memory (ReadBody f) area bytes = do_read c t memory f
perform c t memory (WriteBody f) area bytes = do_write c t memory f bytes
perform c t memory (Close fid) area bytes = with_open c t fid (λ o. done (remove (OpenGone fid) t) memory plain)
perform c t memory Logoff area bytes = with_session c t (done (remove (UserGone c.uid) t) memory logged_off)
perform c t memory TreeDisconnect area bytes = with_tree c t (done (remove (TreeGone c.tid) t) memory plain)
perform c t memory ProcessExit area bytes = with_session c t (done (remove (ProcessGone c.uid c.process) t) memory plain)
perform c t memory (CoreReadBody f) area bytes = as_core (do_read c t memory f)
perform c t memory (CoreWriteBody f) area bytes = do_core_write c t memory f (drop 3 area)
perform c t memory (LockByteRange f) area bytes = do_range c t memory f 0 1
perform c t memory (UnlockByteRange f) area bytes = do_range c t memory f 1 0
perform c t memory (OpenBody f) area bytes = do_open c t memory f (name_asked area)
