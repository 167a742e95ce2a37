-- What the head of staffing wants to know of a terminal's copy (document 02, CR 8): over a history of calls, what stood in its file when an open was last granted a READ, and whether
-- the file was changed since. Nobody keeps this in the box: it is told from the calls, from which of their commands are granted and from what stands in the files then; it looks at no
-- change number and at nothing that an open remembers, so that what the box answers can be held against it. Assumes nothing.
use Rattle.std.specs.Prelude.{ℕ, Bool, false, cond, ◌||◌, List, [], ◌∷◌, eqb, Option, None, Some}
use Rattle.records.specs.declared.Tables.{Tables}
use Rattle.records.specs.Held.{opens_of}
use Rattle.soundness.specs.File.{file_of}
use Rattle.host.specs.HostCall.{add_open, load_file}
use Rattle.chain.specs.Layout.{header_command}
use Rattle.chain.specs.Chain.{blocks}
use Rattle.chain.specs.declared.block.Block.{Block}
use Rattle.chain.specs.declared.block.Body.{Body}
use Rattle.chain.specs.declared.block.Body.TheVariants.{Locking as LockingBody, Read as ReadBody, Write as WriteBody, Close, Logoff, TreeDisconnect, ProcessExit, CoreRead as CoreReadBody, CoreWrite as CoreWriteBody, LockByteRange, UnlockByteRange, Open as OpenBody}
use Rattle.message.specs.Caller.{caller_of}
use Rattle.message.specs.declared.caller.Caller.{Caller}
use Rattle.message.specs.Contents.{size_of, contents}
use Rattle.message.specs.Command.{Said, Given, refused, done, perform}
use Rattle.message.specs.JustOpened.{NOBODY, opened_by, body_meant}
use Rattle.message.specs.Message.{area_of, data_of, served, take-message}
use Rattle.demands.specs.OldBytes.{Asked, ask-session, ask-tree, ask-open, ask-load, ask-drop, ask-end, ask-catalogue, ask-unchanged, ask-message, told, memory_left}

-- an open's last granted READ: of which file, its size and its bytes at that moment, and whether the file was changed after it
pub record LastRead : Type 0 where
  pub file : ℕ
  pub size : ℕ
  pub bytes : List ℕ
  pub changed : Bool

-- that of the open of each FID, none where it has not read
abbrev pub Reads : Type 0
Reads = ℕ → Option LastRead

-- ---- what a command or a call may be, once it is granted

pub data Event : Type 0 where
  nothing : Event
  was_read : (fid : ℕ) → Event
  was-changed : (file : ℕ) → Event
  was-opened : (fid : ℕ) → Event

-- "any granted READ_ANDX or core READ"; "each granted write of at least one byte, each WRITE of count 0 that alters the size". A new open has not read
unfoldable pub event_of : Tables → Body → Said → Event
event_of t (LockingBody f) = λ said. nothing
event_of t (ReadBody f) = λ said. was_read f.fid
event_of t (WriteBody f) = λ said. cond (eqb f.count 0) nothing (was-changed (file_of (opens_of t) f.fid))
event_of t (Close fid) = λ said. nothing
event_of t Logoff = λ said. nothing
event_of t TreeDisconnect = λ said. nothing
event_of t ProcessExit = λ said. nothing
event_of t (CoreReadBody f) = λ said. was_read f.fid
event_of t (CoreWriteBody f) = λ said.
    cond (eqb f.count 0)
    (cond (eqb (size_of t (file_of (opens_of t) f.fid)) f.offset) nothing (was-changed (file_of (opens_of t) f.fid)))
    (was-changed (file_of (opens_of t) f.fid))
event_of t (LockByteRange f) = λ said. nothing
event_of t (UnlockByteRange f) = λ said. nothing
event_of t (OpenBody f) = λ said. was-opened (opened_by said)

-- a READ of that file, when the tables and the file memory were these
unfoldable pub read_now : Tables → List ℕ → ℕ → LastRead
read_now t memory file = record { file = file; size = size_of t file; bytes = contents t memory file; changed = false }

-- that file was changed
unfoldable pub changed_in : ℕ → Option LastRead → Option LastRead
changed_in file None = None
changed_in file (Some r) = Some (record { file = r.file; size = r.size; bytes = r.bytes; changed = eqb r.file file || r.changed })

unfoldable pub after_event : Event → Tables → List ℕ → Reads → Reads
after_event nothing t memory reads = reads
after_event (was_read fid) t memory reads = λ k. cond (eqb k fid) (Some (read_now t memory (file_of (opens_of t) fid))) (reads k)
after_event (was-changed file) t memory reads = λ k. changed_in file (reads k)
after_event (was-opened fid) t memory reads = λ k. cond (eqb k fid) None (reads k)

-- ---- a message: "command by command", up to the first refused

unfoldable pub reads_given : Given → Body → Tables → List ℕ → Reads → (ℕ → Tables → List ℕ → Reads → Reads) → Reads
reads_given (refused why) b t memory reads rest = reads
reads_given (done t' memory' said) b t memory reads rest = rest (opened_by said) t' memory' (after_event (event_of t b said) t memory reads)

unfoldable pub reads_run : Caller → List ℕ → ℕ → List Block → Tables → List ℕ → Reads → Reads
reads_run c s just [] t memory reads = reads
reads_run c s just (b ∷ bs) t memory reads =
    reads_given (perform c t memory (body_meant just b.body) (area_of s b) (data_of s b)) (body_meant just b.body) t memory reads (λ j t' m r. reads_run c s j bs t' m r)

unfoldable pub reads_chain : Caller → List ℕ → Option (List Block) → Tables → List ℕ → Reads → Reads
reads_chain c s None t memory reads = reads
reads_chain c s (Some bs) t memory reads = reads_run c s NOBODY bs t memory reads

-- of one that is answered
unfoldable pub reads_message : ℕ → List ℕ → List ℕ → Tables → List ℕ → Reads → Reads
reads_message connection s room t memory reads =
    cond (eqb (take-message connection s t memory room).number 0)
    (cond (served (header_command s)) (reads_chain (caller_of connection s) s (blocks s) t memory reads) reads)
    reads

-- ---- a call, and a history of calls: "and each load"

unfoldable pub reads_call : Asked → Tables → List ℕ → Reads → Reads
reads_call (ask-session connection) t memory reads = reads
reads_call (ask-tree uid right) t memory reads = reads
reads_call (ask-open uid tid process file access) t memory reads =
    cond (eqb (add_open t uid tid process file access).number 0) (after_event (was-opened (add_open t uid tid process file access).id) t memory reads) reads
reads_call (ask-load file bytes) t memory reads = cond (eqb (load_file t file bytes memory).number 0) (after_event (was-changed file) t memory reads) reads
reads_call (ask-drop connection) t memory reads = reads
reads_call (ask-end one) t memory reads = reads
reads_call (ask-catalogue names count full) t memory reads = reads
reads_call (ask-unchanged fid) t memory reads = reads
reads_call (ask-message connection s room) t memory reads = reads_message connection s room t memory reads

unfoldable pub reads_after : List Asked → Tables → List ℕ → Reads → Reads
reads_after [] t memory reads = reads
reads_after (a ∷ more) t memory reads = reads_after more (told a t memory).tables (memory_left a t memory) (reads_call a t memory reads)

-- nobody has read
unfoldable pub none_read : Reads
none_read fid = None
