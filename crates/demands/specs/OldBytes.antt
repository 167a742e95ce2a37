-- Old bytes never show (document 02, CR 3: "with zeros where it grows and no byte changed where it shrinks"): a file that was cut and grows again, by a count of 0 or by a
-- write further on, has zeros where it grew; and whatever stands in the file memory at or above a file's size, no history of calls tells it. Assumes nothing.
use Rattle.std.specs.Prelude.{◌≡◌, ℕ, ◌+◌, ◌-◌, ◌*◌, ◌≤◌, ◌<◌, List, [], ◌∷◌, get_or, replicate, None as Nobody}
use Rattle.std.proofs.Math.Path.{refl, ap}
use Rattle.std.proofs.Common.{◌∙◌}
use native.Mathlib.Omega.{arith}
use Rattle.std.proofs.Math.ListN.{length}
use Rattle.records.specs.declared.Name.{Name}
use Rattle.records.specs.declared.Tables.{Tables}
use Rattle.records.specs.Held.{with_sessions, with_trees, with_opens, with_catalogue}
use Rattle.host.specs.declared.ending.One.{One}
use Rattle.host.specs.HostCall.{refused as host_refused, done as host_done, add_session, add_tree, add_open, load_file, load_memory, drop_connection, set_catalogue, ask_unchanged, end_one}
use Rattle.host.specs.declared.answer.Returned.{Returned}
use Rattle.claims.specs.RemovalPlain.{files-stand}
use Rattle.invariants.specs.HostCases.{add_session-either, add_tree-either, add_open-either, drop_connection-either, end_one-either, set_catalogue-either}
use Rattle.invariants.specs.Sound.{Good}
use Rattle.invariants.specs.Fit.{Fit, take-message-good}
use Rattle.claims.proofs.SoundPlain.{sound-plain}
use Rattle.chain.specs.Layout.{FIRST, first_fid, core_offset}
use Rattle.wire.specs.LittleEndian.{byte_at}
use Rattle.message.specs.HeldBy.{HeldBy}
use Rattle.message.specs.Contents.{contents, read_bytes}
use Rattle.message.specs.Caller.{caller_of}
use Rattle.message.specs.Message.{Taken, take-message}
use Rattle.demands.specs.SetSize.{SetSizeDone}
use Rattle.demands.specs.WireFields.{read_from}
use Rattle.demands.specs.Effects.{ReadDone, CoreReadDone}
use Rattle.demands.specs.Reached.{HostCall, add-session, add-tree, add-open, load, drop as drop-one, end-one, set-catalogue, ask, message, take-message-memory}
use Rattle.demands.specs.Shown.{Shown}

-- ---- a file that was cut and grows again

-- the bytes of a file from one place up to another are 0: a read of just these yields zeros, and so does any other read where it comes to them
pub record ZeroFrom (t : Tables) (memory : List ℕ) (file from to : ℕ) : Type 0 where
  pub in_memory : (i : ℕ) → from ≤ i → i < to → get_or memory (file * 4096 + i) 0 ≡ 0
  pub in-contents : (i : ℕ) → from ≤ i → i < to → get_or (contents t memory file) i 0 ≡ 0
  pub in-reads : (offset most i : ℕ) → i < most → from ≤ offset + i → offset + i < to → get_or (read_bytes t memory file offset most) i 0 ≡ 0
  pub all_read : read_bytes t memory file from (to - from) ≡ replicate (to - from) 0

-- said of two messages, the second on what the first left: the first, of one core WRITE of count 0, cut the file to its offset
module _ (t : Tables) (memory : List ℕ) (g : Good t) (connection connection' : ℕ) (s s' room room' : List ℕ) (fit : Fit s t memory room) where
  abbrev pub first : Taken
  first = take-message connection s t memory room

  abbrev pub second : Taken
  second = take-message connection' s' first.tables first.memory room'

  pub left-good : Good first.tables
  left-good = take-message-good connection s t memory room g

  pub left-whole : length second.memory ≡ 65536
  left-whole =
      take-message-memory connection' s' first.tables first.memory room' left-good
      ∙ take-message-memory connection s t memory room g
      ∙ fit.memory-whole

  module _ (cut : SetSizeDone (caller_of connection s) t (first_fid s FIRST) (core_offset s FIRST) memory first) where
    abbrev pub file : ℕ
    file = cut.through.file

    pub low : file ≤ 15
    low = ((sound-plain t).0 g.sound).files cut.through cut.admitted.opened.listed

-- and so in the reply to a READ or a core READ that comes to them
pub zero-in-reply : {connection : ℕ} {s : List ℕ} {t : Tables} {memory : List ℕ} {call : Taken} {from to : ℕ} (r : ReadDone connection s t memory call)
    → ZeroFrom t memory r.through.file from to → (i : ℕ) → i < r.count → from ≤ read_from s + i → read_from s + i < to → byte_at call.room (59 + i) ≡ 0
zero-in-reply {s = s} {memory = memory} r z i few h l =
    let place : r.through.file * 4096 + read_from s + i ≡ r.through.file * 4096 + (read_from s + i) = omega arith in
    r.which i few ∙ ap (λ (k : ℕ). get_or memory k 0) place ∙ z.in_memory (read_from s + i) h l

pub zero-in-core-reply : {connection : ℕ} {s : List ℕ} {t : Tables} {memory : List ℕ} {call : Taken} {from to : ℕ} (r : CoreReadDone connection s t memory call)
    → ZeroFrom t memory r.through.file from to → (i : ℕ) → i < r.count → from ≤ core_offset s FIRST + i → core_offset s FIRST + i < to
    → byte_at call.room (48 + i) ≡ 0
zero-in-core-reply {s = s} {memory = memory} r z i few h l =
    let place : r.through.file * 4096 + core_offset s FIRST + i ≡ r.through.file * 4096 + (core_offset s FIRST + i) = omega arith in
    r.which i few ∙ ap (λ (k : ℕ). get_or memory k 0) place ∙ z.in_memory (core_offset s FIRST + i) h l

-- ---- the host's calls

-- "add a session, tree or open; load a file; drop a connection; take a message with its connection number"; document 02, CR 6: "a catalogue, set whole by the host"; CR 8: has the
-- file of an open changed?; and a session, tree or open ended by its number
pub data Asked : Type 0 where
  ask-session : (connection : ℕ) → Asked
  ask-tree : (uid right : ℕ) → Asked
  ask-open : (uid tid process file access : ℕ) → Asked
  ask-load : (file : ℕ) (bytes : List ℕ) → Asked
  ask-drop : (connection : ℕ) → Asked
  ask-end : (one : One) → Asked
  ask-catalogue : (names : List Name) (count : ℕ) → length names ≡ 16 → Asked
  ask-unchanged : (fid : ℕ) → Asked
  ask-message : (connection : ℕ) (s room : List ℕ) → Asked

-- what the host is told: the number, what is beside it (a new number, an answer, or the reply's length), the holder, the tables, and the reply room
pub record Told : Type 0 where
  pub number : ℕ
  pub beside : ℕ
  pub holder : HeldBy
  pub tables : Tables
  pub room : List ℕ

unfoldable pub host_told : Returned → Told
host_told a = record { number = a.number; beside = a.id; holder = Nobody; tables = a.tables; room = [] }

unfoldable pub message_told : Taken → Told
message_told r = record { number = r.number; beside = r.length; holder = r.holder; tables = r.tables; room = r.room }

unfoldable pub told : Asked → Tables → List ℕ → Told
told (ask-session connection) t memory = host_told (add_session t connection)
told (ask-tree uid right) t memory = host_told (add_tree t uid right)
told (ask-open uid tid process file access) t memory = host_told (add_open t uid tid process file access)
told (ask-load file bytes) t memory = host_told (load_file t file bytes memory)
told (ask-drop connection) t memory = host_told (drop_connection t connection)
told (ask-end one) t memory = host_told (end_one t one)
told (ask-catalogue names count full) t memory = host_told (set_catalogue t names count)
told (ask-unchanged fid) t memory = host_told (ask_unchanged t fid)
told (ask-message connection s room) t memory = message_told (take-message connection s t memory room)

-- and the file memory that is left
unfoldable pub memory_left : Asked → Tables → List ℕ → List ℕ
memory_left (ask-session connection) t memory = memory
memory_left (ask-tree uid right) t memory = memory
memory_left (ask-open uid tid process file access) t memory = memory
memory_left (ask-load file bytes) t memory = load_memory t file bytes memory
memory_left (ask-drop connection) t memory = memory
memory_left (ask-end one) t memory = memory
memory_left (ask-catalogue names count full) t memory = memory
memory_left (ask-unchanged fid) t memory = memory
memory_left (ask-message connection s room) t memory = (take-message connection s t memory room).memory

-- these are the calls of Reached.antt, and all of them
pub asked-call : (a : Asked) (t : Tables) (memory : List ℕ) → HostCall t memory (told a t memory).tables (memory_left a t memory)
unfolding told host_told message_told memory_left
asked-call (ask-session connection) t memory = add-session connection
asked-call (ask-tree uid right) t memory = add-tree uid right
asked-call (ask-open uid tid process file access) t memory = add-open uid tid process file access
asked-call (ask-load file bytes) t memory = load file bytes
asked-call (ask-drop connection) t memory = drop-one connection
asked-call (ask-end one) t memory = end-one one
asked-call (ask-catalogue names count full) t memory = set-catalogue names count full
asked-call (ask-unchanged fid) t memory = ask fid
asked-call (ask-message connection s room) t memory = message connection s room

pub call-asked : {t : Tables} {memory : List ℕ} {after : Tables} {left : List ℕ} → HostCall t memory after left → (a : Asked) × ((told a t memory).tables ≡ after) × (memory_left a t memory ≡ left)
unfolding told host_told message_told memory_left
call-asked (add-session connection) = (ask-session connection, refl, refl)
call-asked (add-tree uid right) = (ask-tree uid right, refl, refl)
call-asked (add-open uid tid process file access) = (ask-open uid tid process file access, refl, refl)
call-asked (load file bytes) = (ask-load file bytes, refl, refl)
call-asked (drop-one connection) = (ask-drop connection, refl, refl)
call-asked (end-one one) = (ask-end one, refl, refl)
call-asked (set-catalogue names count full) = (ask-catalogue names count full, refl, refl)
call-asked (ask fid) = (ask-unchanged fid, refl, refl)
call-asked (message connection s room) = (ask-message connection s room, refl, refl)

-- a call that loads no file leaves the files
module _ (t : Tables) where
  unfoldable pub Stands : Returned → Type 0
  Stands a = a.tables.files ≡ t.files

  no-stands : (n : ℕ) → 1 ≤ n → Stands (host_refused n t)
  unfolding Stands host_refused
  no-stands n h = refl

  pub session-stands : (connection : ℕ) → Stands (add_session t connection)
  unfolding Stands host_done with_sessions
  session-stands connection = add_session-either t Stands no-stands connection (λ _ _. refl)

  pub tree-stands : (uid right : ℕ) → Stands (add_tree t uid right)
  unfolding Stands host_done with_trees
  tree-stands uid right = add_tree-either t Stands no-stands uid right (λ _ _ _ _. refl)

  pub open-stands : (uid tid process file access : ℕ) → Stands (add_open t uid tid process file access)
  unfolding Stands host_done with_opens
  open-stands uid tid process file access = add_open-either t Stands no-stands uid tid process file access (λ _. refl)

  pub drop-stands : (connection : ℕ) → Stands (drop_connection t connection)
  unfolding Stands host_done
  drop-stands connection = drop_connection-either t Stands no-stands connection (λ _. files-stand _ t)

  pub end-stands : (one : One) → Stands (end_one t one)
  unfolding Stands host_done
  end-stands one = end_one-either t Stands no-stands one (λ _ _. files-stand _ t)

  pub catalogue-stands : (names : List Name) (count : ℕ) → Stands (set_catalogue t names count)
  unfolding Stands host_done with_catalogue
  catalogue-stands names count = set_catalogue-either t Stands no-stands names count (λ _ _. refl)

module _ (t : Tables) (memory other : List ℕ) (g : Good t) (s : Shown t memory other) where
  -- a load looks at the file memory's length, and writes all the 4,096 bytes of its file
  pub load_same : (file : ℕ) (bytes : List ℕ) → load_file t file bytes memory ≡ load_file t file bytes other
  unfolding load_file
  load_same file bytes = rw (s.whole, s.other-whole)

-- ---- all histories

-- all that a host is told in a history of calls, on what each leaves to the next
unfoldable pub history : List Asked → Tables → List ℕ → List Told
history [] t memory = []
history (a ∷ more) t memory = told a t memory ∷ history more (told a t memory).tables (memory_left a t memory)

-- the tables and the file memory that it leaves
unfoldable pub left_by : List Asked → Tables → List ℕ → Tables × List ℕ
left_by [] t memory = (t, memory)
left_by (a ∷ more) t memory = left_by more (told a t memory).tables (memory_left a t memory)
