-- "Every call on sound tables leaves sound tables" (document 01, "Tables and room") over all histories: whatever calls a host makes, one after another, from the
-- tables to start from, with whatever file memory and reply room, it never comes to others. Assumes nothing.
use Rattle.std.specs.Prelude.{◌≡◌, refl, ℕ, not, ◌||◌, List, length, eqb, ltb}
use Rattle.std.proofs.Common.{sym, ap, ◌∙◌, eqb-true}
use Rattle.std.proofs.Math.Decide.{ℕ_discrete}
use Rattle.std.proofs.lemmas.Bool.{not-false}
use Rattle.lists.specs.Truth.{neither-holds}
use Rattle.records.specs.declared.Name.{Name}
use Rattle.records.specs.declared.Tables.{Tables}
use Rattle.soundness.specs.Sound.{sound}
use Rattle.host.specs.declared.ending.One.{One}
use Rattle.host.specs.HostCall.{no_tables, add_session, add_tree, add_open, load_file, load_memory, drop_connection, set_catalogue, ask_unchanged, end_one}
use Rattle.invariants.specs.HostSound.{start-sound, add_session-sound, add_tree-sound, add_open-sound, load_file-sound, drop_connection-sound, end_one-sound, set_catalogue-sound, add_session-shaped, add_tree-shaped, add_open-shaped, load_file-shaped, drop_connection-shaped, end_one-shaped, set_catalogue-shaped}
use Rattle.claims.specs.HostAnswer.{load_memory-refused}
use Rattle.claims.specs.LoadBytes.{load_memory-done}
use Rattle.claims.specs.AskUnchanged.{ask-stands}
use Rattle.chain.specs.Header.{dropped}
use Rattle.message.specs.Message.{answered, Taken, not_taken, replied, take-message}
use Rattle.invariants.specs.GivenCases.{cond-case}
use Rattle.invariants.specs.Sound.{Good}
use Rattle.demands.specs.MemorySize.{answered-memory}
use Rattle.invariants.specs.Fit.{take-message-good}

-- the tables to start from
pub start-good : Good no_tables
unfolding no_tables
start-good = record { sound = start-sound; shaped = record { sessions16 = refl; trees32 = refl; opens64 = refl; locks128 = refl; files16 = refl; names16 = refl } }

-- ---- each host call, done or refused: sound tables stay sound, arrays keep their room

module _ (t : Tables) (g : Good t) where
  pub add_session-good : (connection : ℕ) → Good (add_session t connection).tables
  add_session-good c = record { sound = add_session-sound t g.sound c; shaped = add_session-shaped t g.shaped c }

  pub add_tree-good : (uid right : ℕ) → Good (add_tree t uid right).tables
  add_tree-good uid right = record { sound = add_tree-sound t g.sound uid right; shaped = add_tree-shaped t g.shaped uid right }

  pub add_open-good : (uid tid process file access : ℕ) → Good (add_open t uid tid process file access).tables
  add_open-good uid tid process file access =
      record { sound = add_open-sound t g.sound uid tid process file access; shaped = add_open-shaped t g.shaped uid tid process file access }

  pub load_file-good : (file : ℕ) (bytes memory : List ℕ) → Good (load_file t file bytes memory).tables
  load_file-good file bytes memory = record { sound = load_file-sound t g.sound file bytes memory; shaped = load_file-shaped t g.shaped file bytes memory }

  pub drop_connection-good : (connection : ℕ) → Good (drop_connection t connection).tables
  drop_connection-good c = record { sound = drop_connection-sound t g.sound c; shaped = drop_connection-shaped t g.shaped c }

  pub end_one-good : (one : One) → Good (end_one t one).tables
  end_one-good one = record { sound = end_one-sound t g.sound one; shaped = end_one-shaped t g.shaped one }

  pub set_catalogue-good : (names : List Name) (count : ℕ) → length names ≡ 16 → Good (set_catalogue t names count).tables
  set_catalogue-good names count room = record { sound = set_catalogue-sound t g.sound names count; shaped = set_catalogue-shaped t g.shaped names count room }

-- ---- the file memory's length

-- a load leaves it
pub load_memory-length : (t : Tables) (file : ℕ) (bytes memory : List ℕ) → length (load_memory t file bytes memory) ≡ length memory
load_memory-length t file bytes memory =
    elim (ℕ_discrete (load_file t file bytes memory).number 0) [
      | yes e ↦ (load_memory-done t file bytes memory e).same_length
      | no n ↦ ap length (load_memory-refused t file bytes memory n)
    ]

-- and so does a message
pub take-message-memory : (connection : ℕ) (s : List ℕ) (t : Tables) (memory room : List ℕ) → Good t
    → length (take-message connection s t memory room).memory ≡ length memory
unfolding take-message not_taken replied
take-message-memory connection s t memory room g =
    cond-case As-long (ltb (length room) 12292 || not (eqb (length memory) 65536)) (not_taken 2 t memory room) _ (λ _. refl)
    (λ e. let whole : length memory ≡ 65536 = eqb-true (length memory) 65536 (not-false (eqb (length memory) 65536) (neither-holds (ltb (length room) 12292) (not (eqb (length memory) 65536)) e).1) in
    cond-case As-long (not (sound t)) (not_taken 4 t memory room) _ (λ _. refl)
    (λ _. cond-case As-long (dropped s) (not_taken 1 t memory room) (replied s room (answered connection s t memory)) (λ _. refl)
    (λ _. answered-memory connection s t memory g whole ∙ sym whole)))
  where
    As-long : Taken → Type 0
    As-long r = length r.memory ≡ length memory

-- ---- one call

-- a call on these tables, the host lending that file memory, and the tables and the file memory that it leaves, done or refused: "add a session, tree or open;
-- load a file; drop a connection; take a message with its connection number"; document 02, CR 6: "a catalogue, set whole by the host", of 16 records; CR 8: the question
-- whether a file has changed; and a session, tree or open ended by its number
pub data HostCall (t : Tables) (memory : List ℕ) : Tables → List ℕ → Type 0 where
  add-session : (connection : ℕ) → HostCall t memory (add_session t connection).tables memory
  add-tree : (uid right : ℕ) → HostCall t memory (add_tree t uid right).tables memory
  add-open : (uid tid process file access : ℕ) → HostCall t memory (add_open t uid tid process file access).tables memory
  load : (file : ℕ) (bytes : List ℕ) → HostCall t memory (load_file t file bytes memory).tables (load_memory t file bytes memory)
  drop : (connection : ℕ) → HostCall t memory (drop_connection t connection).tables memory
  end-one : (one : One) → HostCall t memory (end_one t one).tables memory
  set-catalogue : (names : List Name) (count : ℕ) → length names ≡ 16 → HostCall t memory (set_catalogue t names count).tables memory
  ask : (fid : ℕ) → HostCall t memory (ask_unchanged t fid).tables memory
  message : (connection : ℕ) (s room : List ℕ)
      → HostCall t memory (take-message connection s t memory room).tables (take-message connection s t memory room).memory

-- "Every call on sound tables leaves sound tables"
pub call-good : {t : Tables} {memory : List ℕ} {after : Tables} {left : List ℕ} → HostCall t memory after left → Good t → Good after
call-good {t} (add-session c) g = add_session-good t g c
call-good {t} (add-tree uid right) g = add_tree-good t g uid right
call-good {t} (add-open uid tid process file access) g = add_open-good t g uid tid process file access
call-good {t} {memory = memory} (load file bytes) g = load_file-good t g file bytes memory
call-good {t} (drop c) g = drop_connection-good t g c
call-good {t} (end-one one) g = end_one-good t g one
call-good {t} (set-catalogue names count room) g = set_catalogue-good t g names count room
call-good {t} (ask fid) g = rw (ask-stands t fid) g
call-good {t} {memory = memory} (message c s room) g = take-message-good c s t memory room g

-- and the file memory lent as long as it was
pub call-memory : {t : Tables} {memory : List ℕ} {after : Tables} {left : List ℕ} → HostCall t memory after left → Good t → length left ≡ length memory
call-memory (add-session c) g = refl
call-memory (add-tree uid right) g = refl
call-memory (add-open uid tid process file access) g = refl
call-memory {t} {memory = memory} (load file bytes) g = load_memory-length t file bytes memory
call-memory (drop c) g = refl
call-memory (end-one one) g = refl
call-memory (set-catalogue names count room) g = refl
call-memory (ask fid) g = refl
call-memory {t} {memory = memory} (message c s room) g = take-message-memory c s t memory room g

-- ---- all histories

-- the tables that a host comes to, from the tables to start from, by calls in any order, lending to each whatever file memory it likes
pub data Reached : Tables → Type 0 where
  start : Reached no_tables
  then-call : {t after : Tables} {left : List ℕ} → Reached t → (memory : List ℕ) → HostCall t memory after left → Reached after

-- the tables and the file memory of a host that lends one file memory to all its calls
pub data ReachedLending (lent : List ℕ) : Tables → List ℕ → Type 0 where
  lending-start : ReachedLending lent no_tables lent
  lending-call : {t after : Tables} {memory left : List ℕ} → ReachedLending lent t memory → HostCall t memory after left → ReachedLending lent after left

-- its tables are among those
pub lending-reached : {lent memory : List ℕ} {t : Tables} → ReachedLending lent t memory → Reached t
lending-reached lending-start = start
lending-reached (lending-call {memory = memory} r call) = then-call (lending-reached r) memory call
