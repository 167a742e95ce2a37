-- What each host call leaves where it is done (number 0), table by table (document 01, "Tables and room" and "What a call
-- returns"; document 02, CR 6 and CR 8): the record added, field by field, and every other record, count and file as it was. Assumes nothing.
use Rattle.std.specs.Prelude.{◌≡◌, refl, false, List, [], ◌∷◌, ◌++◌, map, ℕ, ◌+◌, get_or}
use Rattle.std.proofs.Common.{sym}
use Rattle.std.proofs.Math.Path.{ap}
use Rattle.std.proofs.Math.ListN.{length, length-append}
use Rattle.records.specs.Change.{raised, changes_of}
use Rattle.records.specs.Empty.{no_file}
use Rattle.records.specs.declared.Session.{Session}
use Rattle.records.specs.declared.Tree.{Tree}
use Rattle.records.specs.declared.Open.{Open}
use Rattle.records.specs.declared.Name.{Name}
use Rattle.records.specs.declared.Tables.{Tables}
use Rattle.records.specs.Held.{sessions_of, trees_of, opens_of, locks_of, with_sessions, with_trees, with_opens, with_locks, with_files, with_catalogue}
use Rattle.numbers.specs.Column.{uid_of, tid_of, fid_of}
use Rattle.removal.specs.Removal.{remove}
use Rattle.removal.specs.declared.Gone.{Gone}
use Rattle.host.specs.HostCall.{refused, done, new_session, add_session, new_tree, add_tree, new_open, add_open, load_file, load_memory, set_catalogue}
use Rattle.host.specs.declared.answer.Returned.{Returned}
use Rattle.invariants.specs.Shaped.{Shaped, sessions-with, trees-with, opens-with}
use Rattle.invariants.specs.HostCases.{add_session-either, add_tree-either, add_open-either, load_file-either, set_catalogue-either}
use Rattle.invariants.specs.RemovalSound.{left, remove-left, left-sessions, left-trees, left-opens, left-locks}
use Rattle.claims.specs.HostAnswer.{NewNumber, smallest-new, refused-not-done}
use Rattle.claims.specs.LoadBytes.{Loaded, load_memory-done, load_file-size, load_file-changes, load_file-others, load_file-records}
use Rattle.claims.specs.RemovalPlain.{ConnectionGone, FilesStand, CatalogueStands}

-- ---- a table that stands: its count and its records, in use or not

abbrev pub SessionsStand : Tables → Tables → Type 0
SessionsStand t after = (after.nsessions ≡ t.nsessions) × (after.sessions ≡ t.sessions)

abbrev pub TreesStand : Tables → Tables → Type 0
TreesStand t after = (after.ntrees ≡ t.ntrees) × (after.trees ≡ t.trees)

abbrev pub OpensStand : Tables → Tables → Type 0
OpensStand t after = (after.nopens ≡ t.nopens) × (after.opens ≡ t.opens)

abbrev pub LocksStand : Tables → Tables → Type 0
LocksStand t after = (after.nlocks ≡ t.nlocks) × (after.locks ≡ t.locks)

-- each count is that of the records held
pub record Counted (t : Tables) : Type 0 where
  pub session-count : t.nsessions ≡ length (sessions_of t)
  pub tree-count : t.ntrees ≡ length (trees_of t)
  pub open-count : t.nopens ≡ length (opens_of t)
  pub lock-count : t.nlocks ≡ length (locks_of t)

-- ---- what a call leaves

-- one session behind the others, on that connection, with the UID given out; nothing else is touched
pub record SessionAdded (t : Tables) (connection : ℕ) (a : Returned) : Type 0 where
  pub new : Session
  pub its-uid : new.uid ≡ a.id
  pub its-connection : new.connection ≡ connection
  pub given_out : NewNumber 16 (map uid_of (sessions_of t)) a.id
  pub sessions : sessions_of a.tables ≡ sessions_of t ++ (new ∷ [])
  pub session-count : a.tables.nsessions ≡ length (sessions_of t) + 1
  pub trees : TreesStand t a.tables
  pub opens : OpensStand t a.tables
  pub locks : LocksStand t a.tables
  pub files : FilesStand t a.tables
  pub catalogue : CatalogueStands t a.tables

-- one tree behind the others, of that session, with that right and the TID given out; nothing else is touched
pub record TreeAdded (t : Tables) (uid right : ℕ) (a : Returned) : Type 0 where
  pub new : Tree
  pub its-tid : new.tid ≡ a.id
  pub its-uid : new.uid ≡ uid
  pub its-right : new.right ≡ right
  pub given_out : NewNumber 32 (map tid_of (trees_of t)) a.id
  pub trees : trees_of a.tables ≡ trees_of t ++ (new ∷ [])
  pub tree-count : a.tables.ntrees ≡ length (trees_of t) + 1
  pub sessions : SessionsStand t a.tables
  pub opens : OpensStand t a.tables
  pub locks : LocksStand t a.tables
  pub files : FilesStand t a.tables
  pub catalogue : CatalogueStands t a.tables

-- one open behind the others, through that tree of that session, for that process, of that file, with that access and the FID
-- given out; it denies nothing (document 02, CR 6); nothing else is touched
pub record OpenAdded (t : Tables) (uid tid process file access : ℕ) (a : Returned) : Type 0 where
  pub new : Open
  pub its-fid : new.fid ≡ a.id
  pub its-uid : new.uid ≡ uid
  pub its-tid : new.tid ≡ tid
  pub its-process : new.process ≡ process
  pub its-file : new.file ≡ file
  pub its-access : new.access ≡ access
  pub its-sharing : new.sharing ≡ 4
  pub not-read : new.read ≡ false
  pub seen_none : new.seen ≡ 0
  pub given_out : NewNumber 64 (map fid_of (opens_of t)) a.id
  pub opens : opens_of a.tables ≡ opens_of t ++ (new ∷ [])
  pub open-count : a.tables.nopens ≡ length (opens_of t) + 1
  pub sessions : SessionsStand t a.tables
  pub trees : TreesStand t a.tables
  pub locks : LocksStand t a.tables
  pub files : FilesStand t a.tables
  pub catalogue : CatalogueStands t a.tables

-- the file has the bytes and their number as its size, and its change number is raised; no other byte, file or table is touched, and no number is given out
pub record FileLoaded (t : Tables) (file : ℕ) (bytes memory : List ℕ) (a : Returned) (after : List ℕ) : Type 0 where
  pub its-size : (get_or a.tables.files file no_file).size ≡ length bytes
  pub its-changes : changes_of a.tables file ≡ raised (changes_of t file)
  pub other-files : (i : ℕ) → (i ≡ file → ⊥) → get_or a.tables.files i no_file ≡ get_or t.files i no_file
  pub file-bytes : Loaded file bytes memory after
  pub sessions : SessionsStand t a.tables
  pub trees : TreesStand t a.tables
  pub opens : OpensStand t a.tables
  pub locks : LocksStand t a.tables
  pub catalogue : CatalogueStands t a.tables
  pub no_number : a.id ≡ 0

-- the sessions of the connection are gone with what hangs on them; every other record stands in its order, each count is that of
-- the records left, neither file nor catalogue is touched, and no number is given out
pub record ConnectionDropped (t : Tables) (connection : ℕ) (a : Returned) : Type 0 where
  pub records : ConnectionGone connection t a.tables
  pub counts : Counted a.tables
  pub no_number : a.id ≡ 0

-- document 02, CR 6: "a catalogue, set whole by the host": its count and all its names, in use or not, are those given; no other table or file is
-- touched, and no number is given out
pub record CatalogueSet (t : Tables) (given : List Name) (count : ℕ) (a : Returned) : Type 0 where
  pub name-count : a.tables.nnames ≡ count
  pub names : a.tables.names ≡ given
  pub sessions : SessionsStand t a.tables
  pub trees : TreesStand t a.tables
  pub opens : OpensStand t a.tables
  pub locks : LocksStand t a.tables
  pub files : FilesStand t a.tables
  pub no_number : a.id ≡ 0

-- ---- the calls

module _ (t : Tables) where
  -- "add a session"
  pub add_session-frame : (connection : ℕ) → (add_session t connection).number ≡ 0 → SessionAdded t connection (add_session t connection)
  unfolding done new_session with_sessions
  add_session-frame connection =
      add_session-either t (λ a. a.number ≡ 0 → SessionAdded t connection a) (refused-not-done (SessionAdded t connection) t) connection
      λ tables room e. record {
        new = new_session t connection;
        its-uid = refl;
        its-connection = refl;
        given_out = smallest-new uid_of 16 t.nsessions t.sessions room;
        sessions = sessions-with t (sessions_of t ++ (new_session t connection ∷ []));
        session-count = length-append (sessions_of t) (new_session t connection ∷ []);
        trees = (refl, refl);
        opens = (refl, refl);
        locks = (refl, refl);
        files = refl;
        catalogue = (refl, refl);
      }

  -- "add a .. tree"
  pub add_tree-frame : (uid right : ℕ) → (add_tree t uid right).number ≡ 0 → TreeAdded t uid right (add_tree t uid right)
  unfolding done new_tree with_trees
  add_tree-frame uid right =
      add_tree-either t (λ a. a.number ≡ 0 → TreeAdded t uid right a) (refused-not-done (TreeAdded t uid right) t) uid right
      λ tables low named room e. record {
        new = new_tree t uid right;
        its-tid = refl;
        its-uid = refl;
        its-right = refl;
        given_out = smallest-new tid_of 32 t.ntrees t.trees room;
        trees = trees-with t (trees_of t ++ (new_tree t uid right ∷ []));
        tree-count = length-append (trees_of t) (new_tree t uid right ∷ []);
        sessions = (refl, refl);
        opens = (refl, refl);
        locks = (refl, refl);
        files = refl;
        catalogue = (refl, refl);
      }

  -- "add a .. open"
  pub add_open-frame : (uid tid process file access : ℕ) → (add_open t uid tid process file access).number ≡ 0
      → OpenAdded t uid tid process file access (add_open t uid tid process file access)
  unfolding done new_open with_opens
  add_open-frame uid tid process file access =
      add_open-either t (λ a. a.number ≡ 0 → OpenAdded t uid tid process file access a)
      (refused-not-done (OpenAdded t uid tid process file access) t) uid tid process file access
      λ passed e. record {
        new = new_open t uid tid process file access;
        its-fid = refl;
        its-uid = refl;
        its-tid = refl;
        its-process = refl;
        its-file = refl;
        its-access = refl;
        its-sharing = refl;
        not-read = refl;
        seen_none = refl;
        given_out = smallest-new fid_of 64 t.nopens t.opens passed.room;
        opens = opens-with t (opens_of t ++ (new_open t uid tid process file access ∷ []));
        open-count = length-append (opens_of t) (new_open t uid tid process file access ∷ []);
        sessions = (refl, refl);
        trees = (refl, refl);
        locks = (refl, refl);
        files = refl;
        catalogue = (refl, refl);
      }

  -- the counts that a removal leaves are those of the records left
  pub removed-counts : (gone : Gone) → Counted (remove gone t)
  unfolding left with_sessions with_trees with_opens with_locks
  removed-counts gone =
      rw (remove-left gone t)
      (record {
        session-count = ap length (sym (left-sessions gone t));
        tree-count = ap length (sym (left-trees gone t));
        open-count = ap length (sym (left-opens gone t));
        lock-count = ap length (sym (left-locks gone t));
      })

  -- "a catalogue, set whole by the host"
  pub set_catalogue-frame : (given : List Name) (count : ℕ) → (set_catalogue t given count).number ≡ 0
      → CatalogueSet t given count (set_catalogue t given count)
  unfolding done with_catalogue
  set_catalogue-frame given count =
      set_catalogue-either t (λ a. a.number ≡ 0 → CatalogueSet t given count a) (refused-not-done (CatalogueSet t given count) t) given count
      λ tables rules e. record {
        name-count = refl;
        names = refl;
        sessions = (refl, refl);
        trees = (refl, refl);
        opens = (refl, refl);
        locks = (refl, refl);
        files = refl;
        no_number = refl;
      }

  -- a load gives out no number
  load_file-no-number : (file : ℕ) (bytes memory : List ℕ) → (load_file t file bytes memory).id ≡ 0
  unfolding done refused
  load_file-no-number file bytes memory = load_file-either t (λ a. a.id ≡ 0) (λ n some. refl) file bytes memory (λ passed. refl)

  -- "load a file"
  pub load_file-frame : Shaped t → (file : ℕ) (bytes memory : List ℕ) → (load_file t file bytes memory).number ≡ 0
      → FileLoaded t file bytes memory (load_file t file bytes memory) (load_memory t file bytes memory)
  unfolding with_files
  load_file-frame shaped file bytes memory e =
      let only = load_file-records t file bytes memory e in
      record {
        its-size = load_file-size t file bytes memory e shaped;
        its-changes = load_file-changes t file bytes memory e shaped;
        other-files = load_file-others t file bytes memory e;
        file-bytes = load_memory-done t file bytes memory e;
        sessions = (ap (λ (u : Tables). u.nsessions) only, ap (λ (u : Tables). u.sessions) only);
        trees = (ap (λ (u : Tables). u.ntrees) only, ap (λ (u : Tables). u.trees) only);
        opens = (ap (λ (u : Tables). u.nopens) only, ap (λ (u : Tables). u.opens) only);
        locks = (ap (λ (u : Tables). u.nlocks) only, ap (λ (u : Tables). u.locks) only);
        catalogue = (ap (λ (u : Tables). u.nnames) only, ap (λ (u : Tables). u.names) only);
        no_number = load_file-no-number file bytes memory;
      }
