-- The tables' arrays have the room of document 01, "Tables and room": "Sessions 16 .. trees 32 .. opens 64 .. locks 128 ..
-- Files: 16", and the catalogue that of 16 names (document 02, CR 6). In code the types say so. Assumes nothing.
use Rattle.std.specs.Prelude.{◌≡◌, ℕ, ◌≤◌, List, get_or, set}
use Rattle.std.proofs.Common.{◌∙◌, length-set}
use Rattle.std.proofs.Math.ListN.{length}
use native.Mathlib.Omega.{arith}
use Rattle.lists.specs.RoomLaws.{length-stored}
use Rattle.lists.specs.StoredLaws.{take-stored}
use Rattle.records.specs.Change.{file_after, with_change}
use Rattle.records.specs.Empty.{no_session, no_tree, no_open, no_lock, no_file}
use Rattle.records.specs.declared.Session.{Session}
use Rattle.records.specs.declared.Tree.{Tree}
use Rattle.records.specs.declared.Open.{Open}
use Rattle.records.specs.declared.Lock.{Lock}
use Rattle.records.specs.declared.File.{File}
use Rattle.records.specs.declared.Name.{Name}
use Rattle.records.specs.declared.Tables.{Tables}
use Rattle.records.specs.Held.{sessions_of, trees_of, opens_of, locks_of, with_sessions, with_trees, with_opens, with_locks, with_files, with_catalogue}

-- the arrays' lengths
pub record Shaped (t : Tables) : Type 0 where
  pub sessions16 : length t.sessions ≡ 16
  pub trees32 : length t.trees ≡ 32
  pub opens64 : length t.opens ≡ 64
  pub locks128 : length t.locks ≡ 128
  pub files16 : length t.files ≡ 16
  pub names16 : length t.names ≡ 16

module _ (t : Tables) (s : Shaped t) where
  -- another list of sessions, for which there is room, leaves the lengths
  pub shaped-sessions : (l : List Session) → length l ≤ 16 → Shaped (with_sessions t l)
  unfolding with_sessions
  shaped-sessions l h =
      let full = s.sessions16 in
      let fits : length l ≤ length t.sessions = omega arith in
      record {
        sessions16 = length-stored no_session t.sessions t.nsessions l fits ∙ full;
        trees32 = s.trees32;
        opens64 = s.opens64;
        locks128 = s.locks128;
        files16 = s.files16;
        names16 = s.names16;
      }

  -- another list of trees
  pub shaped-trees : (l : List Tree) → length l ≤ 32 → Shaped (with_trees t l)
  unfolding with_trees
  shaped-trees l h =
      let full = s.trees32 in
      let fits : length l ≤ length t.trees = omega arith in
      record {
        sessions16 = s.sessions16;
        trees32 = length-stored no_tree t.trees t.ntrees l fits ∙ full;
        opens64 = s.opens64;
        locks128 = s.locks128;
        files16 = s.files16;
        names16 = s.names16;
      }

  -- another list of opens
  pub shaped-opens : (l : List Open) → length l ≤ 64 → Shaped (with_opens t l)
  unfolding with_opens
  shaped-opens l h =
      let full = s.opens64 in
      let fits : length l ≤ length t.opens = omega arith in
      record {
        sessions16 = s.sessions16;
        trees32 = s.trees32;
        opens64 = length-stored no_open t.opens t.nopens l fits ∙ full;
        locks128 = s.locks128;
        files16 = s.files16;
        names16 = s.names16;
      }

  -- another list of locks
  pub shaped-locks : (l : List Lock) → length l ≤ 128 → Shaped (with_locks t l)
  unfolding with_locks
  shaped-locks l h =
      let full = s.locks128 in
      let fits : length l ≤ length t.locks = omega arith in
      record {
        sessions16 = s.sessions16;
        trees32 = s.trees32;
        opens64 = s.opens64;
        locks128 = length-stored no_lock t.locks t.nlocks l fits ∙ full;
        files16 = s.files16;
        names16 = s.names16;
      }

  -- another list of 16 files
  pub shaped-files : (l : List File) → length l ≡ 16 → Shaped (with_files t l)
  unfolding with_files
  shaped-files l h =
      record { sessions16 = s.sessions16; trees32 = s.trees32; opens64 = s.opens64; locks128 = s.locks128; files16 = h; names16 = s.names16 }

  -- a file changed
  pub shaped-change : (file size : ℕ) → Shaped (with_change t file size)
  shaped-change file size =
      let after = file_after (get_or t.files file no_file) size in shaped-files (set t.files file after) (length-set t.files file after ∙ s.files16)

  -- another catalogue of 16 records
  pub shaped-names : (l : List Name) (count : ℕ) → length l ≡ 16 → Shaped (with_catalogue t l count)
  unfolding with_catalogue
  shaped-names l count h =
      record { sessions16 = s.sessions16; trees32 = s.trees32; opens64 = s.opens64; locks128 = s.locks128; files16 = s.files16; names16 = h }

-- tables with another list hold that list
module _ (t : Tables) where
  pub sessions-with : (l : List Session) → sessions_of (with_sessions t l) ≡ l
  unfolding with_sessions
  sessions-with l = take-stored no_session t.sessions (length (sessions_of t)) l

  pub trees-with : (l : List Tree) → trees_of (with_trees t l) ≡ l
  unfolding with_trees
  trees-with l = take-stored no_tree t.trees (length (trees_of t)) l

  pub opens-with : (l : List Open) → opens_of (with_opens t l) ≡ l
  unfolding with_opens
  opens-with l = take-stored no_open t.opens (length (opens_of t)) l

  pub locks-with : (l : List Lock) → locks_of (with_locks t l) ≡ l
  unfolding with_locks
  locks-with l = take-stored no_lock t.locks (length (locks_of t)) l
