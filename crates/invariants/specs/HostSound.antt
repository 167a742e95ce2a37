-- Host calls leave sound tables, whatever they are given (document 01, "Tables and room": "Every call on sound tables
-- leaves sound tables"), and arrays of the same room. Assumes nothing.
use Rattle.std.specs.Prelude.{◌≡◌, true, List, [], ◌∷◌, ◌++◌, map, ℕ, ◌≤◌, ◌<◌, length, get_or}
use Rattle.std.proofs.Math.Path.{refl}
use Rattle.std.proofs.Common.{arith}
use borrow.Author.Tests.{le-leb}
use Rattle.records.specs.declared.Open.{Open}
use Rattle.records.specs.declared.Name.{Name}
use Rattle.records.specs.declared.Tables.{Tables}
use Rattle.records.specs.Held.{sessions_of, trees_of, opens_of, locks_of, with_sessions, with_trees, with_opens, with_files, with_catalogue}
use Rattle.records.specs.Change.{with_change}
use Rattle.records.specs.Empty.{no_file}
use Rattle.numbers.specs.Column.{uid_of}
use Rattle.lists.specs.Walk.{all, all_tails}
use Rattle.numbers.specs.Number.{contains, numbered}
use Rattle.numbers.specs.NewOpen.{open_with}
use Rattle.catalogue.specs.Name.{catalogue_ok, none_doubled}
use Rattle.soundness.specs.Sound.{sound, sharing_ok, within_room, file_ok, sound_records, sound_locks, agree_all, seen_ok}
use Rattle.host.specs.declared.ending.One.{One}
use Rattle.host.specs.HostCall.{no_tables, refused, done, new_session, add_session, new_tree, add_tree, new_open, add_open, load_file, drop_connection, gone_with, end_one, set_catalogue}
use Rattle.host.specs.declared.answer.Returned.{Returned}
use Rattle.removal.specs.declared.Gone.TheVariants.{Connection}
use Rattle.lists.specs.Members.{all_snoc}
use Rattle.lists.specs.RoomLaws.{held-fewer, held_more}
use Rattle.invariants.specs.SoundParts.{Sound, sound-says, sound-lists}
use Rattle.invariants.specs.ChangeLaws.{after-ok, after-seen}
use Rattle.invariants.specs.RuleLaws.{tree-ok, OpenOk, open-ok}
use Rattle.invariants.specs.Shaped.{Shaped, sessions-with, trees-with, opens-with, shaped-sessions, shaped-trees, shaped-opens, shaped-change, shaped-names}
use Rattle.invariants.specs.AddedRecords.{records-session, records-tree, records-open, locks-open}
use Rattle.invariants.specs.RemovalSound.{remove-sound, remove-shaped}
use Rattle.invariants.specs.HostCases.{OpenPassed, add_session-either, add_tree-either, add_open-either, load_file-either, drop_connection-either, end_one-either, set_catalogue-either}

-- ---- the tables of a call that is done

module _ (t : Tables) (s : Sound t) where
  session-sound : (c : ℕ) → t.nsessions < 16 → sound (with_sessions t (sessions_of t ++ (new_session t c ∷ []))) ≡ true
  unfolding with_sessions new_session
  session-sound c h =
      let r = s.room in
      sound-lists (with_sessions t (sessions_of t ++ (new_session t c ∷ []))) (sessions_of t ++ (new_session t c ∷ [])) (trees_of t) (opens_of t) (locks_of t)
      (sessions-with t (sessions_of t ++ (new_session t c ∷ []))) refl refl refl
      (record {
        sessions-fit = held_more t.nsessions t.sessions 16 h (new_session t c);
        trees-fit = r.trees-fit;
        opens-fit = r.opens-fit;
        locks-fit = r.locks-fit;
      })
      s.sizes
      (records-session (sessions_of t) (trees_of t) (opens_of t) s.records (new_session t c) refl (held-fewer t.nsessions t.sessions 16 h))
      s.locks s.catalogue s.seen

  tree-sound : (uid right : ℕ) → right ≤ 1 → contains uid (map uid_of (sessions_of t)) ≡ true → t.ntrees < 32
      → sound (with_trees t (trees_of t ++ (new_tree t uid right ∷ []))) ≡ true
  unfolding with_trees new_tree
  tree-sound uid right low named h =
      let r = s.room in
      sound-lists (with_trees t (trees_of t ++ (new_tree t uid right ∷ []))) (sessions_of t) (trees_of t ++ (new_tree t uid right ∷ [])) (opens_of t) (locks_of t)
      refl (trees-with t (trees_of t ++ (new_tree t uid right ∷ []))) refl refl
      (record {
        sessions-fit = r.sessions-fit;
        trees-fit = held_more t.ntrees t.trees 32 h (new_tree t uid right);
        opens-fit = r.opens-fit;
        locks-fit = r.locks-fit;
      })
      s.sizes
      (records-tree (sessions_of t) (trees_of t) (opens_of t) s.records (new_tree t uid right) refl
      (tree-ok (map uid_of (sessions_of t)) (new_tree t uid right) (record { right = le-leb right 1 low; session = named }))
      (held-fewer t.ntrees t.trees 32 h))
      s.locks s.catalogue s.seen

  -- an open more, the host's or a request's, that obeys the rules for opens
  module _ (uid tid process file access sharing : ℕ) where
    abbrev added : Open
    added = open_with t uid tid process file access sharing

    pub added-sound : OpenOk (trees_of t) added → t.nopens < 64 → sound (with_opens t (opens_of t ++ (added ∷ []))) ≡ true
    unfolding with_opens seen_ok
    added-sound ok h =
        let r = s.room in
        sound-lists (with_opens t (opens_of t ++ (added ∷ []))) (sessions_of t) (trees_of t) (opens_of t ++ (added ∷ [])) (locks_of t)
        refl refl (opens-with t (opens_of t ++ (added ∷ []))) refl
        (record {
          sessions-fit = r.sessions-fit;
          trees-fit = r.trees-fit;
          opens-fit = held_more t.nopens t.opens 64 h added;
          locks-fit = r.locks-fit;
        })
        s.sizes
        (records-open (sessions_of t) (trees_of t) (opens_of t) s.records added refl (open-ok (trees_of t) added ok) (held-fewer t.nopens t.opens 64 h))
        (locks-open (opens_of t) added (locks_of t) s.locks) s.catalogue
        (all_snoc (seen_ok t.files) (opens_of t) added s.seen (le-leb 0 (get_or t.files file no_file).changes (omega arith)))

  open-sound : (uid tid process file access : ℕ) → OpenPassed t uid tid process file access
      → sound (with_opens t (opens_of t ++ (new_open t uid tid process file access ∷ []))) ≡ true
  unfolding new_open sharing_ok
  open-sound uid tid process file access p =
      added-sound uid tid process file access 4
      (record { file = le-leb file 15 p.file15; access = le-leb access 2 p.access2; sharing = refl; held = p.held }) p.room

  -- another catalogue that obeys its rules
  names-sound : (names : List Name) (count : ℕ) → catalogue_ok names count ≡ true → sound (with_catalogue t names count) ≡ true
  unfolding with_catalogue
  names-sound names count h =
      sound-lists (with_catalogue t names count) (sessions_of t) (trees_of t) (opens_of t) (locks_of t) refl refl refl refl s.room s.sizes s.records s.locks h s.seen

  -- a file changed, by a load or a request
  pub changed-sound : (file size : ℕ) → size ≤ 4096 → sound (with_change t file size) ≡ true
  unfolding with_files
  changed-sound file size h =
      sound-lists (with_change t file size) (sessions_of t) (trees_of t) (opens_of t) (locks_of t) refl refl refl refl s.room
      (after-ok size t.files file h s.sizes) s.records s.locks s.catalogue (after-seen size t.files file (opens_of t) s.sizes s.seen)

-- ---- "Every call on sound tables leaves sound tables"

SoundAfter : Returned → Type 0
SoundAfter a = sound a.tables ≡ true

module _ (t : Tables) (e : sound t ≡ true) where
  refused-sound : (n : ℕ) → 1 ≤ n → SoundAfter (refused n t)
  unfolding SoundAfter refused
  refused-sound n h = e

  -- "Every call on sound tables leaves sound tables": adding a session
  pub add_session-sound : (connection : ℕ) → sound (add_session t connection).tables ≡ true
  unfolding SoundAfter done
  add_session-sound c = add_session-either t SoundAfter refused-sound c (λ a h. session-sound t (sound-says t e) c h)

  -- "Every call on sound tables leaves sound tables": adding a tree
  pub add_tree-sound : (uid right : ℕ) → sound (add_tree t uid right).tables ≡ true
  unfolding SoundAfter done
  add_tree-sound uid right = add_tree-either t SoundAfter refused-sound uid right (λ a low named h. tree-sound t (sound-says t e) uid right low named h)

  -- "Every call on sound tables leaves sound tables": adding an open
  pub add_open-sound : (uid tid process file access : ℕ) → sound (add_open t uid tid process file access).tables ≡ true
  unfolding SoundAfter done
  add_open-sound uid tid process file access =
      add_open-either t SoundAfter refused-sound uid tid process file access (λ p. open-sound t (sound-says t e) uid tid process file access p)

  -- "Every call on sound tables leaves sound tables": loading a file
  pub load_file-sound : (file : ℕ) (bytes memory : List ℕ) → sound (load_file t file bytes memory).tables ≡ true
  unfolding SoundAfter done
  load_file-sound file bytes memory =
      load_file-either t SoundAfter refused-sound file bytes memory (λ p. changed-sound t (sound-says t e) file (length bytes) p.size4096)

  -- "Every call on sound tables leaves sound tables": ending one record
  pub end_one-sound : (one : One) → sound (end_one t one).tables ≡ true
  unfolding SoundAfter done
  end_one-sound one = end_one-either t SoundAfter refused-sound one (λ a b. remove-sound (gone_with one) t e)

  -- "Every call on sound tables leaves sound tables": dropping a connection
  pub drop_connection-sound : (connection : ℕ) → sound (drop_connection t connection).tables ≡ true
  unfolding SoundAfter done
  drop_connection-sound c = drop_connection-either t SoundAfter refused-sound c (λ a. remove-sound (Connection c) t e)

  -- "Every call on sound tables leaves sound tables": setting the catalogue
  pub set_catalogue-sound : (names : List Name) (count : ℕ) → sound (set_catalogue t names count).tables ≡ true
  unfolding SoundAfter done
  set_catalogue-sound names count = set_catalogue-either t SoundAfter refused-sound names count (λ a h. names-sound t (sound-says t e) names count h)

-- ---- "Sessions 16 .. trees 32 .. opens 64 .. locks 128 .. Files: 16": the arrays keep their room, of tables not sound too

ShapedAfter : Returned → Type 0
ShapedAfter a = Shaped a.tables

module _ (t : Tables) (s : Shaped t) where
  refused-shaped : (n : ℕ) → 1 ≤ n → ShapedAfter (refused n t)
  unfolding ShapedAfter refused
  refused-shaped n h = s

  -- "Sessions 16 .. trees 32 .. opens 64 .. locks 128 .. Files: 16" after adding a session
  pub add_session-shaped : (connection : ℕ) → Shaped (add_session t connection).tables
  unfolding ShapedAfter done
  add_session-shaped c =
      add_session-either t ShapedAfter refused-shaped c
      (λ a h. shaped-sessions t s (sessions_of t ++ (new_session t c ∷ [])) (held_more t.nsessions t.sessions 16 h (new_session t c)))

  -- the same after adding a tree
  pub add_tree-shaped : (uid right : ℕ) → Shaped (add_tree t uid right).tables
  unfolding ShapedAfter done
  add_tree-shaped uid right =
      add_tree-either t ShapedAfter refused-shaped uid right
      (λ a low named h. shaped-trees t s (trees_of t ++ (new_tree t uid right ∷ [])) (held_more t.ntrees t.trees 32 h (new_tree t uid right)))

  -- the same after adding an open
  pub add_open-shaped : (uid tid process file access : ℕ) → Shaped (add_open t uid tid process file access).tables
  unfolding ShapedAfter done
  add_open-shaped uid tid process file access =
      add_open-either t ShapedAfter refused-shaped uid tid process file access
      (λ p. shaped-opens t s (opens_of t ++ (new_open t uid tid process file access ∷ []))
      (held_more t.nopens t.opens 64 p.room (new_open t uid tid process file access)))

  -- the same after loading a file
  pub load_file-shaped : (file : ℕ) (bytes memory : List ℕ) → Shaped (load_file t file bytes memory).tables
  unfolding ShapedAfter done
  load_file-shaped file bytes memory =
      load_file-either t ShapedAfter refused-shaped file bytes memory
      (λ p. shaped-change t s file (length bytes))

  -- the same after ending one record
  pub end_one-shaped : (one : One) → Shaped (end_one t one).tables
  unfolding ShapedAfter done
  end_one-shaped one = end_one-either t ShapedAfter refused-shaped one (λ a b. remove-shaped (gone_with one) t s a)

  -- the same after dropping a connection
  pub drop_connection-shaped : (connection : ℕ) → Shaped (drop_connection t connection).tables
  unfolding ShapedAfter done
  drop_connection-shaped c = drop_connection-either t ShapedAfter refused-shaped c (λ a. remove-shaped (Connection c) t s a)

  -- the same after setting the catalogue, which is of 16 records too
  pub set_catalogue-shaped : (names : List Name) (count : ℕ) → length names ≡ 16 → Shaped (set_catalogue t names count).tables
  unfolding ShapedAfter done
  set_catalogue-shaped names count h = set_catalogue-either t ShapedAfter refused-shaped names count (λ a _. shaped-names t s names count h)

-- the tables to start from are sound
pub start-sound : sound no_tables ≡ true
unfolding no_tables sound within_room all file_ok sound_records numbered sound_locks agree_all all_tails catalogue_ok none_doubled seen_ok
start-sound = refl
