-- All tables, after one table's words are lent and changed: that table is what its words say, and no other changes.
-- Assumes nothing.
use Rattle.std.specs.Prelude.{◌≡◌, refl, ℕ, true, List, length}
use Rattle.std.proofs.Common.{ap, ◌∙◌, arith}
use Rattle.lists.specs.Truth.{both_hold}
use Rattle.records.specs.Empty.{no_session, no_tree, no_open, no_lock}
use Rattle.records.specs.Held.{sessions_of, trees_of, opens_of, locks_of, with_sessions, with_trees, with_opens, with_locks, with_files, with_catalogue, names_of}
use Rattle.records.specs.declared.Session.{Session}
use Rattle.records.specs.declared.Tree.{Tree}
use Rattle.records.specs.declared.Open.{Open}
use Rattle.records.specs.declared.Lock.{Lock}
use Rattle.records.specs.declared.Tables.{Tables}
use Rattle.tables.specs.Words.{word, part, session_array, tree_array, open_array, lock_array, file_array, name_array, tables_of, session_limits, tree_limits, open_limits, lock_limits, name_limits, table_fits, in_use_fit}
use Rattle.tables.specs.Written.{Holds, sessions_in, trees_in, opens_in, locks_in, names_in}
use Rattle.tables.specs.PartLaws.{lent, lent-here, lent-before, lent-behind}

-- ---- the records in use are those of the tables

pub sessions-in : (w : List ℕ) → sessions_of (tables_of w) ≡ sessions_in (part w 0 33)
unfolding tables_of
sessions-in w = refl

pub trees-in : (w : List ℕ) → trees_of (tables_of w) ≡ trees_in (part w 33 97)
unfolding tables_of
trees-in w = refl

pub opens_in_lem : (w : List ℕ) → opens_of (tables_of w) ≡ opens_in (part w 130 577)
unfolding tables_of
opens_in_lem w = refl

pub locks-in : (w : List ℕ) → locks_of (tables_of w) ≡ locks_in (part w 707 641)
unfolding tables_of
locks-in w = refl

pub names_in_lem : (w : List ℕ) → names_of (tables_of w) ≡ names_in (part w 1380 225)
unfolding tables_of
names_in_lem w = refl

-- ---- the tables with another array and count in place of one of them

unfoldable pub with_session_array : Tables → List Session → ℕ → Tables
with_session_array t list count =
    record {
      sessions = list;
      nsessions = count;
      trees = t.trees;
      ntrees = t.ntrees;
      opens = t.opens;
      nopens = t.nopens;
      locks = t.locks;
      nlocks = t.nlocks;
      files = t.files;
      names = t.names;
      nnames = t.nnames;
    }

unfoldable pub with_tree_array : Tables → List Tree → ℕ → Tables
with_tree_array t list count =
    record {
      sessions = t.sessions;
      nsessions = t.nsessions;
      trees = list;
      ntrees = count;
      opens = t.opens;
      nopens = t.nopens;
      locks = t.locks;
      nlocks = t.nlocks;
      files = t.files;
      names = t.names;
      nnames = t.nnames;
    }

unfoldable pub with_open_array : Tables → List Open → ℕ → Tables
with_open_array t list count =
    record {
      sessions = t.sessions;
      nsessions = t.nsessions;
      trees = t.trees;
      ntrees = t.ntrees;
      opens = list;
      nopens = count;
      locks = t.locks;
      nlocks = t.nlocks;
      files = t.files;
      names = t.names;
      nnames = t.nnames;
    }

unfoldable pub with_lock_array : Tables → List Lock → ℕ → Tables
with_lock_array t list count =
    record {
      sessions = t.sessions;
      nsessions = t.nsessions;
      trees = t.trees;
      ntrees = t.ntrees;
      opens = t.opens;
      nopens = t.nopens;
      locks = list;
      nlocks = count;
      files = t.files;
      names = t.names;
      nnames = t.nnames;
    }

-- ---- words in use that fit, table by table

pub record TablesFit (w : List ℕ) : Type 0 where
  pub sessions-fit : table_fits session_limits 16 (part w 0 33) ≡ true
  pub trees-fit : table_fits tree_limits 32 (part w 33 97) ≡ true
  pub opens-fit : table_fits open_limits 64 (part w 130 577) ≡ true
  pub locks-fit : table_fits lock_limits 128 (part w 707 641) ≡ true
  pub names-fit : table_fits name_limits 16 (part w 1380 225) ≡ true

pub told_fit : (w : List ℕ) → in_use_fit w ≡ true → TablesFit w
unfolding in_use_fit
told_fit w h =
    let a = both_hold _ _ h in
    let b = both_hold _ _ a.1 in
    let d = both_hold _ _ b.1 in
    let f = both_hold _ _ d.1 in
    record { sessions-fit = a.0; trees-fit = b.0; opens-fit = d.0; locks-fit = f.0; names-fit = f.1 }

pub fit-told : (w : List ℕ) → TablesFit w → in_use_fit w ≡ true
unfolding in_use_fit
fit-told w t = rw (t.sessions-fit, t.trees-fit, t.opens-fit, t.locks-fit, t.names-fit)

module _ (w e : List ℕ) (full : length w ≡ 1605) where
  -- ---- each table's words, lent and changed

  pub tables-sessions : length e ≡ 33 → tables_of (lent w 0 33 e) ≡ with_session_array (tables_of w) (session_array e) (word e 0)
  unfolding tables_of with_session_array
  tables-sessions long =
      rw (
        lent-here w e 0 33 long (omega arith),
        lent-behind w e 0 33 long (omega arith) 33 97 (omega arith),
        lent-behind w e 0 33 long (omega arith) 130 577 (omega arith),
        lent-behind w e 0 33 long (omega arith) 707 641 (omega arith),
        lent-behind w e 0 33 long (omega arith) 1348 32 (omega arith),
        lent-behind w e 0 33 long (omega arith) 1380 225 (omega arith),
      )

  pub tables-trees : length e ≡ 97 → tables_of (lent w 33 97 e) ≡ with_tree_array (tables_of w) (tree_array e) (word e 0)
  unfolding tables_of with_tree_array
  tables-trees long =
      rw (
        lent-here w e 33 97 long (omega arith),
        lent-before w e 33 97 long (omega arith) 0 33 (omega arith),
        lent-behind w e 33 97 long (omega arith) 130 577 (omega arith),
        lent-behind w e 33 97 long (omega arith) 707 641 (omega arith),
        lent-behind w e 33 97 long (omega arith) 1348 32 (omega arith),
        lent-behind w e 33 97 long (omega arith) 1380 225 (omega arith),
      )

  pub tables-opens : length e ≡ 577 → tables_of (lent w 130 577 e) ≡ with_open_array (tables_of w) (open_array e) (word e 0)
  unfolding tables_of with_open_array
  tables-opens long =
      rw (
        lent-here w e 130 577 long (omega arith),
        lent-before w e 130 577 long (omega arith) 0 33 (omega arith),
        lent-before w e 130 577 long (omega arith) 33 97 (omega arith),
        lent-behind w e 130 577 long (omega arith) 707 641 (omega arith),
        lent-behind w e 130 577 long (omega arith) 1348 32 (omega arith),
        lent-behind w e 130 577 long (omega arith) 1380 225 (omega arith),
      )

  pub tables-locks : length e ≡ 641 → tables_of (lent w 707 641 e) ≡ with_lock_array (tables_of w) (lock_array e) (word e 0)
  unfolding tables_of with_lock_array
  tables-locks long =
      rw (
        lent-here w e 707 641 long (omega arith),
        lent-before w e 707 641 long (omega arith) 0 33 (omega arith),
        lent-before w e 707 641 long (omega arith) 33 97 (omega arith),
        lent-before w e 707 641 long (omega arith) 130 577 (omega arith),
        lent-behind w e 707 641 long (omega arith) 1348 32 (omega arith),
        lent-behind w e 707 641 long (omega arith) 1380 225 (omega arith),
      )

  pub tables-files : length e ≡ 32 → tables_of (lent w 1348 32 e) ≡ with_files (tables_of w) (file_array e)
  unfolding tables_of with_files
  tables-files long =
      rw (
        lent-here w e 1348 32 long (omega arith),
        lent-before w e 1348 32 long (omega arith) 0 33 (omega arith),
        lent-before w e 1348 32 long (omega arith) 33 97 (omega arith),
        lent-before w e 1348 32 long (omega arith) 130 577 (omega arith),
        lent-before w e 1348 32 long (omega arith) 707 641 (omega arith),
        lent-behind w e 1348 32 long (omega arith) 1380 225 (omega arith),
      )

  pub tables-names : length e ≡ 225 → tables_of (lent w 1380 225 e) ≡ with_catalogue (tables_of w) (name_array e) (word e 0)
  unfolding tables_of with_catalogue
  tables-names long =
      rw (
        lent-here w e 1380 225 long (omega arith),
        lent-before w e 1380 225 long (omega arith) 0 33 (omega arith),
        lent-before w e 1380 225 long (omega arith) 33 97 (omega arith),
        lent-before w e 1380 225 long (omega arith) 130 577 (omega arith),
        lent-before w e 1380 225 long (omega arith) 707 641 (omega arith),
        lent-before w e 1380 225 long (omega arith) 1348 32 (omega arith),
      )

  -- ---- a table that now holds just the records of a list

  pub with-sessions : (list : List Session) → length e ≡ 33 → Holds session_array no_session (part w 0 33) e list
      → tables_of (lent w 0 33 e) ≡ with_sessions (tables_of w) list
  unfolding tables_of with_session_array with_sessions
  with-sessions list long h = tables-sessions long ∙ rw (h.array, h.count)

  pub with-trees : (list : List Tree) → length e ≡ 97 → Holds tree_array no_tree (part w 33 97) e list
      → tables_of (lent w 33 97 e) ≡ with_trees (tables_of w) list
  unfolding tables_of with_tree_array with_trees
  with-trees list long h = tables-trees long ∙ rw (h.array, h.count)

  pub with-opens : (list : List Open) → length e ≡ 577 → Holds open_array no_open (part w 130 577) e list
      → tables_of (lent w 130 577 e) ≡ with_opens (tables_of w) list
  unfolding tables_of with_open_array with_opens
  with-opens list long h = tables-opens long ∙ rw (h.array, h.count)

  pub with-locks : (list : List Lock) → length e ≡ 641 → Holds lock_array no_lock (part w 707 641) e list
      → tables_of (lent w 707 641 e) ≡ with_locks (tables_of w) list
  unfolding tables_of with_lock_array with_locks
  with-locks list long h = tables-locks long ∙ rw (h.array, h.count)

  -- ---- words in use that fit: those of the table changed, and the others as they were

  pub fit-sessions : length e ≡ 33 → in_use_fit w ≡ true → table_fits session_limits 16 e ≡ true → in_use_fit (lent w 0 33 e) ≡ true
  fit-sessions long fit here =
      let t = told_fit w fit in
      fit-told (lent w 0 33 e)
      (record {
        sessions-fit = ap (table_fits session_limits 16) (lent-here w e 0 33 long (omega arith)) ∙ here;
        trees-fit = ap (table_fits tree_limits 32) (lent-behind w e 0 33 long (omega arith) 33 97 (omega arith)) ∙ t.trees-fit;
        opens-fit = ap (table_fits open_limits 64) (lent-behind w e 0 33 long (omega arith) 130 577 (omega arith)) ∙ t.opens-fit;
        locks-fit = ap (table_fits lock_limits 128) (lent-behind w e 0 33 long (omega arith) 707 641 (omega arith)) ∙ t.locks-fit;
        names-fit = ap (table_fits name_limits 16) (lent-behind w e 0 33 long (omega arith) 1380 225 (omega arith)) ∙ t.names-fit;
      })

  pub fit-trees : length e ≡ 97 → in_use_fit w ≡ true → table_fits tree_limits 32 e ≡ true → in_use_fit (lent w 33 97 e) ≡ true
  fit-trees long fit here =
      let t = told_fit w fit in
      fit-told (lent w 33 97 e)
      (record {
        sessions-fit = ap (table_fits session_limits 16) (lent-before w e 33 97 long (omega arith) 0 33 (omega arith)) ∙ t.sessions-fit;
        trees-fit = ap (table_fits tree_limits 32) (lent-here w e 33 97 long (omega arith)) ∙ here;
        opens-fit = ap (table_fits open_limits 64) (lent-behind w e 33 97 long (omega arith) 130 577 (omega arith)) ∙ t.opens-fit;
        locks-fit = ap (table_fits lock_limits 128) (lent-behind w e 33 97 long (omega arith) 707 641 (omega arith)) ∙ t.locks-fit;
        names-fit = ap (table_fits name_limits 16) (lent-behind w e 33 97 long (omega arith) 1380 225 (omega arith)) ∙ t.names-fit;
      })

  pub fit-opens : length e ≡ 577 → in_use_fit w ≡ true → table_fits open_limits 64 e ≡ true → in_use_fit (lent w 130 577 e) ≡ true
  fit-opens long fit here =
      let t = told_fit w fit in
      fit-told (lent w 130 577 e)
      (record {
        sessions-fit = ap (table_fits session_limits 16) (lent-before w e 130 577 long (omega arith) 0 33 (omega arith)) ∙ t.sessions-fit;
        trees-fit = ap (table_fits tree_limits 32) (lent-before w e 130 577 long (omega arith) 33 97 (omega arith)) ∙ t.trees-fit;
        opens-fit = ap (table_fits open_limits 64) (lent-here w e 130 577 long (omega arith)) ∙ here;
        locks-fit = ap (table_fits lock_limits 128) (lent-behind w e 130 577 long (omega arith) 707 641 (omega arith)) ∙ t.locks-fit;
        names-fit = ap (table_fits name_limits 16) (lent-behind w e 130 577 long (omega arith) 1380 225 (omega arith)) ∙ t.names-fit;
      })

  pub fit-locks : length e ≡ 641 → in_use_fit w ≡ true → table_fits lock_limits 128 e ≡ true → in_use_fit (lent w 707 641 e) ≡ true
  fit-locks long fit here =
      let t = told_fit w fit in
      fit-told (lent w 707 641 e)
      (record {
        sessions-fit = ap (table_fits session_limits 16) (lent-before w e 707 641 long (omega arith) 0 33 (omega arith)) ∙ t.sessions-fit;
        trees-fit = ap (table_fits tree_limits 32) (lent-before w e 707 641 long (omega arith) 33 97 (omega arith)) ∙ t.trees-fit;
        opens-fit = ap (table_fits open_limits 64) (lent-before w e 707 641 long (omega arith) 130 577 (omega arith)) ∙ t.opens-fit;
        locks-fit = ap (table_fits lock_limits 128) (lent-here w e 707 641 long (omega arith)) ∙ here;
        names-fit = ap (table_fits name_limits 16) (lent-behind w e 707 641 long (omega arith) 1380 225 (omega arith)) ∙ t.names-fit;
      })

  -- the sizes and change numbers are any words
  pub fit-files : length e ≡ 32 → in_use_fit w ≡ true → in_use_fit (lent w 1348 32 e) ≡ true
  fit-files long fit =
      let t = told_fit w fit in
      fit-told (lent w 1348 32 e)
      (record {
        sessions-fit = ap (table_fits session_limits 16) (lent-before w e 1348 32 long (omega arith) 0 33 (omega arith)) ∙ t.sessions-fit;
        trees-fit = ap (table_fits tree_limits 32) (lent-before w e 1348 32 long (omega arith) 33 97 (omega arith)) ∙ t.trees-fit;
        opens-fit = ap (table_fits open_limits 64) (lent-before w e 1348 32 long (omega arith) 130 577 (omega arith)) ∙ t.opens-fit;
        locks-fit = ap (table_fits lock_limits 128) (lent-before w e 1348 32 long (omega arith) 707 641 (omega arith)) ∙ t.locks-fit;
        names-fit = ap (table_fits name_limits 16) (lent-behind w e 1348 32 long (omega arith) 1380 225 (omega arith)) ∙ t.names-fit;
      })

  pub fit-names : length e ≡ 225 → in_use_fit w ≡ true → table_fits name_limits 16 e ≡ true → in_use_fit (lent w 1380 225 e) ≡ true
  fit-names long fit here =
      let t = told_fit w fit in
      fit-told (lent w 1380 225 e)
      (record {
        sessions-fit = ap (table_fits session_limits 16) (lent-before w e 1380 225 long (omega arith) 0 33 (omega arith)) ∙ t.sessions-fit;
        trees-fit = ap (table_fits tree_limits 32) (lent-before w e 1380 225 long (omega arith) 33 97 (omega arith)) ∙ t.trees-fit;
        opens-fit = ap (table_fits open_limits 64) (lent-before w e 1380 225 long (omega arith) 130 577 (omega arith)) ∙ t.opens-fit;
        locks-fit = ap (table_fits lock_limits 128) (lent-before w e 1380 225 long (omega arith) 707 641 (omega arith)) ∙ t.locks-fit;
        names-fit = ap (table_fits name_limits 16) (lent-here w e 1380 225 long (omega arith)) ∙ here;
      })
