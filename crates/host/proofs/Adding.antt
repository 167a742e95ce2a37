-- The calls that add a record, test by test: which refusal a call meets, and what it is where it meets none.
-- Assumes nothing.
use mathlib.Core.Path.{◌≡◌, sym, ap, ◌∙◌}
use Prim.Native.Nat.{ℕ, ◌≤◌, ◌<◌}
use native.Mathlib.Omega.{arith}
use mathlib.Core.Bool.{Bool, true, false}
use mathlib.Core.List.{List, [], ◌∷◌, ◌++◌, map}
use lib.ListN.{length}
use borrow.Author.Tests.{lt-leb, le-leb, lt-ltb, le-ltb}
use Rattle.lists.specs.Walk.{any}
use Rattle.records.specs.Empty.{no_session, no_tree, no_open}
use Rattle.records.specs.declared.Session.{Session}
use Rattle.records.specs.declared.Tree.{Tree}
use Rattle.records.specs.declared.Open.{Open}
use Rattle.records.specs.declared.Tables.{Tables}
use Rattle.records.specs.Held.{sessions_of, trees_of, opens_of, with_sessions, with_trees, with_opens}
use Rattle.numbers.specs.Number.{contains, smallest_free}
use Rattle.numbers.specs.Column.{uid_of, tid_of, fid_of}
use Rattle.soundness.specs.Lookup.{is_tree}
use Rattle.soundness.specs.Sound.{sound, holds_open}
use Rattle.tables.specs.Words.{word, part, session_array, tree_array, open_array, session_limits, tree_limits, open_limits, tables_of, in_use_fit}
use Rattle.tables.specs.Written.{sessions_in, trees_in, opens_in}
use Rattle.tables.specs.PartLaws.{lent}
use Rattle.tables.specs.WholeLaws.{told_fit, with-sessions, with-trees, with-opens, fit-sessions, fit-trees, fit-opens}
use Rattle.host.specs.HostCall.{refused, done, add_session, new_session, add_tree, new_tree, add_open, new_open}
use Rattle.host.specs.OnWords.{Appended}
use Rattle.host.proofs.Leaving.{first_word}

-- ---- the counts, as code reads them

pub sessions-count : (w : List ℕ) → (tables_of w).nsessions ≡ word w 0
unfolding tables_of
sessions-count w = first_word w 0 33 (omega arith)

pub trees-count : (w : List ℕ) → (tables_of w).ntrees ≡ word w 33
unfolding tables_of
trees-count w = first_word w 33 97 (omega arith)

pub opens-count : (w : List ℕ) → (tables_of w).nopens ≡ word w 130
unfolding tables_of
opens-count w = first_word w 130 577 (omega arith)

-- ---- one record more in a part that was lent: the tables with it, and words in use that fit where they did

module _ (w e : List ℕ) (full : length w ≡ 1605) where
  pub sessions-appended : (x : Session) → length e ≡ 33 → Appended session_array session_limits 16 no_session (part w 0 33) e x
      → (tables_of (lent w 0 33 e) ≡ with_sessions (tables_of w) (sessions_of (tables_of w) ++ (x ∷ []))) × (in_use_fit w ≡ true → in_use_fit (lent w 0 33 e) ≡ true)
  unfolding tables_of
  sessions-appended x long a = (
    with-sessions w e full (sessions_in (part w 0 33) ++ (x ∷ [])) long a.holds,
    λ f. fit-sessions w e full long f (a.fit (told_fit w f).sessions-fit),
  )

  pub trees-appended : (x : Tree) → length e ≡ 97 → Appended tree_array tree_limits 32 no_tree (part w 33 97) e x
      → (tables_of (lent w 33 97 e) ≡ with_trees (tables_of w) (trees_of (tables_of w) ++ (x ∷ []))) × (in_use_fit w ≡ true → in_use_fit (lent w 33 97 e) ≡ true)
  unfolding tables_of
  trees-appended x long a = (
    with-trees w e full (trees_in (part w 33 97) ++ (x ∷ [])) long a.holds,
    λ f. fit-trees w e full long f (a.fit (told_fit w f).trees-fit),
  )

  pub opens-appended : (x : Open) → length e ≡ 577 → Appended open_array open_limits 64 no_open (part w 130 577) e x
      → (tables_of (lent w 130 577 e) ≡ with_opens (tables_of w) (opens_of (tables_of w) ++ (x ∷ []))) × (in_use_fit w ≡ true → in_use_fit (lent w 130 577 e) ≡ true)
  unfolding tables_of
  opens-appended x long a = (
    with-opens w e full (opens_in (part w 130 577) ++ (x ∷ [])) long a.holds,
    λ f. fit-opens w e full long f (a.fit (told_fit w f).opens-fit),
  )

-- ---- a session

module _ (t : Tables) (connection : ℕ) where
  pub session-unsound : sound t ≡ false → add_session t connection ≡ refused 4 t
  unfolding add_session
  session-unsound e = rw e

  module _ (ok : sound t ≡ true) where
    pub session-full : 16 ≤ t.nsessions → add_session t connection ≡ refused 5 t
    unfolding add_session
    session-full h = rw (ok, le-leb 16 t.nsessions h)

    pub session-added : (uid : ℕ) → t.nsessions < 16 → uid ≡ smallest_free (map uid_of (sessions_of t))
        → add_session t connection ≡ done uid (with_sessions t (sessions_of t ++ (record { uid = uid; connection = connection } ∷ [])))
    unfolding add_session new_session
    session-added uid h e = rw (ok, lt-leb 16 t.nsessions h, e)

-- ---- a tree

module _ (t : Tables) (uid right : ℕ) where
  pub tree-unsound : sound t ≡ false → add_tree t uid right ≡ refused 4 t
  unfolding add_tree
  tree-unsound e = rw e

  module _ (ok : sound t ≡ true) where
    pub tree-range : 1 < right → add_tree t uid right ≡ refused 7 t
    unfolding add_tree
    tree-range h = rw (ok, lt-ltb 1 right h)

    module _ (range : right ≤ 1) where
      pub tree-orphan : contains uid (map uid_of (sessions_of t)) ≡ false → add_tree t uid right ≡ refused 6 t
      unfolding add_tree
      tree-orphan e = rw (ok, le-ltb 1 right range, e)

      module _ (known : contains uid (map uid_of (sessions_of t)) ≡ true) where
        pub tree-full : 32 ≤ t.ntrees → add_tree t uid right ≡ refused 5 t
        unfolding add_tree
        tree-full h = rw (ok, le-ltb 1 right range, known, le-leb 32 t.ntrees h)

        pub tree-added : (tid : ℕ) → t.ntrees < 32 → tid ≡ smallest_free (map tid_of (trees_of t))
            → add_tree t uid right ≡ done tid (with_trees t (trees_of t ++ (record { tid = tid; uid = uid; right = right } ∷ [])))
        unfolding add_tree new_tree
        tree-added tid h e = rw (ok, le-ltb 1 right range, known, lt-leb 32 t.ntrees h, e)

-- ---- an open

module _ (t : Tables) (uid tid process file access : ℕ) where
  abbrev pub open_by : ℕ → Open
  open_by fid = record { fid = fid; uid = uid; tid = tid; process = process; file = file; access = access; sharing = 4; read = false; seen = 0 }

  pub open-unsound : sound t ≡ false → add_open t uid tid process file access ≡ refused 4 t
  unfolding add_open
  open-unsound e = rw e

  module _ (ok : sound t ≡ true) where
    pub open-file : 15 < file → add_open t uid tid process file access ≡ refused 7 t
    unfolding add_open
    open-file h = rw (ok, lt-ltb 15 file h)

    pub open-access : file ≤ 15 → 2 < access → add_open t uid tid process file access ≡ refused 7 t
    unfolding add_open
    open-access f h = rw (ok, le-ltb 15 file f, lt-ltb 2 access h)

    module _ (listed : file ≤ 15) (range : access ≤ 2) where
      pub open-orphan : any (is_tree tid uid) (trees_of t) ≡ false → add_open t uid tid process file access ≡ refused 6 t
      unfolding add_open
      open-orphan e = rw (ok, le-ltb 15 file listed, le-ltb 2 access range, e)

      module _ (known : any (is_tree tid uid) (trees_of t) ≡ true) (fid : ℕ) (free : fid ≡ smallest_free (map fid_of (opens_of t))) where
        at-free : (b : Bool) → any (holds_open (open_by fid)) (trees_of t) ≡ b → any (holds_open (new_open t uid tid process file access)) (trees_of t) ≡ b
        unfolding new_open
        at-free b e = ap (λ (k : ℕ). any (holds_open (open_by k)) (trees_of t)) (sym free) ∙ e

        pub open-exceeds : any (holds_open (open_by fid)) (trees_of t) ≡ false → add_open t uid tid process file access ≡ refused 8 t
        unfolding add_open
        open-exceeds e = rw (ok, le-ltb 15 file listed, le-ltb 2 access range, known, at-free false e)

        module _ (held : any (holds_open (open_by fid)) (trees_of t) ≡ true) where
          pub open_full : 64 ≤ t.nopens → add_open t uid tid process file access ≡ refused 5 t
          unfolding add_open
          open_full h = rw (ok, le-ltb 15 file listed, le-ltb 2 access range, known, at-free true held, le-leb 64 t.nopens h)

          given : done (new_open t uid tid process file access).fid (with_opens t (opens_of t ++ (new_open t uid tid process file access ∷ [])))
              ≡ done fid (with_opens t (opens_of t ++ (open_by fid ∷ [])))
          unfolding new_open
          given = ap (λ (k : ℕ). done k (with_opens t (opens_of t ++ (open_by k ∷ [])))) (sym free)

          pub open-added : t.nopens < 64 → add_open t uid tid process file access ≡ done fid (with_opens t (opens_of t ++ (open_by fid ∷ [])))
          unfolding add_open
          open-added h =
              rw (ok, le-ltb 15 file listed, le-ltb 2 access range, known, at-free true held, lt-leb 64 t.nopens h) given
