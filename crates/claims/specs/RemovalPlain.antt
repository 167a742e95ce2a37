-- What is left of sound tables after each removal, in plain words (document 01, "Locks, reads and writes", last paragraph:
-- "CLOSE removes the open and its locks. TREE_DISCONNECT removes the tree and its opens, LOGOFF the session and its trees,
-- PROCESS_EXIT the opens of that UID and process, each with what hangs on them"); the files stand as before. Assumes nothing.
use Rattle.std.specs.Prelude.{◌≡◌, refl, Bool, true, false, ◌&&◌, ℕ, eqb}
use Rattle.std.proofs.Common.{sym, ◌∙◌}
use Rattle.std.proofs.Math.Path.{ap}
use Rattle.std.proofs.Math.Bool.{not, and-true}
use mathlib.Core.List.{List, map, Memᴰ as In}
use Rattle.lists.specs.Walk.{any, keep}
use Rattle.lists.specs.Truth.{same_truth}
use Rattle.lists.specs.Members.{all-each, any-one, kept-was, was-kept, keep_same}
use Rattle.records.specs.declared.Session.{Session}
use Rattle.records.specs.declared.Tree.{Tree}
use Rattle.records.specs.declared.Open.{Open}
use Rattle.records.specs.declared.Tables.{Tables}
use Rattle.records.specs.Held.{sessions_of, trees_of, opens_of, locks_of, with_sessions, with_trees, with_opens, with_locks}
use Rattle.numbers.specs.Number.{contains}
use Rattle.numbers.specs.Column.{uid_of, tid_of, fid_of}
use Rattle.soundness.specs.Sound.{holds_open, open_ok}
use Rattle.removal.specs.Removal.{session_named, tree_named, open_named, tree_stays, open_stays, lock_stays, sweep_sessions, sweep_trees, sweep_opens, sweep_locks, remove}
use Rattle.removal.specs.declared.Gone.{Gone}
use Rattle.invariants.specs.Numbered.{named-one, one-named, numbered-same}
use Rattle.invariants.specs.SoundParts.{Sound}
use Rattle.invariants.specs.RuleLaws.{holds-says, open-says}
use Rattle.invariants.specs.RemovalSound.{sessions_left, trees_left, opens_left, locks_left, remove-left, left-sessions, left-trees, left-opens, left-locks}
use Rattle.claims.specs.NothingNamed.{session-exists, tree-exists, all-sessions-left, all-trees-left}

-- ---- the records that the tables hold after a removal

module _ (gone : Gone) (t : Tables) where
  pub after-sessions : sessions_of (remove gone t) ≡ sessions_left gone t
  after-sessions = rw (remove-left gone t) (left-sessions gone t)

  pub after-trees : trees_of (remove gone t) ≡ trees_left gone t
  after-trees = rw (remove-left gone t) (left-trees gone t)

  pub after-opens : opens_of (remove gone t) ≡ opens_left gone t
  after-opens = rw (remove-left gone t) (left-opens gone t)

  pub after-locks : locks_of (remove gone t) ≡ locks_left gone t
  after-locks = rw (remove-left gone t) (left-locks gone t)

-- a number that was in use is in use among the records kept by number, if its number is kept
pub contains-kept : {A : Type 0} (f : A → ℕ) (p : ℕ → Bool) (xs : List A) (k : ℕ) → contains k (map f xs) ≡ true
    → contains k (map f (keep (λ x. p (f x)) xs)) ≡ p k
contains-kept f p xs k e =
    same_truth (contains k (map f (keep (λ x. p (f x)) xs))) (p k)
    (λ h. let r = named-one f k (keep (λ x. p (f x)) xs) h in ap p (sym r.2) ∙ (kept-was (λ x. p (f x)) xs r.1).1)
    (λ h. let r = named-one f k xs e in one-named f k (was-kept (λ x. p (f x)) r.1 (ap p r.2 ∙ h)) r.2)

module _ (t : Tables) (s : Sound t) where
  -- an open's tree is kept by its UID just if the open's UID is kept
  pub open-follows : (p : ℕ → Bool) (o : Open) → In o (opens_of t) → contains o.tid (map tid_of (keep (λ r. p r.uid) (trees_of t))) ≡ p o.uid
  open-follows p o m =
      same_truth (contains o.tid (map tid_of (keep (λ r. p r.uid) (trees_of t)))) (p o.uid) forth back
    where
      holder : (r : Tree) × In r (trees_of t) × (holds_open o r ≡ true)
      holder = any-one (holds_open o) (trees_of t) (open-says (trees_of t) o (all-each (open_ok (trees_of t)) m s.records.opens_ok)).held

      forth : contains o.tid (map tid_of (keep (λ r. p r.uid) (trees_of t))) ≡ true → p o.uid ≡ true
      forth h =
          let held = holds-says o holder.0 holder.2 in
          let stays = named-one tid_of o.tid (keep (λ r. p r.uid) (trees_of t)) h in
          let was = kept-was (λ r. p r.uid) (trees_of t) stays.1 in
          let same : holder.0 ≡ stays.0 = numbered-same tid_of 32 (trees_of t) s.records.tids holder.1 was.0 (held.tid ∙ sym stays.2) in
          ap p (sym held.uid) ∙ ap (λ (r : Tree). p r.uid) same ∙ was.1

      back : p o.uid ≡ true → contains o.tid (map tid_of (keep (λ r. p r.uid) (trees_of t))) ≡ true
      back h =
          let held = holds-says o holder.0 holder.2 in
          one-named tid_of o.tid (was-kept (λ r. p r.uid) holder.1 (ap p held.uid ∙ h)) held.tid

  module _ (gone : Gone) (a : any (session_named gone) (sessions_of t) ≡ false) where
    -- no session named: the trees that are not named stay
    pub trees-not-named : trees_left gone t ≡ keep (λ r. not (tree_named gone r)) (trees_of t)
    unfolding tree_stays
    trees-not-named =
        ap (λ (l : List Session). keep (tree_stays gone (map uid_of l)) (trees_of t)) (all-sessions-left t s gone a)
        ∙ keep_same (tree_stays gone (map uid_of (sessions_of t))) (λ r. not (tree_named gone r)) (trees_of t)
        (λ r m. ap (λ (b : Bool). not (tree_named gone r) && b) (session-exists t s r m) ∙ and-true (not (tree_named gone r)))

    -- no tree named either: the opens that are not named stay
    pub opens-not-named : any (tree_named gone) (trees_of t) ≡ false → opens_left gone t ≡ keep (λ o. not (open_named gone o)) (opens_of t)
    unfolding open_stays
    opens-not-named b =
        ap (λ (l : List Tree). keep (open_stays gone (map tid_of l)) (opens_of t)) (all-trees-left t s gone a b)
        ∙ keep_same (open_stays gone (map tid_of (trees_of t))) (λ o. not (open_named gone o)) (opens_of t)
        (λ o m. ap (λ (b : Bool). not (open_named gone o) && b) (tree-exists t s o m) ∙ and-true (not (open_named gone o)))

-- ---- the plain words

-- a lock stays just if its open does
abbrev pub LocksOfOpens : Tables → Tables → Type 0
LocksOfOpens t after = locks_of after ≡ keep (λ l. contains l.fid (map fid_of (opens_of after))) (locks_of t)

-- no file's size is touched
abbrev pub FilesStand : Tables → Tables → Type 0
FilesStand t after = after.files ≡ t.files

-- nor is the catalogue: its count and its names, in use or not
abbrev pub CatalogueStands : Tables → Tables → Type 0
CatalogueStands t after = (after.nnames ≡ t.nnames) × (after.names ≡ t.names)

-- "each with what hangs on them": the locks
pub locks-follow : (gone : Gone) (t : Tables) → LocksOfOpens t (remove gone t)
unfolding lock_stays
locks-follow gone t = after-locks gone t ∙ ap (λ (l : List Open). keep (lock_stays (map fid_of l)) (locks_of t)) (sym (after-opens gone t))

-- and the files stay
pub files-stand : (gone : Gone) (t : Tables) → FilesStand t (remove gone t)
unfolding remove sweep_sessions sweep_trees sweep_opens sweep_locks with_sessions with_trees with_opens with_locks
files-stand gone t = refl

pub catalogue-stands : (gone : Gone) (t : Tables) → CatalogueStands t (remove gone t)
unfolding remove sweep_sessions sweep_trees sweep_opens sweep_locks with_sessions with_trees with_opens with_locks
catalogue-stands gone t = (refl, refl)

-- the open and the locks of its FID are gone
pub record Closed (fid : ℕ) (t after : Tables) : Type 0 where
  pub sessions : sessions_of after ≡ sessions_of t
  pub trees : trees_of after ≡ trees_of t
  pub opens : opens_of after ≡ keep (λ o. not (eqb o.fid fid)) (opens_of t)
  pub locks : locks_of after ≡ keep (λ l. not (eqb l.fid fid)) (locks_of t)
  pub files : FilesStand t after
  pub catalogue : CatalogueStands t after

-- the tree, its opens and their locks are gone
pub record Disconnected (tid : ℕ) (t after : Tables) : Type 0 where
  pub sessions : sessions_of after ≡ sessions_of t
  pub trees : trees_of after ≡ keep (λ r. not (eqb r.tid tid)) (trees_of t)
  pub opens : opens_of after ≡ keep (λ o. not (eqb o.tid tid)) (opens_of t)
  pub locks : LocksOfOpens t after
  pub files : FilesStand t after
  pub catalogue : CatalogueStands t after

-- the session, its trees, its opens and their locks are gone
pub record LoggedOff (uid : ℕ) (t after : Tables) : Type 0 where
  pub sessions : sessions_of after ≡ keep (λ u. not (eqb u.uid uid)) (sessions_of t)
  pub trees : trees_of after ≡ keep (λ r. not (eqb r.uid uid)) (trees_of t)
  pub opens : opens_of after ≡ keep (λ o. not (eqb o.uid uid)) (opens_of t)
  pub locks : LocksOfOpens t after
  pub files : FilesStand t after
  pub catalogue : CatalogueStands t after

-- the opens of that UID and process and their locks are gone
pub record Exited (uid process : ℕ) (t after : Tables) : Type 0 where
  pub sessions : sessions_of after ≡ sessions_of t
  pub trees : trees_of after ≡ trees_of t
  pub opens : opens_of after ≡ keep (λ o. not (eqb o.uid uid && eqb o.process process)) (opens_of t)
  pub locks : LocksOfOpens t after
  pub files : FilesStand t after
  pub catalogue : CatalogueStands t after

-- the sessions of the connection are gone, and trees, opens and locks of sessions that are gone
pub record ConnectionGone (connection : ℕ) (t after : Tables) : Type 0 where
  pub sessions : sessions_of after ≡ keep (λ u. not (eqb u.connection connection)) (sessions_of t)
  pub trees : trees_of after ≡ keep (λ r. contains r.uid (map uid_of (sessions_of after))) (trees_of t)
  pub opens : opens_of after ≡ keep (λ o. contains o.uid (map uid_of (sessions_of after))) (opens_of t)
  pub locks : LocksOfOpens t after
  pub files : FilesStand t after
  pub catalogue : CatalogueStands t after
