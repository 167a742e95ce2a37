-- A removal that names no record of sound tables changes nothing (document 01, "What a call returns": "Dropping an unknown
-- connection is 0 and changes nothing"). Assumes nothing.
use Rattle.std.specs.Prelude.{◌≡◌, true, false, not, ℕ, ◌≤◌, length, eqb}
use Rattle.std.proofs.Common.{ap, ◌∙◌, arith}
use Rattle.std.proofs.lemmas.Bool.{false≢true}
use mathlib.Core.List.{List, map, Memᴰ as In}
use Rattle.std.proofs.Math.Seq.{length-take-le}
use Rattle.lists.specs.Walk.{any, all, keep}
use Rattle.lists.specs.RoomLaws.{stored-held}
use Rattle.records.specs.Empty.{no_session, no_tree, no_open, no_lock}
use Rattle.records.specs.declared.Session.{Session}
use Rattle.records.specs.declared.Tree.{Tree}
use Rattle.records.specs.declared.Open.{Open}
use Rattle.records.specs.declared.Lock.{Lock}
use Rattle.records.specs.declared.Tables.{Tables}
use Rattle.records.specs.Held.{sessions_of, trees_of, opens_of, locks_of, with_sessions, with_trees, with_opens, with_locks}
use Rattle.numbers.specs.Number.{contains}
use Rattle.numbers.specs.Column.{uid_of, tid_of, fid_of}
use Rattle.soundness.specs.Sound.{sound, tree_ok, holds_open, open_ok, lock_ok}
use Rattle.removal.specs.Removal.{session_named, tree_named, open_named, session_stays, tree_stays, open_stays, lock_stays, remove}
use Rattle.host.specs.HostCall.{done, drop_connection}
use Rattle.removal.specs.declared.Gone.{Gone}
use Rattle.removal.specs.declared.Gone.TheVariants.{Connection}
use Rattle.lists.specs.Truth.{hold-both, not-holds, fails}
use Rattle.lists.specs.Members.{all-each, each_all, none_each, any-one, keep_all}
use Rattle.invariants.specs.Numbered.{one-named}
use Rattle.soundness.specs.SoundLaws.{Room}
use Rattle.invariants.specs.SoundParts.{Sound, sound-says}
use Rattle.invariants.specs.RuleLaws.{tree-says, holds-says, open-says, lock-says}
use Rattle.invariants.specs.Shaped.{Shaped}
use Rattle.invariants.specs.RemovalSound.{sessions_left, trees_left, opens_left, locks_left, left, remove-left}

-- ---- tables with the list that they hold are the same

module _ (t : Tables) where
  with-same-sessions : t.nsessions ≤ length t.sessions → with_sessions t (sessions_of t) ≡ t
  unfolding with_sessions
  with-same-sessions h = rw (stored-held no_session t.sessions t.nsessions h, length-take-le t.nsessions t.sessions h)

  with-same-trees : t.ntrees ≤ length t.trees → with_trees t (trees_of t) ≡ t
  unfolding with_trees
  with-same-trees h = rw (stored-held no_tree t.trees t.ntrees h, length-take-le t.ntrees t.trees h)

  with-same-opens : t.nopens ≤ length t.opens → with_opens t (opens_of t) ≡ t
  unfolding with_opens
  with-same-opens h = rw (stored-held no_open t.opens t.nopens h, length-take-le t.nopens t.opens h)

  with-same-locks : t.nlocks ≤ length t.locks → with_locks t (locks_of t) ≡ t
  unfolding with_locks
  with-same-locks h = rw (stored-held no_lock t.locks t.nlocks h, length-take-le t.nlocks t.locks h)

-- ---- on sound tables, where nothing is named, everything stays

-- no session, tree or open is named
pub record NothingNamed (gone : Gone) (t : Tables) : Type 0 where
  pub no-session : any (session_named gone) (sessions_of t) ≡ false
  pub no-tree : any (tree_named gone) (trees_of t) ≡ false
  pub no-open : any (open_named gone) (opens_of t) ≡ false

module _ (t : Tables) (s : Sound t) where
  -- a tree's session exists
  pub session-exists : (r : Tree) → In r (trees_of t) → contains r.uid (map uid_of (sessions_of t)) ≡ true
  session-exists r m = (tree-says (map uid_of (sessions_of t)) r (all-each (tree_ok (map uid_of (sessions_of t))) m s.records.trees_ok)).session

  -- an open's tree exists
  pub tree-exists : (o : Open) → In o (opens_of t) → contains o.tid (map tid_of (trees_of t)) ≡ true
  tree-exists o m =
      let ok = open-says (trees_of t) o (all-each (open_ok (trees_of t)) m s.records.opens_ok) in
      let r = any-one (holds_open o) (trees_of t) ok.held in
      one-named tid_of o.tid r.1 (holds-says o r.0 r.2).tid

  -- a lock's open exists
  pub open-exists : (l : Lock) → In l (locks_of t) → contains l.fid (map fid_of (opens_of t)) ≡ true
  open-exists l m = (lock-says (map fid_of (opens_of t)) l (all-each (lock_ok (map fid_of (opens_of t))) m s.locks.owned)).owner

  module _ (gone : Gone) (a : any (session_named gone) (sessions_of t) ≡ false) where
    sessions-stay : all (session_stays gone) (sessions_of t) ≡ true
    unfolding session_stays
    sessions-stay =
        each_all (session_stays gone) (sessions_of t) (λ r m. not-holds (session_named gone r) (none_each (session_named gone) m a))

    pub all-sessions-left : sessions_left gone t ≡ sessions_of t
    all-sessions-left = keep_all (session_stays gone) (sessions_of t) sessions-stay

    module _ (b : any (tree_named gone) (trees_of t) ≡ false) where
      trees-stay : all (tree_stays gone (map uid_of (sessions_of t))) (trees_of t) ≡ true
      unfolding tree_stays
      trees-stay =
          each_all (tree_stays gone (map uid_of (sessions_of t))) (trees_of t)
          (λ r m. hold-both (not (tree_named gone r)) (contains r.uid (map uid_of (sessions_of t)))
          (not-holds (tree_named gone r) (none_each (tree_named gone) m b)) (session-exists r m))

      pub all-trees-left : trees_left gone t ≡ trees_of t
      all-trees-left =
          ap (λ (l : List Session). keep (tree_stays gone (map uid_of l)) (trees_of t)) all-sessions-left
          ∙ keep_all (tree_stays gone (map uid_of (sessions_of t))) (trees_of t) trees-stay

      module _ (c : any (open_named gone) (opens_of t) ≡ false) where
        opens-stay : all (open_stays gone (map tid_of (trees_of t))) (opens_of t) ≡ true
        unfolding open_stays
        opens-stay =
            each_all (open_stays gone (map tid_of (trees_of t))) (opens_of t)
            (λ o m. hold-both (not (open_named gone o)) (contains o.tid (map tid_of (trees_of t)))
            (not-holds (open_named gone o) (none_each (open_named gone) m c)) (tree-exists o m))

        all-opens-left : opens_left gone t ≡ opens_of t
        all-opens-left =
            ap (λ (l : List Tree). keep (open_stays gone (map tid_of l)) (opens_of t)) all-trees-left
            ∙ keep_all (open_stays gone (map tid_of (trees_of t))) (opens_of t) opens-stay

        locks-stay : all (lock_stays (map fid_of (opens_of t))) (locks_of t) ≡ true
        unfolding lock_stays
        locks-stay = each_all (lock_stays (map fid_of (opens_of t))) (locks_of t) open-exists

        all-locks-left : locks_left gone t ≡ locks_of t
        all-locks-left =
            ap (λ (l : List Open). keep (lock_stays (map fid_of l)) (locks_of t)) all-opens-left
            ∙ keep_all (lock_stays (map fid_of (opens_of t))) (locks_of t) locks-stay

-- the tables with all four of their own lists are the same
with-same : (t : Tables) → Shaped t → Room t.nsessions t.ntrees t.nopens t.nlocks
    → with_locks (with_opens (with_trees (with_sessions t (sessions_of t)) (trees_of t)) (opens_of t)) (locks_of t) ≡ t
with-same t s r =
    let a : with_sessions t (sessions_of t) ≡ t = with-same-sessions t (omega arith) in
    let b : with_trees t (trees_of t) ≡ t = with-same-trees t (omega arith) in
    let c : with_opens t (opens_of t) ≡ t = with-same-opens t (omega arith) in
    let d : with_locks t (locks_of t) ≡ t = with-same-locks t (omega arith) in
    ap (λ (u : Tables). with_locks (with_opens (with_trees u (trees_of t)) (opens_of t)) (locks_of t)) a
    ∙ ap (λ (u : Tables). with_locks (with_opens u (opens_of t)) (locks_of t)) b
    ∙ ap (λ (u : Tables). with_locks u (locks_of t)) c
    ∙ d

-- a removal that names nothing changes nothing
pub remove-nothing : (gone : Gone) (t : Tables) → Shaped t → sound t ≡ true → NothingNamed gone t → remove gone t ≡ t
unfolding left
remove-nothing gone t shaped e n =
    let s = sound-says t e in
    remove-left gone t
    ∙ ap (λ (l : List Session). with_locks (with_opens (with_trees (with_sessions t l) (trees_left gone t)) (opens_left gone t)) (locks_left gone t)) (all-sessions-left t s gone n.no-session)
    ∙ ap (λ (l : List Tree). with_locks (with_opens (with_trees (with_sessions t (sessions_of t)) l) (opens_left gone t)) (locks_left gone t)) (all-trees-left t s gone n.no-session n.no-tree)
    ∙ ap (λ (l : List Open). with_locks (with_opens (with_trees (with_sessions t (sessions_of t)) (trees_of t)) l) (locks_left gone t)) (all-opens-left t s gone n.no-session n.no-tree n.no-open)
    ∙ ap (λ (l : List Lock). with_locks (with_opens (with_trees (with_sessions t (sessions_of t)) (trees_of t)) (opens_of t)) l) (all-locks-left t s gone n.no-session n.no-tree n.no-open)
    ∙ with-same t shaped s.room

-- ---- dropping an unknown connection

-- a test that never holds
pub none-false : {A : Type 0} (xs : List A) → any (λ (x : A). false) xs ≡ false
none-false xs = fails (any (λ x. false) xs) (λ e. false≢true (any-one (λ x. false) xs e).2)

-- "Dropping an unknown connection is 0 and changes nothing"
pub drop-unknown : (t : Tables) (connection : ℕ) → Shaped t → sound t ≡ true → any (λ s. eqb s.connection connection) (sessions_of t) ≡ false
    → drop_connection t connection ≡ done 0 t
unfolding drop_connection session_named tree_named open_named
drop-unknown t c shaped e n = rw e (ap (done 0) (remove-nothing (Connection c) t shaped e (record { no-session = n; no-tree = none-false (trees_of t); no-open = none-false (opens_of t) })))
