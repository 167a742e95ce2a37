-- Of specs/RemovalPlain.antt: what rests on its other theorems. Assumes nothing.
use Rattle.std.specs.Prelude.{◌≡◌, refl, true, ℕ, eqb}
use Rattle.std.proofs.Common.{sym, ◌∙◌}
use Rattle.std.proofs.Math.Path.{ap}
use Rattle.std.proofs.Math.Bool.{not}
use mathlib.Core.List.{List, map}
use Rattle.lists.specs.Walk.{keep}
use Rattle.lists.specs.Members.{keep_same}
use Rattle.records.specs.declared.Session.{Session}
use Rattle.records.specs.declared.Tree.{Tree}
use Rattle.records.specs.declared.Open.{Open}
use Rattle.records.specs.declared.Tables.{Tables}
use Rattle.records.specs.Held.{sessions_of, trees_of, opens_of, locks_of}
use Rattle.numbers.specs.Number.{contains}
use Rattle.numbers.specs.Column.{uid_of, tid_of, fid_of}
use Rattle.soundness.specs.Sound.{sound}
use Rattle.removal.specs.Removal.{session_named, tree_named, open_named, session_stays, tree_stays, open_stays, lock_stays, remove}
use Rattle.removal.specs.declared.Gone.TheVariants.{Connection, Session as UserGone, Tree as TreeGone, Open as OpenGone, Process}
use Rattle.invariants.specs.SoundParts.{sound-says}
use Rattle.invariants.specs.RemovalSound.{sessions_left, trees_left, opens_left}
use Rattle.claims.specs.NothingNamed.{session-exists, tree-exists, open-exists, all-sessions-left, all-trees-left, none-false}
use Rattle.claims.specs.RemovalPlain.{Closed, ConnectionGone, Disconnected, Exited, LoggedOff, after-locks, after-opens, after-sessions, after-trees, catalogue-stands, contains-kept, files-stand, locks-follow, open-follows, opens-not-named, trees-not-named}

module _ (t : Tables) (e : sound t ≡ true) where
  -- "CLOSE removes the open and its locks"
  pub close-plain : (fid : ℕ) → Closed fid t (remove (OpenGone fid) t)
  unfolding session_named tree_named open_named lock_stays
  close-plain fid =
      let s = sound-says t e in
      let a = none-false (sessions_of t) in
      let b = none-false (trees_of t) in
      let o : opens_left (OpenGone fid) t ≡ keep (λ o. not (eqb o.fid fid)) (opens_of t) = opens-not-named t s (OpenGone fid) a b in
      record {
        sessions = after-sessions (OpenGone fid) t ∙ all-sessions-left t s (OpenGone fid) a;
        trees = after-trees (OpenGone fid) t ∙ all-trees-left t s (OpenGone fid) a b;
        opens = after-opens (OpenGone fid) t ∙ o;
        locks =
            after-locks (OpenGone fid) t
            ∙ ap (λ (l : List Open). keep (lock_stays (map fid_of l)) (locks_of t)) o
            ∙ keep_same (lock_stays (map fid_of (keep (λ o. not (eqb o.fid fid)) (opens_of t)))) (λ l. not (eqb l.fid fid)) (locks_of t)
            (λ l m. contains-kept fid_of (λ k. not (eqb k fid)) (opens_of t) l.fid (open-exists t s l m));
        files = files-stand (OpenGone fid) t;
        catalogue = catalogue-stands (OpenGone fid) t;
      }

  -- "TREE_DISCONNECT removes the tree and its opens"
  pub disconnect-plain : (tid : ℕ) → Disconnected tid t (remove (TreeGone tid) t)
  unfolding session_named tree_named open_named open_stays
  disconnect-plain tid =
      let s = sound-says t e in
      let a = none-false (sessions_of t) in
      let r : trees_left (TreeGone tid) t ≡ keep (λ r. not (eqb r.tid tid)) (trees_of t) = trees-not-named t s (TreeGone tid) a in
      record {
        sessions = after-sessions (TreeGone tid) t ∙ all-sessions-left t s (TreeGone tid) a;
        trees = after-trees (TreeGone tid) t ∙ r;
        opens =
            after-opens (TreeGone tid) t
            ∙ ap (λ (l : List Tree). keep (open_stays (TreeGone tid) (map tid_of l)) (opens_of t)) r
            ∙ keep_same (open_stays (TreeGone tid) (map tid_of (keep (λ r. not (eqb r.tid tid)) (trees_of t)))) (λ o. not (eqb o.tid tid)) (opens_of t)
            (λ o m. contains-kept tid_of (λ k. not (eqb k tid)) (trees_of t) o.tid (tree-exists t s o m));
        locks = locks-follow (TreeGone tid) t;
        files = files-stand (TreeGone tid) t;
        catalogue = catalogue-stands (TreeGone tid) t;
      }

  -- "LOGOFF the session and its trees", and their opens
  pub logoff-plain : (uid : ℕ) → LoggedOff uid t (remove (UserGone uid) t)
  unfolding session_named tree_named open_named session_stays tree_stays open_stays
  logoff-plain uid =
      let s = sound-says t e in
      let u : sessions_left (UserGone uid) t ≡ keep (λ u. not (eqb u.uid uid)) (sessions_of t) =
      keep_same (session_stays (UserGone uid)) (λ u. not (eqb u.uid uid)) (sessions_of t) (λ x m. refl) in
      let r : trees_left (UserGone uid) t ≡ keep (λ r. not (eqb r.uid uid)) (trees_of t) =
      ap (λ (l : List Session). keep (tree_stays (UserGone uid) (map uid_of l)) (trees_of t)) u
      ∙ keep_same (tree_stays (UserGone uid) (map uid_of (keep (λ u. not (eqb u.uid uid)) (sessions_of t)))) (λ r. not (eqb r.uid uid)) (trees_of t)
      (λ r m. contains-kept uid_of (λ k. not (eqb k uid)) (sessions_of t) r.uid (session-exists t s r m)) in
      record {
        sessions = after-sessions (UserGone uid) t ∙ u;
        trees = after-trees (UserGone uid) t ∙ r;
        opens =
            after-opens (UserGone uid) t
            ∙ ap (λ (l : List Tree). keep (open_stays (UserGone uid) (map tid_of l)) (opens_of t)) r
            ∙ keep_same (open_stays (UserGone uid) (map tid_of (keep (λ r. not (eqb r.uid uid)) (trees_of t)))) (λ o. not (eqb o.uid uid)) (opens_of t)
            (λ o m. open-follows t s (λ k. not (eqb k uid)) o m);
        locks = locks-follow (UserGone uid) t;
        files = files-stand (UserGone uid) t;
        catalogue = catalogue-stands (UserGone uid) t;
      }

  -- "PROCESS_EXIT the opens of that UID and process"
  pub exit_plain : (uid process : ℕ) → Exited uid process t (remove (Process uid process) t)
  unfolding session_named tree_named open_named
  exit_plain uid process =
      let s = sound-says t e in
      let a = none-false (sessions_of t) in
      let b = none-false (trees_of t) in
      record {
        sessions = after-sessions (Process uid process) t ∙ all-sessions-left t s (Process uid process) a;
        trees = after-trees (Process uid process) t ∙ all-trees-left t s (Process uid process) a b;
        opens = after-opens (Process uid process) t ∙ opens-not-named t s (Process uid process) a b;
        locks = locks-follow (Process uid process) t;
        files = files-stand (Process uid process) t;
        catalogue = catalogue-stands (Process uid process) t;
      }

  -- "drop a connection": its sessions, and the trees and opens of those
  pub drop-plain : (connection : ℕ) → ConnectionGone connection t (remove (Connection connection) t)
  unfolding session_named tree_named open_named session_stays tree_stays open_stays
  drop-plain c =
      let s = sound-says t e in
      let u : sessions_of (remove (Connection c) t) ≡ sessions_left (Connection c) t = after-sessions (Connection c) t in
      let r : trees_left (Connection c) t ≡ keep (λ r. contains r.uid (map uid_of (sessions_left (Connection c) t))) (trees_of t) =
      keep_same (tree_stays (Connection c) (map uid_of (sessions_left (Connection c) t)))
      (λ r. contains r.uid (map uid_of (sessions_left (Connection c) t))) (trees_of t) (λ r m. refl) in
      record {
        sessions = u ∙ keep_same (session_stays (Connection c)) (λ x. not (eqb x.connection c)) (sessions_of t) (λ x m. refl);
        trees = after-trees (Connection c) t ∙ r ∙ ap (λ (l : List Session). keep (λ r. contains r.uid (map uid_of l)) (trees_of t)) (sym u);
        opens =
            after-opens (Connection c) t
            ∙ ap (λ (l : List Tree). keep (open_stays (Connection c) (map tid_of l)) (opens_of t)) r
            ∙ keep_same
            (open_stays (Connection c) (map tid_of (keep (λ r. contains r.uid (map uid_of (sessions_left (Connection c) t))) (trees_of t))))
            (λ o. contains o.uid (map uid_of (sessions_left (Connection c) t))) (opens_of t)
            (λ o m. open-follows t s (λ k. contains k (map uid_of (sessions_left (Connection c) t))) o m)
            ∙ ap (λ (l : List Session). keep (λ o. contains o.uid (map uid_of l)) (opens_of t)) (sym u);
        locks = locks-follow (Connection c) t;
        files = files-stand (Connection c) t;
        catalogue = catalogue-stands (Connection c) t;
      }
