-- Removal (document 01, "Locks, reads and writes", last paragraph; "drop a connection"): the records that are named go, each
-- with what hangs on it. One filter and one sweep serve every removal. Assumes nothing.
use Rattle.std.specs.Prelude.{ℕ, Bool, false, not, ◌&&◌, List, map, eqb}
use Rattle.lists.specs.Walk.{keep}
use Rattle.records.specs.declared.Session.{Session}
use Rattle.records.specs.declared.Tree.{Tree}
use Rattle.records.specs.declared.Open.{Open}
use Rattle.records.specs.declared.Lock.{Lock}
use Rattle.records.specs.declared.Tables.{Tables}
use Rattle.records.specs.Held.{sessions_of, trees_of, opens_of, locks_of, with_sessions, with_trees, with_opens, with_locks}
use Rattle.numbers.specs.Number.{contains}
use Rattle.numbers.specs.Column.{uid_of, tid_of, fid_of}
use Rattle.removal.specs.declared.Gone.{Gone}
use Rattle.removal.specs.declared.Gone.TheVariants.{Connection, Session as UserGone, Tree as TreeGone, Open as OpenGone, Process}

-- the session is named: by its connection, or by its UID (LOGOFF)
unfoldable pub session_named : Gone → Session → Bool
session_named (Connection c) s = eqb s.connection c
session_named (UserGone uid) s = eqb s.uid uid
session_named (TreeGone tid) s = false
session_named (OpenGone fid) s = false
session_named (Process uid process) s = false

-- the tree is named (TREE_DISCONNECT)
unfoldable pub tree_named : Gone → Tree → Bool
tree_named (Connection c) t = false
tree_named (UserGone uid) t = false
tree_named (TreeGone tid) t = eqb t.tid tid
tree_named (OpenGone fid) t = false
tree_named (Process uid process) t = false

-- the open is named: by its FID (CLOSE), or by its UID and process (PROCESS_EXIT)
unfoldable pub open_named : Gone → Open → Bool
open_named (Connection c) o = false
open_named (UserGone uid) o = false
open_named (TreeGone tid) o = false
open_named (OpenGone fid) o = eqb o.fid fid
open_named (Process uid process) o = eqb o.uid uid && eqb o.process process

-- what stays: a session that is not named; a tree that is not named and whose session stays; an open that is not named
-- and whose tree stays; a lock whose open stays
unfoldable pub session_stays : Gone → Session → Bool
session_stays gone s = not (session_named gone s)

unfoldable pub tree_stays : Gone → List ℕ → Tree → Bool
tree_stays gone uids t = not (tree_named gone t) && contains t.uid uids

unfoldable pub open_stays : Gone → List ℕ → Open → Bool
open_stays gone tids o = not (open_named gone o) && contains o.tid tids

unfoldable pub lock_stays : List ℕ → Lock → Bool
lock_stays fids l = contains l.fid fids

unfoldable pub sweep_sessions : Gone → Tables → Tables
sweep_sessions gone t = with_sessions t (keep (session_stays gone) (sessions_of t))

unfoldable pub sweep_trees : Gone → Tables → Tables
sweep_trees gone t = with_trees t (keep (tree_stays gone (map uid_of (sessions_of t))) (trees_of t))

unfoldable pub sweep_opens : Gone → Tables → Tables
sweep_opens gone t = with_opens t (keep (open_stays gone (map tid_of (trees_of t))) (opens_of t))

unfoldable pub sweep_locks : Tables → Tables
sweep_locks t = with_locks t (keep (lock_stays (map fid_of (opens_of t))) (locks_of t))

unfoldable pub remove : Gone → Tables → Tables
remove gone t = sweep_locks (sweep_opens gone (sweep_trees gone (sweep_sessions gone t)))
