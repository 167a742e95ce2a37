-- Removal leaves sound tables (document 01, "Tables and room": "Every call on sound tables leaves sound tables").
-- Assumes nothing.
use Rattle.std.specs.Prelude.{◌≡◌, true, not, List, map, length}
use Rattle.std.proofs.Math.Path.{ap}
use Rattle.std.proofs.Common.{◌∙◌}
use Rattle.lists.specs.Walk.{keep}
use Rattle.lists.specs.Members.{all_keep}
use Rattle.lists.specs.RoomLaws.{keep-fewer}
use Rattle.records.specs.declared.Session.{Session}
use Rattle.records.specs.declared.Tree.{Tree}
use Rattle.records.specs.declared.Open.{Open}
use Rattle.records.specs.declared.Lock.{Lock}
use Rattle.records.specs.declared.Tables.{Tables}
use Rattle.records.specs.Held.{sessions_of, trees_of, opens_of, locks_of, with_sessions, with_trees, with_opens, with_locks}
use Rattle.numbers.specs.Number.{contains}
use Rattle.numbers.specs.Column.{uid_of, tid_of, fid_of}
use Rattle.soundness.specs.Sound.{sound, seen_ok}
use Rattle.removal.specs.Removal.{session_stays, tree_stays, tree_named, open_stays, open_named, lock_stays, sweep_sessions, sweep_trees, sweep_opens, sweep_locks, remove}
use Rattle.removal.specs.declared.Gone.{Gone}
use Rattle.lists.specs.Truth.{both_hold}
use Rattle.soundness.specs.SoundLaws.{Room}
use Rattle.invariants.specs.SoundParts.{Sound, sound-says, sound-lists}
use Rattle.invariants.specs.KeptRecords.{Filters, records-keep, locks-keep}
use Rattle.invariants.specs.Shaped.{Shaped, sessions-with, trees-with, opens-with, locks-with, shaped-sessions, shaped-trees, shaped-opens, shaped-locks}

-- ---- one sweep: the tables with the records that stay

trees-swept : (gone : Gone) (t : Tables) (l : List Session)
    → sweep_trees gone (with_sessions t l) ≡ with_trees (with_sessions t l) (keep (tree_stays gone (map uid_of l)) (trees_of t))
unfolding sweep_trees with_sessions
trees-swept gone t l = ap (λ (s : List Session). with_trees (with_sessions t l) (keep (tree_stays gone (map uid_of s)) (trees_of t))) (sessions-with t l)

opens-swept : (gone : Gone) (t : Tables) (l : List Tree)
    → sweep_opens gone (with_trees t l) ≡ with_opens (with_trees t l) (keep (open_stays gone (map tid_of l)) (opens_of t))
unfolding sweep_opens with_trees
opens-swept gone t l = ap (λ (s : List Tree). with_opens (with_trees t l) (keep (open_stays gone (map tid_of s)) (opens_of t))) (trees-with t l)

locks-swept : (t : Tables) (l : List Open)
    → sweep_locks (with_opens t l) ≡ with_locks (with_opens t l) (keep (lock_stays (map fid_of l)) (locks_of t))
unfolding sweep_locks with_opens
locks-swept t l = ap (λ (s : List Open). with_locks (with_opens t l) (keep (lock_stays (map fid_of s)) (locks_of t))) (opens-with t l)

-- ---- all of them

module _ (gone : Gone) (t : Tables) where
  -- the records that stay
  abbrev pub sessions_left : List Session
  sessions_left = keep (session_stays gone) (sessions_of t)

  abbrev pub trees_left : List Tree
  trees_left = keep (tree_stays gone (map uid_of sessions_left)) (trees_of t)

  abbrev pub opens_left : List Open
  opens_left = keep (open_stays gone (map tid_of trees_left)) (opens_of t)

  abbrev pub locks_left : List Lock
  locks_left = keep (lock_stays (map fid_of opens_left)) (locks_of t)

  -- the tables that hold them
  unfoldable pub left : Tables
  left = with_locks (with_opens (with_trees (with_sessions t sessions_left) trees_left) opens_left) locks_left

  -- removal leaves those
  pub remove-left : remove gone t ≡ left
  unfolding remove sweep_sessions left with_sessions with_trees with_opens
  remove-left =
      ap (λ (u : Tables). sweep_locks (sweep_opens gone u)) (trees-swept gone t sessions_left)
      ∙ ap sweep_locks (opens-swept gone (with_sessions t sessions_left) trees_left)
      ∙ locks-swept (with_trees (with_sessions t sessions_left) trees_left) opens_left

  -- what they hold
  pub left-sessions : sessions_of left ≡ sessions_left
  unfolding left with_trees with_opens with_locks
  left-sessions = sessions-with t sessions_left

  pub left-trees : trees_of left ≡ trees_left
  unfolding left with_opens with_locks with_sessions
  left-trees = trees-with (with_sessions t sessions_left) trees_left

  pub left-opens : opens_of left ≡ opens_left
  unfolding left with_locks with_trees with_sessions
  left-opens = opens-with (with_trees (with_sessions t sessions_left) trees_left) opens_left

  pub left-locks : locks_of left ≡ locks_left
  unfolding left with_opens with_trees with_sessions
  left-locks = locks-with (with_opens (with_trees (with_sessions t sessions_left) trees_left) opens_left) locks_left

  -- each record that stays has the record that it names
  stay-filters : Filters (sessions_of t) (trees_of t) (opens_of t) (session_stays gone) (tree_stays gone (map uid_of sessions_left))
      (open_stays gone (map tid_of trees_left)) (lock_stays (map fid_of opens_left))
  unfolding tree_stays open_stays lock_stays
  stay-filters =
      record {
        session-stays = λ r e. (both_hold (not (tree_named gone r)) (contains r.uid (map uid_of sessions_left)) e).1;
        tree-stays = λ o e. (both_hold (not (open_named gone o)) (contains o.tid (map tid_of trees_left)) e).1;
        open_stays = λ l e. e;
      }

  -- no more are left than there were
  left-room : Room t.nsessions t.ntrees t.nopens t.nlocks
      → Room (length sessions_left) (length trees_left) (length opens_left) (length locks_left)
  left-room r =
      record {
        sessions-fit = keep-fewer (session_stays gone) t.nsessions t.sessions 16 r.sessions-fit;
        trees-fit = keep-fewer (tree_stays gone (map uid_of sessions_left)) t.ntrees t.trees 32 r.trees-fit;
        opens-fit = keep-fewer (open_stays gone (map tid_of trees_left)) t.nopens t.opens 64 r.opens-fit;
        locks-fit = keep-fewer (lock_stays (map fid_of opens_left)) t.nlocks t.locks 128 r.locks-fit;
      }

  left-sound : Sound t → sound left ≡ true
  unfolding left with_sessions with_trees with_opens with_locks
  left-sound s =
      sound-lists left sessions_left trees_left opens_left locks_left left-sessions left-trees left-opens left-locks (left-room s.room) s.sizes
      (records-keep stay-filters s.records)
      (locks-keep stay-filters s.records (locks_of t) s.locks) s.catalogue (all_keep (open_stays gone (map tid_of trees_left)) (seen_ok t.files) (opens_of t) s.seen)

  left-shaped : Shaped t → Room t.nsessions t.ntrees t.nopens t.nlocks → Shaped left
  unfolding left
  left-shaped s r =
      let room = left-room r in
      let a = shaped-sessions t s sessions_left room.sessions-fit in
      let b = shaped-trees (with_sessions t sessions_left) a trees_left room.trees-fit in
      let c = shaped-opens (with_trees (with_sessions t sessions_left) trees_left) b opens_left room.opens-fit in
      shaped-locks (with_opens (with_trees (with_sessions t sessions_left) trees_left) opens_left) c locks_left room.locks-fit

-- "Every call on sound tables leaves sound tables": a removal does
pub remove-sound : (gone : Gone) (t : Tables) → sound t ≡ true → sound (remove gone t) ≡ true
remove-sound gone t e = rw (remove-left gone t) (left-sound gone t (sound-says t e))

-- "Sessions 16 .. trees 32 .. opens 64 .. locks 128 .. Files: 16": a removal leaves arrays of that room
pub remove-shaped : (gone : Gone) (t : Tables) → Shaped t → sound t ≡ true → Shaped (remove gone t)
remove-shaped gone t s e = rw (remove-left gone t) (left-shaped gone t s (sound-says t e).room)
