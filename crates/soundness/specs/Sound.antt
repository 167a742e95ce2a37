-- When tables are sound (document 01, "Tables and room", second paragraph; document 02, CR 6: "Soundness gains sharing codes and the
-- catalogue's rules"; CR 8: "By soundness an open's remembered number doesn't exceed its file's"), rule by rule. Assumes nothing.
use Rattle.std.specs.Prelude.{ℕ, Bool, not, ◌&&◌, ◌||◌, List, map, get_or, leb, eqb}
use Rattle.lists.specs.Walk.{any, all, all_tails}
use Rattle.locks.specs.Range.{overlaps, passes_end}
use Rattle.records.specs.declared.Session.{Session}
use Rattle.records.specs.declared.Tree.{Tree}
use Rattle.records.specs.declared.Open.{Open}
use Rattle.records.specs.declared.Lock.{Lock}
use Rattle.records.specs.declared.File.{File}
use Rattle.records.specs.declared.Tables.{Tables}
use Rattle.records.specs.Change.{LARGEST}
use Rattle.records.specs.Empty.{no_file}
use Rattle.records.specs.Held.{sessions_of, trees_of, opens_of, locks_of}
use Rattle.numbers.specs.Number.{contains, numbered}
use Rattle.numbers.specs.Column.{uid_of, tid_of, fid_of}
use Rattle.catalogue.specs.Name.{catalogue_ok}
use Rattle.soundness.specs.File.{file_of}

-- "counts .. are within these limits"
unfoldable pub within_room : ℕ → ℕ → ℕ → ℕ → Bool
within_room sessions trees opens locks = leb sessions 16 && (leb trees 32 && (leb opens 64 && leb locks 128))

-- "each has a size of 0 to 4,096" and "a 32-bit change number"
unfoldable pub file_ok : File → Bool
file_ok f = leb f.size 4096 && leb f.changes LARGEST

-- a tree's right is 0 or 1, and its session exists
unfoldable pub tree_ok : List ℕ → Tree → Bool
tree_ok uids t = leb t.right 1 && contains t.uid uids

-- right 0 permits access 0 alone: "no open exceeds its tree's right"
unfoldable pub permits : ℕ → ℕ → Bool
permits right access = leb 1 right || eqb access 0

-- the tree is the one that the open names, has the open's UID, and permits its access
unfoldable pub holds_open : Open → Tree → Bool
holds_open o t = eqb t.tid o.tid && (eqb t.uid o.uid && permits t.right o.access)

-- "sharing codes 1 to 4"
unfoldable pub sharing_ok : ℕ → Bool
sharing_ok sharing = leb 1 sharing && leb sharing 4

-- an open's file, access and sharing code are among those listed, and its tree exists and permits it. Its session exists because its
-- tree's does.
unfoldable pub open_ok : List Tree → Open → Bool
open_ok trees o = leb o.file 15 && (leb o.access 2 && (sharing_ok o.sharing && any (holds_open o) trees))

-- "numbers are distinct and lie in 1 to 16, 1 to 32 and 1 to 64", and the rules for trees and opens
unfoldable pub sound_records : List Session → List Tree → List Open → Bool
sound_records sessions trees opens =
    numbered 16 (map uid_of sessions)
    && (numbered 32 (map tid_of trees)
    && (numbered 64 (map fid_of opens) && (all (tree_ok (map uid_of sessions)) trees && all (open_ok trees) opens)))

-- a lock's open exists, and "no lock passes 2^64"
unfoldable pub lock_ok : List ℕ → Lock → Bool
lock_ok fids l = contains l.fid fids && not (passes_end l.offset l.length)

-- "two locks of one file that overlap are both shared"; `file` gives the file of a FID
unfoldable pub agree : (ℕ → ℕ) → Lock → Lock → Bool
agree file l m =
    not (overlaps l.offset l.length m.offset m.length && (not (l.shared && m.shared) && eqb (file l.fid) (file m.fid)))

unfoldable pub agree_all : (ℕ → ℕ) → List Lock → Bool
agree_all file locks = all_tails (λ l later. all (agree file l) later) locks

unfoldable pub sound_locks : List Open → List Lock → Bool
sound_locks opens locks = all (lock_ok (map fid_of opens)) locks && agree_all (file_of opens) locks

-- "an open's remembered number doesn't exceed its file's"
unfoldable pub seen_ok : List File → Open → Bool
seen_ok files o = leb o.seen (get_or files o.file no_file).changes

unfoldable pub sound : Tables → Bool
sound t =
    within_room t.nsessions t.ntrees t.nopens t.nlocks
    && (all file_ok t.files && (sound_records (sessions_of t) (trees_of t) (opens_of t) && (sound_locks (opens_of t) (locks_of t)
    && (catalogue_ok t.names t.nnames && all (seen_ok t.files) (opens_of t)))))
