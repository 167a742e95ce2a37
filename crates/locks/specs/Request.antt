-- What a LOCKING request does to the list of locks (document 01, "Locks, reads and writes" and "Refusals on the wire").
-- The list is kept in order of grant. Assumes nothing.
use Rattle.std.specs.Prelude.{ℕ, suc, ◌+◌, ◌*◌, Bool, cond, List, [], ◌∷◌, ◌++◌, map, length, take, drop, get_or, leb, eqb, Option, None, Some, Ok, Err}
use Rattle.lists.specs.Walk.{any, found}
use Rattle.lists.specs.Stored.{stored}
use Rattle.locks.specs.Range.{passes_end}
use Rattle.records.specs.Empty.{no_lock}
use Rattle.locks.specs.Wire.{range_size, ranges_at}
use Rattle.locks.specs.Answer.{answers}
use Rattle.records.specs.declared.Lock.{Lock}
use Rattle.locks.specs.declared.types.LockRange.{LockRange}
use Rattle.locks.specs.declared.types.Ask.{Ask}
use Rattle.locks.specs.declared.types.Purpose.{Purpose}
use Rattle.locks.specs.declared.types.Purpose.TheVariants.{Grant, Release}
use Rattle.locks.specs.declared.types.Request.{Request}
use Rattle.locks.specs.declared.types.Holder.{Holder}
use Rattle.locks.specs.declared.types.LockRefusal.{LockRefusal}
use Rattle.locks.specs.declared.types.LockRefusal.TheVariants.{Malformed, NoSuchLock, PassesEnd, Conflict, NoRecord}
use Rattle.locks.specs.declared.types.Locking.{Locking}

-- document 02, CR 4: "a 16-bit process in a lock range takes its upper half from the header"
unfoldable pub of_header : ℕ → LockRange → LockRange
of_header high r = record { process = 65536 * high + r.process; offset = r.offset; length = r.length }

-- n ranges of a request, unlocks and locks alike, the first standing k-th in its area
unfoldable pub ranges_of : Request → List ℕ → ℕ → ℕ → List LockRange
ranges_of q area k n = map (of_header q.high) (ranges_at q.large area k n)

-- what is asked of the list for one range of a request
unfoldable pub ask_of : ℕ → Purpose → LockRange → Ask
ask_of fid purpose r = record { fid = fid; process = r.process; offset = r.offset; length = r.length; purpose = purpose }

-- the lock that a range asks for
unfoldable pub lock_of : ℕ → Bool → LockRange → Lock
lock_of fid shared r = record { fid = fid; process = r.process; offset = r.offset; length = r.length; shared = shared }

-- the list without its record at place k
unfoldable pub remove_at : ℕ → List Lock → List Lock
remove_at k list = take k list ++ drop (suc k) list

-- "Unlocks go first, in order: each removes the earliest listed lock with equal FID, process, offset and length."
unfoldable pub after_find : Option ℕ → List Lock → (List Lock → Option (List Lock)) → Option (List Lock)
after_find (Some k) list next = next (remove_at k list)
after_find None list next = None

unfoldable pub release_all : (ℕ → ℕ) → ℕ → List LockRange → List Lock → Option (List Lock)
release_all file fid [] list = Some list
release_all file fid (r ∷ rs) list = after_find (found (answers file (ask_of fid Release r)) list) list (λ left. release_all file fid rs left)

-- document 02, CR 2: "the place of the first conflicting lock in the list as it then stands", with its record
unfoldable pub holder_at : List Lock → ℕ → Holder
holder_at list k = record { lock = get_or list k no_lock; place = k }

-- the list after all grants, or who holds the lock that stands in the way of one
pub data Grants : Type 0 where
  granted : List Lock → Grants
  blocked : Holder → Grants

unfoldable pub after_walk : Option ℕ → List Lock → Grants → Grants
after_walk (Some k) list next = blocked (holder_at list k)
after_walk None list next = next

-- "Then locks in order, each against the list as it stands, the asker's own locks included, however long it gets": "A lock granted
-- earlier in the same request may be the answer, though it is undone."
unfoldable pub grant_all : (ℕ → ℕ) → ℕ → Bool → List LockRange → List Lock → Grants
grant_all file fid shared [] list = granted list
grant_all file fid shared (r ∷ rs) list =
    after_walk (found (answers file (ask_of fid (Grant shared) r)) list) list
    (grant_all file fid shared rs (list ++ (lock_of fid shared r ∷ [])))

-- a request done, with the list it leaves, or refused
pub data Result : Type 0 where
  done : List Lock → Result
  refused : LockRefusal → Result

-- "1/8 exactly if over 128 would then be held"
unfoldable pub after_grants : Grants → Result
after_grants (granted list) = cond (leb (length list) 128) (done list) (refused NoRecord)
after_grants (blocked h) = refused (Conflict h)

unfoldable pub range_passes : LockRange → Bool
range_passes r = passes_end r.offset r.length

-- the refusals in document 01's order, for the request as a whole: 1/158, 1/87, 1/33, 1/8
unfoldable pub after_releases : (ℕ → ℕ) → ℕ → Bool → List LockRange → Option (List Lock) → Result
after_releases file fid shared locks None = refused NoSuchLock
after_releases file fid shared locks (Some list) =
    cond (any range_passes locks) (refused PassesEnd) (after_grants (grant_all file fid shared locks list))

unfoldable pub request : (ℕ → ℕ) → ℕ → Bool → List LockRange → List LockRange → List Lock → Result
request file fid shared unlocks locks list = after_releases file fid shared locks (release_all file fid unlocks list)

-- A refused request leaves the array and its count as they were; one that is done leaves the new list there.
unfoldable pub settle : List Lock → ℕ → Result → Locking
settle locks count (done list) = record { outcome = Ok tt; locks = stored no_lock locks (length (take count locks)) list; count = length list }
settle locks count (refused why) = record { outcome = Err why; locks = locks; count = count }

-- The request with its ranges in an area of bytes, unlocks first. An area that is not just the announced ranges is
-- malformed (the table of the grammar: "(unlocks + locks) × 10, or × 20 with type bit 0x10").
unfoldable pub locking : (ℕ → ℕ) → List Lock → ℕ → Request → List ℕ → Locking
locking file locks count q area =
    settle locks count
    (cond (eqb (length area) ((q.unlocks + q.locks) * range_size q.large))
    (request file q.fid q.shared (ranges_of q area 0 q.unlocks) (ranges_of q area q.unlocks q.locks) (take count locks))
    (refused Malformed))
