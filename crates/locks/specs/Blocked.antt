-- The conflict of one range of a request, and the first of all of them, by place.
-- Assumes nothing.
use Rattle.std.specs.Prelude.{ℕ, ◌-◌, Bool, List, ◌++◌, map, Option, Some, None}
use Rattle.lists.specs.Walk.{found}
use Rattle.locks.specs.Range.{overlaps}
use Rattle.locks.specs.Wire.{range_at}
use Rattle.locks.specs.Answer.{answers}
use Rattle.locks.specs.Request.{of_header, ranges_of, lock_of, ask_of, Grants, granted, blocked}
use Rattle.records.specs.declared.Lock.{Lock}
use Rattle.locks.specs.declared.types.LockRange.{LockRange}
use Rattle.locks.specs.declared.types.Request.{Request}
use Rattle.locks.specs.declared.types.Purpose.TheVariants.{Grant}

-- range k against the list and, behind it, the request's own locks before k
unfoldable pub conflict_of : (ℕ → ℕ) → Request → List ℕ → ℕ → List Lock → Option ℕ
conflict_of file q area k list =
    found (answers file (ask_of q.fid (Grant q.shared) (of_header q.high (range_at q.large area k))))
    (list ++ map (lock_of q.fid q.shared) (ranges_of q area q.unlocks (k - q.unlocks)))

-- a range overlaps the bytes from an offset
unfoldable pub range_meets : ℕ → ℕ → LockRange → Bool
range_meets offset length r = overlaps r.offset r.length offset length

-- the place of the lock in the way, if there is one
unfoldable pub blocked_at : Grants → Option ℕ
blocked_at (blocked h) = Some h.place
blocked_at (granted list) = None
