-- The ranges of a request, each with its whole process: as many as those of the area, in the same order, over the same bytes.
-- Assumes nothing.
use mathlib.Core.Path.{◌≡◌, refl, ap}
use Prim.Native.Nat.{ℕ, suc, ◌+◌, ◌-◌, ◌*◌, ◌≤◌, ◌<◌}
use mathlib.Core.Bool.{Bool}
use mathlib.Core.List.{List, [], ◌∷◌, ◌++◌, map}
use lib.ListN.{length, length-map}
use native.Mathlib.Omega.{arith}
use Rattle.lists.specs.Walk.{any, found, found_from}
use Rattle.wire.specs.LittleEndian.{byte_at, le16-below}
use Rattle.locks.specs.Wire.{range_size, range_from, range_at, ranges_at, length-ranges, ranges_more}
use Rattle.locks.specs.Request.{of_header, ranges_of, range_passes}
use Rattle.locks.specs.Blocked.{range_meets}
use Rattle.locks.specs.declared.types.LockRange.{LockRange}
use Rattle.locks.specs.declared.types.Request.{Request}

-- one more at the end
pub map_snoc : {A B : Type 0} (f : A → B) (xs : List A) (x : A) → map f (xs ++ (x ∷ [])) ≡ map f xs ++ (f x ∷ [])
map_snoc f [] x = refl
map_snoc {B = B} f (y ∷ xs) x = ap (λ (l : List B). f y ∷ l) (map_snoc f xs x)

-- the process of a range on the wire has 16 bits
pub process-below : (large : Bool) (s : List ℕ) (k : ℕ) → ((i : ℕ) → byte_at s i < 256) → (range_at large s k).process < 65536
unfolding range_at range_from
process-below large s k b = le16-below s b (k * range_size large)

module _ (q : Request) (s : List ℕ) where
  -- as many ranges as are asked
  pub length-of : (k n : ℕ) → length (ranges_of q s k n) ≡ n
  unfolding ranges_of
  length-of k n = rw (length-map, length-ranges)

  -- up to the next place there is one range more, the last
  pub of-more : (from k : ℕ) → from ≤ k → ranges_of q s from (k + 1 - from) ≡ ranges_of q s from (k - from) ++ (of_header q.high (range_at q.large s k) ∷ [])
  unfolding ranges_of
  of-more from k h = rw (ranges_more q.large s from k h) (map_snoc (of_header q.high) (ranges_at q.large s from (k - from)) (range_at q.large s k))

-- ---- what does not go by the process

module _ (high : ℕ) where
  passes_same : (rs : List LockRange) → any range_passes rs ≡ any range_passes (map (of_header high) rs)
  unfolding any range_passes of_header
  passes_same [] = refl
  passes_same (r ∷ rs) = rw (passes_same rs)

  meets-same : (offset length k : ℕ) (rs : List LockRange) → found_from k (range_meets offset length) rs ≡ found_from k (range_meets offset length) (map (of_header high) rs)
  unfolding found_from range_meets of_header
  meets-same offset length k [] = refl
  meets-same offset length k (r ∷ rs) = rw (meets-same offset length (suc k) rs)

module _ (q : Request) (s : List ℕ) where
  -- whether one of the locks passes 2^64
  pub passes_of : any range_passes (ranges_at q.large s q.unlocks (q.unlocks + q.locks - q.unlocks)) ≡ any range_passes (ranges_of q s q.unlocks q.locks)
  unfolding ranges_of
  passes_of =
      let asked : q.unlocks + q.locks - q.unlocks ≡ q.locks = omega arith in
      rw asked (passes_same q.high (ranges_at q.large s q.unlocks q.locks))

  -- which of the ranges is the first to overlap
  pub meets-of : (offset length k n : ℕ) → found (range_meets offset length) (ranges_at q.large s k n) ≡ found (range_meets offset length) (ranges_of q s k n)
  unfolding found ranges_of
  meets-of offset length k n = meets-same q.high offset length 0 (ranges_at q.large s k n)
