-- The two wire forms of a lock range (document 01, "The grammar of a chain"): "process 2, offset 4, length 4; or process 2,
-- pad 2, offset high 4, low 4, length high 4, low 4". `large` is lock type bit 0x10.
-- Assumes nothing.
use Rattle.std.specs.Prelude.{◌≡◌, Bool, true, false, cond, length}
use Rattle.std.proofs.Math.Path.{refl, ap}
use Prim.Native.Nat.{ℕ, zero, suc, ◌+◌, ◌-◌, ◌*◌, ◌/◌, ◌%◌, ◌^◌, ◌≤◌, ◌<◌}
use Rattle.std.proofs.Math.Nat.{add-zero}
use Rattle.std.proofs.Math.Numerals.{add-one}
use native.Mathlib.Omega.{arith}
use mathlib.Core.List.{List, [], ◌∷◌, ◌++◌}
use Rattle.wire.specs.LittleEndian.{le16_at, le32_at}
use Rattle.locks.specs.declared.types.LockRange.{LockRange}

-- how many bytes a range takes
unfoldable pub range_size : Bool → ℕ
range_size large = cond large 20 10

-- a number of 32 bits, or of 64 with its upper half first
unfoldable pub number_at : Bool → List ℕ → ℕ → ℕ
number_at large s at = cond large (4294967296 * le32_at s at + le32_at s (at + 4)) (le32_at s at)

-- the range whose bytes start at a place
unfoldable pub range_from : Bool → List ℕ → ℕ → LockRange
range_from large s at =
    record {
      process = le16_at s at;
      offset = number_at large s (at + cond large 4 2);
      length = number_at large s (at + cond large 12 6);
    }

-- the range that stands k-th in an area of ranges, from 0
unfoldable pub range_at : Bool → List ℕ → ℕ → LockRange
range_at large s k = range_from large s (k * range_size large)

-- n ranges of an area, the first standing k-th
unfoldable pub ranges_at : Bool → List ℕ → ℕ → ℕ → List LockRange
ranges_at large s k zero = []
ranges_at large s k (suc n) = range_at large s k ∷ ranges_at large s (suc k) n

-- a range in the 10-byte form: of each number as much as its field holds
unfoldable pub small_form : LockRange → List ℕ
small_form r =
    r.process % 256 ∷ r.process / 256 % 256
    ∷ r.offset % 256 ∷ r.offset / 256 % 256 ∷ r.offset / 65536 % 256 ∷ r.offset / 16777216 % 256
    ∷ r.length % 256 ∷ r.length / 256 % 256 ∷ r.length / 65536 % 256 ∷ r.length / 16777216 % 256
    ∷ []

-- two bytes and four of a number
two_bytes : (n : ℕ) → n % 256 + 256 * (n / 256 % 256) ≡ n % 65536
two_bytes n = omega arith

above : (n : ℕ) → n / 65536 / 256 ≡ n / 16777216
above n = omega arith

halves : (n : ℕ) → n % 65536 + 65536 * (n / 65536 % 65536) ≡ n % 4294967296
halves n = omega arith

four_bytes : (n : ℕ) → n % 256 + 256 * (n / 256 % 256) + 65536 * (n / 65536 % 256 + 256 * (n / 16777216 % 256)) ≡ n % 4294967296
four_bytes n = rw (← (above n), two_bytes n, two_bytes (n / 65536)) (halves n)

-- what is read back of it
pub small-back : (r : LockRange)
    → range_at false (small_form r) 0 ≡ record { process = r.process % 65536; offset = r.offset % 4294967296; length = r.length % 4294967296 }
unfolding range_at range_from number_at range_size small_form le32_at le16_at
small-back r = rw (two_bytes r.process, four_bytes r.offset, four_bytes r.length)

-- the place of a range in an area of fewer than 2^17 ranges is small
pub place-small : (large : Bool) (k : ℕ) → k < 2 ^ 17 → k * range_size large ≤ 2621440
unfolding range_size
place-small true k h = omega arith
place-small false k h = omega arith

pub size_small : (large : Bool) → range_size large ≤ 20
unfolding range_size
size_small true = omega arith
size_small false = omega arith

module _ (large : Bool) (s : List ℕ) where
  -- as many ranges as are asked
  pub length-ranges : (k n : ℕ) → length (ranges_at large s k n) ≡ n
  unfolding ranges_at
  length-ranges k zero = refl
  length-ranges k (suc n) = ap suc (length-ranges (suc k) n)

  -- the ranges up to a place are the first and those behind it
  pub ranges-cons : (k to : ℕ) → k < to → ranges_at large s k (to - k) ≡ range_at large s k ∷ ranges_at large s (k + 1) (to - (k + 1))
  unfolding ranges_at
  ranges-cons k to h = let e : to - k ≡ suc (to - (k + 1)) = omega arith in rw (e, add-one k)

  -- at that place there are none left
  pub ranges-none : (k to : ℕ) → to ≤ k → ranges_at large s k (to - k) ≡ []
  unfolding ranges_at
  ranges-none k to h = let e : to - k ≡ 0 = omega arith in rw e

  -- one range more, at the end
  ranges-snoc : (k n : ℕ) → ranges_at large s k (suc n) ≡ ranges_at large s k n ++ (range_at large s (k + n) ∷ [])
  unfolding ranges_at
  ranges-snoc k zero = rw add-zero
  ranges-snoc k (suc n) =
      let e : suc k + n ≡ k + suc n = omega arith in
      ap (λ (l : List LockRange). range_at large s k ∷ l) (rw (← e) (ranges-snoc (suc k) n))

  -- up to the next place there is one range more, the last
  pub ranges_more : (from k : ℕ) → from ≤ k → ranges_at large s from (k + 1 - from) ≡ ranges_at large s from (k - from) ++ (range_at large s k ∷ [])
  ranges_more from k h =
      let e : k + 1 - from ≡ suc (k - from) = omega arith in
      let f : from + (k - from) ≡ k = omega arith in
      rw e (rw f at (ranges-snoc from (k - from)))
