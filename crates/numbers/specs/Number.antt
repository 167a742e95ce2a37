-- UID, TID and FID numbers (document 01, "Tables and room").
-- Assumes nothing.
use Rattle.std.specs.Prelude.{◌≡◌, ℕ, zero, suc, ◌+◌, ◌-◌, ◌≤◌, ◌<◌, Bool, true, false, cond, not, ◌&&◌, List, length, leb, eqb}
use Rattle.std.proofs.Math.Numerals.{add-one}
use Rattle.std.proofs.Common.{arith}
use Rattle.lists.specs.Walk.{any, all_tails}

-- the number is in use
unfoldable pub contains : ℕ → List ℕ → Bool
contains k xs = any (λ x. eqb x k) xs

-- "numbers are distinct and lie in 1 to" limit
unfoldable pub number_ok : ℕ → ℕ → List ℕ → Bool
number_ok limit x others = leb 1 x && (leb x limit && not (contains x others))

unfoldable pub numbered : ℕ → List ℕ → Bool
numbered limit xs = all_tails (number_ok limit) xs

-- from k on, the first number that is not in use, looked for among `more` + 1 numbers
unfoldable pub free_from : ℕ → ℕ → List ℕ → ℕ
free_from zero k xs = k
free_from (suc more) k xs = cond (contains k xs) (free_from more (suc k) xs) k

-- "the smallest number from 1 not in use"; as many numbers as are in use, and one more, are enough to look at
unfoldable pub smallest_free : List ℕ → ℕ
smallest_free xs = free_from (length xs) 1 xs

-- one number looked at, of those still to be looked at before place n
module _ (n i k : ℕ) (xs : List ℕ) (h : i < n) where
  one_more : n - i ≡ suc (n - (i + 1))
  one_more = omega arith

  -- in use: the next
  pub free-next : contains k xs ≡ true → free_from (n - i) k xs ≡ free_from (n - (i + 1)) (k + 1) xs
  unfolding free_from
  free-next e = rw (one_more, e, add-one k)

  -- not in use: found
  pub free-here : contains k xs ≡ false → free_from (n - i) k xs ≡ k
  unfolding free_from
  free-here e = rw (one_more, e)

-- none left to look at
pub free-last : (n i k : ℕ) (xs : List ℕ) → n ≤ i → free_from (n - i) k xs ≡ k
unfolding free_from
free-last n i k xs h =
    let e : n - i ≡ 0 = omega arith in
    rw e
