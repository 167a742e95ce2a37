-- What a walk over a list computes, and the two laws by which a loop from front to back follows it.
-- Assumes nothing.
use Rattle.std.specs.Prelude.{◌≡◌, ℕ, suc, min, ◌+◌, ◌≤◌, ◌<◌, Bool, true, false, cond, ◌&&◌, ◌||◌, List, [], ◌∷◌, length, take, drop, get_or, Option, Some, None}
use Rattle.std.proofs.Common.{drop_of_length-le, length-take, drop-cons, get_or-take, add-one, arith}

module _ {A : Type 0} where
  -- some element passes p
  unfoldable pub any : (A → Bool) → List A → Bool
  any p [] = false
  any p (x ∷ xs) = p x || any p xs

  -- every element passes p
  unfoldable pub all : (A → Bool) → List A → Bool
  all p [] = true
  all p (x ∷ xs) = p x && all p xs

  -- p holds of each element and the list of those after it
  unfoldable pub all_tails : (A → List A → Bool) → List A → Bool
  all_tails p [] = true
  all_tails p (x ∷ xs) = p x xs && all_tails p xs

  -- the elements that pass p, in order
  unfoldable pub keep : (A → Bool) → List A → List A
  keep p [] = []
  keep p (x ∷ xs) = cond (p x) (x ∷ keep p xs) (keep p xs)

  -- the place of the first element that passes p, the first element standing at k
  unfoldable pub found_from : ℕ → (A → Bool) → List A → Option ℕ
  found_from k p [] = None
  found_from k p (x ∷ xs) = cond (p x) (Some k) (found_from (suc k) p xs)

  unfoldable pub found : (A → Bool) → List A → Option ℕ
  unfolding found_from
  found p xs = found_from 0 p xs

  -- what a walk over the first n elements has still before it at place i
  abbrev pub rest : List A → ℕ → ℕ → List A
  rest xs n i = drop i (take n xs)

  pub rest-cons : (xs : List A) (n i : ℕ) (d : A) → i < n → i < length xs → rest xs n i ≡ get_or xs i d ∷ rest xs n (i + 1)
  rest-cons xs n i d h k =
      let long : i < length (take n xs) = rw length-take (omega arith) in
      rw (add-one, drop-cons (take n xs) i d long, get_or-take n xs i d h)

  pub rest-none : (xs : List A) (n i : ℕ) → n ≤ i → rest xs n i ≡ []
  rest-none xs n i h =
      let m : length (take n xs) ≤ i = rw length-take (omega arith) in
      drop_of_length-le (take n xs) m

  pub rest-past : (xs : List A) (n i : ℕ) → length xs ≤ i → rest xs n i ≡ []
  rest-past xs n i h =
      let m : length (take n xs) ≤ i = rw length-take (omega arith) in
      drop_of_length-le (take n xs) m

  -- nothing is left at the end of what counts
  pub rest-most : (xs : List A) (n limit i : ℕ) → length xs ≡ limit → i ≡ min n limit → rest xs n i ≡ []
  rest-most xs n limit i full e =
      let m : length (take n xs) ≤ i = rw length-take (omega arith) in
      drop_of_length-le (take n xs) m
