-- The steps of a loop that walks a list from the front: what it says of the rest before a turn, said of the rest after it.
-- Assumes nothing.
use Rattle.std.specs.Prelude.{◌≡◌, ℕ, ◌+◌, ◌-◌, ◌≤◌, ◌<◌, Bool, true, false, List, length, take, drop, get_or}
use Rattle.std.proofs.Common.{length-drop, take_all, le_of_eq}
use Rattle.std.proofs.Math.Seq.{take-length}
use Rattle.lists.specs.Walk.{any, all, all_tails, rest, rest-cons, rest-none}

module _ {A : Type 0} (xs : List A) (n : ℕ) where
  -- a walk that has passed the first n has nothing left
  pub all_end : (p : A → Bool) (i : ℕ) → n ≤ i → all p (rest xs n i) ≡ true
  unfolding all
  all_end p i h = rw (rest-none xs n i h)

  pub any-end : (p : A → Bool) (i : ℕ) → n ≤ i → any p (rest xs n i) ≡ false
  unfolding any
  any-end p i h = rw (rest-none xs n i h)

  pub tails_end : (p : A → List A → Bool) (i : ℕ) → n ≤ i → all_tails p (rest xs n i) ≡ true
  unfolding all_tails
  tails_end p i h = rw (rest-none xs n i h)

  module _ (i : ℕ) (d : A) (h : i < n) (k : i < length xs) where
    -- an element that passes is passed over
    pub all_yes : (p : A → Bool) → p (get_or xs i d) ≡ true → all p (rest xs n i) ≡ all p (rest xs n (i + 1))
    unfolding all
    all_yes p e = rw (rest-cons xs n i d h k, e)

    -- one that fails decides
    pub all-no : (p : A → Bool) → p (get_or xs i d) ≡ false → all p (rest xs n i) ≡ false
    unfolding all
    all-no p e = rw (rest-cons xs n i d h k, e)

    pub any-yes : (p : A → Bool) → p (get_or xs i d) ≡ true → any p (rest xs n i) ≡ true
    unfolding any
    any-yes p e = rw (rest-cons xs n i d h k, e)

    pub any-no : (p : A → Bool) → p (get_or xs i d) ≡ false → any p (rest xs n i) ≡ any p (rest xs n (i + 1))
    unfolding any
    any-no p e = rw (rest-cons xs n i d h k, e)

    pub tails-yes : (p : A → List A → Bool) → p (get_or xs i d) (rest xs n (i + 1)) ≡ true
        → all_tails p (rest xs n i) ≡ all_tails p (rest xs n (i + 1))
    unfolding all_tails
    tails-yes p e = rw (rest-cons xs n i d h k, e)

    pub tails-no : (p : A → List A → Bool) → p (get_or xs i d) (rest xs n (i + 1)) ≡ false → all_tails p (rest xs n i) ≡ false
    unfolding all_tails
    tails-no p e = rw (rest-cons xs n i d h k, e)

-- the part of a slice from place j on is what a walk over the whole has left there
pub tail-rest : {A : Type 0} (xs : List A) (j : ℕ) → take (length xs - j) (drop j xs) ≡ rest xs (length xs) j
tail-rest xs j =
    let short : length (drop j xs) ≤ length xs - j = le_of_eq (length-drop j xs) in
    rw (take_all (length xs - j) (drop j xs) short, take-length xs)
