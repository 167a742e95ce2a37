-- What `numbered` says of the places of a list: the numbers lie in 1 to the limit, and no two are equal.
-- Assumes nothing.
use Rattle.std.specs.Prelude.{◌≡◌, refl, true, List, [], ◌∷◌, ℕ, zero, suc, ◌≤◌, ◌<◌, length, get_or}
use Rattle.std.proofs.Common.{sym, ap, arith}
use Rattle.lists.specs.Walk.{all_tails}
use Rattle.lists.specs.Truth.{both_hold, hold-both}
use Rattle.lists.specs.PairLaws.{place_in, in_place}
use Rattle.numbers.specs.Number.{number_ok, numbered}
use Rattle.invariants.specs.Numbered.{number-says, number_ok_lem, numbered_within, not-contained, not_in}

-- numbers that lie in 1 to the limit, no two of them equal
pub record Numbers (limit : ℕ) (xs : List ℕ) : Type 0 where
  pub within : (i : ℕ) → i < length xs → (1 ≤ get_or xs i 0) × (get_or xs i 0 ≤ limit)
  pub distinct : (i j : ℕ) → i < length xs → j < length xs → get_or xs i 0 ≡ get_or xs j 0 → i ≡ j

numbered-distinct : (limit : ℕ) (xs : List ℕ) → numbered limit xs ≡ true
    → (i j : ℕ) → i < length xs → j < length xs → get_or xs i 0 ≡ get_or xs j 0 → i ≡ j
unfolding numbered all_tails
numbered-distinct limit [] h i j a b e = absurd (let z : ⊥ = omega arith in z)
numbered-distinct limit (x ∷ xs) h zero zero a b e = refl
numbered-distinct limit (x ∷ xs) h zero (suc j) a b e =
    let new = (number-says limit x xs (both_hold (number_ok limit x xs) (numbered limit xs) h).0).new in
    let c : j < length xs = omega arith in
    absurd (not-contained x xs new (rw e (place_in 0 xs j c)))
numbered-distinct limit (x ∷ xs) h (suc i) zero a b e =
    let new = (number-says limit x xs (both_hold (number_ok limit x xs) (numbered limit xs) h).0).new in
    let c : i < length xs = omega arith in
    absurd (not-contained x xs new (rw (sym e) (place_in 0 xs i c)))
numbered-distinct limit (x ∷ xs) h (suc i) (suc j) a b e =
    let c : i < length xs = omega arith in
    let k : j < length xs = omega arith in
    ap suc (numbered-distinct limit xs (both_hold (number_ok limit x xs) (numbered limit xs) h).1 i j c k e)

-- what `numbered` says
pub numbered-says : (limit : ℕ) (xs : List ℕ) → numbered limit xs ≡ true → Numbers limit xs
numbered-says limit xs h =
    record { within = λ i a. numbered_within limit (place_in 0 xs i a) h; distinct = numbered-distinct limit xs h }

-- the later numbers, without the first
numbers-later : (limit x : ℕ) (xs : List ℕ) → Numbers limit (x ∷ xs) → Numbers limit xs
numbers-later limit x xs n =
    record {
      within = λ i a. n.within (suc i) (let b : suc i < suc (length xs) = omega arith in b);
      distinct = λ i j a b e.
          let s : suc i ≡ suc j =
          n.distinct (suc i) (suc j) (let c : suc i < suc (length xs) = omega arith in c) (let c : suc j < suc (length xs) = omega arith in c) e in
          omega arith;
    }

-- and the other way round
pub numbered-ok : (limit : ℕ) (xs : List ℕ) → Numbers limit xs → numbered limit xs ≡ true
unfolding numbered all_tails
numbered-ok limit [] n = refl
numbered-ok limit (x ∷ xs) n =
    let w = n.within 0 (let c : 0 < suc (length xs) = omega arith in c) in
    hold-both (number_ok limit x xs) (numbered limit xs)
    (number_ok_lem limit x xs w.0 w.1 (not_in x xs λ m.
    let p = in_place 0 m in
    let k : p.0 < length xs = p.1 in
    let same : 0 ≡ suc p.0 =
    n.distinct 0 (suc p.0) (let c : 0 < suc (length xs) = omega arith in c) (let c : suc p.0 < suc (length xs) = omega arith in c) (sym p.2) in
    let z : ⊥ = omega arith in
    z))
    (numbered-ok limit xs (numbers-later limit x xs n))
