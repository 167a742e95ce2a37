-- The number given out to a new record (document 01, "Tables and room": "UID, TID and FID are the smallest number from 1
-- not in use, so freed numbers and records are used again"). Assumes nothing.
use Rattle.std.specs.Prelude.{◌≡◌, refl, ◌⊎◌, Bool, true, false, not, List, ℕ, zero, suc, ◌+◌, ◌≤◌, ◌<◌, length, eqb}
use Rattle.std.proofs.Common.{sym, ap, ◌∙◌, inl, inr, eq-eqb, ne_eqb, arith}
use Rattle.std.proofs.Math.Decide.{ℕ_discrete}
use Rattle.lists.specs.Walk.{keep}
use Rattle.numbers.specs.Number.{contains, free_from, smallest_free}
use Rattle.lists.specs.Truth.{decided, not-decided-twice, not-holds}
use Rattle.lists.specs.Members.{was-kept, keep-less}
use Rattle.invariants.specs.Numbered.{contains-in, in-contains}

-- ---- as many numbers as are all contained, at least so many elements

other-than : ℕ → ℕ → Bool
other-than k x = not (eqb x k)

-- the other numbers stay contained when one is taken out
contains-other : (k j : ℕ) (xs : List ℕ) → (j ≡ k → ⊥) → contains j xs ≡ true → contains j (keep (other-than k) xs) ≡ true
unfolding other-than
contains-other k j xs n e = in-contains (was-kept (other-than k) (contains-in j xs e) (not-holds (eqb j k) (ne_eqb j k n)))

-- and there are fewer
taken-out-less : (k : ℕ) (xs : List ℕ) → contains k xs ≡ true → length (keep (other-than k) xs) < length xs
unfolding other-than
taken-out-less k xs e = keep-less (other-than k) (contains-in k xs e) (rw (eq-eqb k k refl))

-- a list that contains each of the numbers 1 to m has at least m elements
pub contains-many : (m : ℕ) (xs : List ℕ) → ((k : ℕ) → 1 ≤ k → k ≤ m → contains k xs ≡ true) → m ≤ length xs
contains-many zero xs h = omega arith
contains-many (suc m) xs h =
    let less : length (keep (other-than (suc m)) xs) < length xs = taken-out-less (suc m) xs (h (suc m) (omega arith) (omega arith)) in
    let most : m ≤ length (keep (other-than (suc m)) xs) =
    contains-many m (keep (other-than (suc m)) xs)
    (λ k a b. contains-other (suc m) k xs (λ e. let z : ⊥ = omega arith in z) (h k a (let c : k ≤ suc m = omega arith in c))) in
    omega arith

-- ---- the first free number from k on

-- not below k
from_low : (n k : ℕ) (xs : List ℕ) → k ≤ free_from n k xs
unfolding free_from
from_low zero k xs = omega arith
from_low (suc n) k xs =
    let l : suc k ≤ free_from n (suc k) xs = from_low n (suc k) xs in
    elim (decided (contains k xs)) [ inl e ↦ rw e (omega arith) | inr e ↦ rw e (omega arith) ]

-- not beyond the numbers looked at
from-high : (n k : ℕ) (xs : List ℕ) → free_from n k xs ≤ k + n
unfolding free_from
from-high zero k xs = omega arith
from-high (suc n) k xs =
    let l : free_from n (suc k) xs ≤ suc k + n = from-high n (suc k) xs in
    elim (decided (contains k xs)) [ inl e ↦ rw e (omega arith) | inr e ↦ rw e (omega arith) ]

-- numbers passed over are in use
from-least : (n k : ℕ) (xs : List ℕ) (j : ℕ) → k ≤ j → j < free_from n k xs → contains j xs ≡ true
unfolding free_from
from-least zero k xs j a b = absurd (let z : ⊥ = omega arith in z)
from-least (suc n) k xs j a b =
    elim (decided (contains k xs)) [
      | inl e ↦ elim (ℕ_discrete k j) [
        | yes s ↦ ap (λ i. contains i xs) (sym s) ∙ e
        | no s ↦ from-least n (suc k) xs j (omega arith) (rw e at b)
      ]
      | inr e ↦ absurd (let c : j < k = rw e at b in let z : ⊥ = omega arith in z)
    ]

-- it is free, or the last that was looked at
from-free : (n k : ℕ) (xs : List ℕ) → (contains (free_from n k xs) xs ≡ false) ⊎ (free_from n k xs ≡ k + n)
unfolding free_from
from-free zero k xs = inr (omega arith)
from-free (suc n) k xs =
    elim (decided (contains k xs)) [
      | inl e ↦ rw e (elim (from-free n (suc k) xs) [ inl f ↦ inl f | inr f ↦ inr (omega arith) ])
      | inr e ↦ rw e (inl e)
    ]

-- ---- the smallest free number

-- "the smallest number from 1": it is at least 1
pub smallest-low : (xs : List ℕ) → 1 ≤ smallest_free xs
unfolding smallest_free
smallest-low xs = from_low (length xs) 1 xs

-- "the smallest number .. not in use": it is at most one more than there are numbers in use
pub smallest-high : (xs : List ℕ) → smallest_free xs ≤ length xs + 1
unfolding smallest_free
smallest-high xs = let h : free_from (length xs) 1 xs ≤ 1 + length xs = from-high (length xs) 1 xs in omega arith

-- "the smallest number from 1 not in use": every smaller one is in use
pub smallest-least : (xs : List ℕ) (k : ℕ) → 1 ≤ k → k < smallest_free xs → contains k xs ≡ true
unfolding smallest_free
smallest-least xs k a b = from-least (length xs) 1 xs k a b

-- it is free, or one more than the numbers in use
free-or-last : (xs : List ℕ) → (contains (smallest_free xs) xs ≡ false) ⊎ (smallest_free xs ≡ 1 + length xs)
unfolding smallest_free
free-or-last xs = from-free (length xs) 1 xs

-- "not in use": it is free
pub smallest-free : (xs : List ℕ) → contains (smallest_free xs) xs ≡ false
smallest-free xs = elim (decided (contains (smallest_free xs) xs)) [ inl e ↦ absurd (crowded e) | inr e ↦ e ]
  where
    all-used : contains (smallest_free xs) xs ≡ true → (k : ℕ) → 1 ≤ k → k ≤ smallest_free xs → contains k xs ≡ true
    all-used e k a b =
        elim (ℕ_discrete k (smallest_free xs)) [
          | yes s ↦ ap (λ i. contains i xs) s ∙ e
          | no s ↦ smallest-least xs k a (omega arith)
        ]

    crowded : contains (smallest_free xs) xs ≡ true → ⊥
    crowded e =
        let many : smallest_free xs ≤ length xs = contains-many (smallest_free xs) xs (all-used e) in
        elim (free-or-last xs) [ inl f ↦ not-decided-twice (contains (smallest_free xs) xs) e f | inr f ↦ let z : ⊥ = omega arith in z ]
