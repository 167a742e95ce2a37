-- Laws of the numbers in use: `contains` and `numbered`, of plain lists of numbers and of a column of records.
-- Assumes nothing.
use Rattle.std.specs.Prelude.{◌≡◌, refl, Bool, false, ◌&&◌, ℕ, ◌≤◌, leb, eqb}
use Rattle.std.proofs.Math.Path.{sym, ap}
use Rattle.std.proofs.Common.{◌∙◌}
use Rattle.std.proofs.Math.Logic.{inl, inr}
use Rattle.std.proofs.Math.Bool.{true, not}
use mathlib.Core.List.Memᴰ.{append_cases as front-or-back}
use mathlib.Core.List.Memᴰ.{cases_cons as first-or-later}
use mathlib.Core.List.Memᴰ.{eq_of_singleton as only_one}
use mathlib.Core.List.Memᴰ.{head as here}
use mathlib.Core.List.Memᴰ.{tail as there}
use mathlib.Core.List.{List, [], ◌∷◌, ◌++◌, map, Memᴰ as In}
use borrow.Author.Tests.{eqb-true, eq-eqb, leb-true, le-leb, not-true}
use Rattle.lists.specs.Walk.{all_tails, keep}
use Rattle.numbers.specs.Number.{contains, number_ok, numbered}
use Rattle.lists.specs.Truth.{both_hold, hold-both, not-holds, fails, not-decided-twice}
use Rattle.lists.specs.Members.{any-one, one-any, in_map, map-in, kept-was, tails-keep, tails-map, tails-snoc}

-- ---- contains

-- a number that is contained is in the list
pub contains-in : (k : ℕ) (xs : List ℕ) → contains k xs ≡ true → In k xs
unfolding contains
contains-in k xs e =
    let r = any-one (λ x. eqb x k) xs e in
    let same : r.0 ≡ k = eqb-true r.0 k r.2 in
    rw same at r.1

-- and the other way round
pub in-contains : {k : ℕ} {xs : List ℕ} → In k xs → contains k xs ≡ true
unfolding contains
in-contains {k} m = one-any (λ x. eqb x k) m (eq-eqb k k refl)

-- a number that is not contained is not in the list
pub not-contained : (k : ℕ) (xs : List ℕ) → contains k xs ≡ false → In k xs → ⊥
not-contained k xs e m = not-decided-twice (contains k xs) (in-contains m) e

-- a number that is not in the list is not contained
pub not_in : (k : ℕ) (xs : List ℕ) → (In k xs → ⊥) → contains k xs ≡ false
not_in k xs h = fails (contains k xs) (λ e. h (contains-in k xs e))

-- ---- one number and those after it

module _ (limit x : ℕ) (others : List ℕ) where
  -- "numbers are distinct and lie in 1 to" the limit: one number, against those after it
  pub record NumberOk : Type 0 where
    pub low : 1 ≤ x
    pub high : x ≤ limit
    pub new : contains x others ≡ false

  pub number-says : number_ok limit x others ≡ true → NumberOk
  unfolding number_ok
  number-says h =
      let a = both_hold (leb 1 x) (leb x limit && not (contains x others)) h in
      let b = both_hold (leb x limit) (not (contains x others)) a.1 in
      record { low = leb-true 1 x a.0; high = leb-true x limit b.0; new = not-true (contains x others) b.1 }

  pub number_ok_lem : 1 ≤ x → x ≤ limit → contains x others ≡ false → number_ok limit x others ≡ true
  unfolding number_ok
  number_ok_lem l h n =
      hold-both (leb 1 x) (leb x limit && not (contains x others)) (le-leb 1 x l)
      (hold-both (leb x limit) (not (contains x others)) (le-leb x limit h) (not-holds (contains x others) n))

-- ---- numbered

-- the numbers lie in 1 to the limit
pub numbered_within : (limit : ℕ) {k : ℕ} {xs : List ℕ} → In k xs → numbered limit xs ≡ true → (1 ≤ k) × (k ≤ limit)
unfolding numbered all_tails
numbered_within limit {k} (here {x = y} {xs = ys} e) h =
    let n = number-says limit y ys (both_hold (number_ok limit y ys) (numbered limit ys) h).0 in
    (rw e n.low, rw e n.high)
numbered_within limit (there {x = y} {xs = ys} m) h =
    numbered_within limit m (both_hold (number_ok limit y ys) (numbered limit ys) h).1

-- a free number within the limit may be added behind
pub numbered-snoc : (limit : ℕ) (xs : List ℕ) (k : ℕ) → 1 ≤ k → k ≤ limit → contains k xs ≡ false → numbered limit xs ≡ true
    → numbered limit (xs ++ (k ∷ [])) ≡ true
unfolding numbered
numbered-snoc limit xs k l h n e = tails-snoc (number_ok limit) xs k other (number_ok_lem limit k [] l h (not_in k [] (λ m. elim m [ ]))) e
  where
    other : (x : ℕ) (ys : List ℕ) → In x xs → number_ok limit x ys ≡ true → number_ok limit x (ys ++ (k ∷ [])) ≡ true
    other x ys m o =
        let s = number-says limit x ys o in
        number_ok_lem limit x (ys ++ (k ∷ [])) s.low s.high
        (not_in x (ys ++ (k ∷ [])) λ i. elim (front-or-back ys i) [
          | inl j ↦ not-contained x ys s.new j
          | inr j ↦ not-contained k xs n (rw (only_one j) at m)
        ])

-- ---- a column of records

module _ {A : Type 0} (f : A → ℕ) where
  -- a number in use is a record's
  pub named-one : (k : ℕ) (xs : List A) → contains k (map f xs) ≡ true → (x : A) × In x xs × (f x ≡ k)
  named-one k xs e = map-in f xs (contains-in k (map f xs) e)

  -- a record's number is in use
  pub one-named : (k : ℕ) {x : A} {xs : List A} → In x xs → f x ≡ k → contains k (map f xs) ≡ true
  one-named k {x} {xs} m e = rw (← e) (in-contains (in_map f m))

  -- a number in use among those kept was in use
  pub named-was : (k : ℕ) (p : A → Bool) (xs : List A) → contains k (map f (keep p xs)) ≡ true → contains k (map f xs) ≡ true
  named-was k p xs e = let r = named-one k (keep p xs) e in one-named k (kept-was p xs r.1).0 r.2

  -- records that are kept are still numbered
  pub numbered-keep : (limit : ℕ) (p : A → Bool) (xs : List A) → numbered limit (map f xs) ≡ true → numbered limit (map f (keep p xs)) ≡ true
  unfolding numbered
  numbered-keep limit p xs h =
      rw (tails-map f (number_ok limit) (keep p xs))
      (tails-keep (λ x ys. number_ok limit (f x) (map f ys)) p xs fewer (rw (tails-map f (number_ok limit) xs) at h))
    where
      fewer : (x : A) (ys : List A) → number_ok limit (f x) (map f ys) ≡ true → number_ok limit (f x) (map f (keep p ys)) ≡ true
      fewer x ys o =
          let s = number-says limit (f x) (map f ys) o in
          number_ok_lem limit (f x) (map f (keep p ys)) s.low s.high
          (fails (contains (f x) (map f (keep p ys))) (λ e. not-decided-twice (contains (f x) (map f ys)) (named-was (f x) p ys e) s.new))

  -- no two records have one number
  pub numbered-same : (limit : ℕ) (xs : List A) {x y : A} → numbered limit (map f xs) ≡ true → In x xs → In y xs → f x ≡ f y → x ≡ y
  unfolding numbered all_tails
  numbered-same limit [] h m n e = elim m [ ]
  numbered-same limit (z ∷ zs) {x} {y} h m n e =
      let b = both_hold (number_ok limit (f z) (map f zs)) (numbered limit (map f zs)) h in
      let s = number-says limit (f z) (map f zs) b.0 in
      elim (first-or-later m) [
        | inl i ↦ elim (first-or-later n) [
          | inl j ↦ i ∙ sym j
          | inr j ↦ absurd (not-contained (f z) (map f zs) s.new (contains-in (f z) (map f zs) (one-named (f z) j (sym e ∙ ap f i))))
        ]
        | inr i ↦ elim (first-or-later n) [
          | inl j ↦ absurd (not-contained (f z) (map f zs) s.new (contains-in (f z) (map f zs) (one-named (f z) i (e ∙ ap f j))))
          | inr j ↦ numbered-same limit zs b.1 i j e
        ]
      ]
