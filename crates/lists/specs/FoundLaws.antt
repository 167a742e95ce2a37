-- Laws of the first element that passes a test, in a list of two parts and step by step along a walk, and of there being one.
-- Assumes nothing.
use Rattle.std.proofs.Math.Path.{◌≡◌, refl, ap}
use Rattle.std.proofs.Common.{sym, ◌∙◌, add-one}
use Prim.Native.Nat.{ℕ, suc, ◌+◌, ◌≤◌, ◌<◌}
use Rattle.std.proofs.Math.Nat.{zero-add}
use Rattle.std.specs.Prelude.{Bool, true, false, cond, take, get_or, Option, Some, None}
use mathlib.Core.List.{List, [], ◌∷◌, ◌++◌}
use Rattle.std.proofs.Math.ListN.{length}
use native.Mathlib.Omega.{arith}
use Rattle.lists.specs.Walk.{any, found_from, found, rest, rest-cons, rest-none, rest-past}

-- a place in the first part, or else one behind it
unfoldable pub first_of : Option ℕ → Option ℕ → Option ℕ
first_of (Some k) f = Some k
first_of None f = f

-- the same place counted from n places further in front
unfoldable pub shifted : ℕ → Option ℕ → Option ℕ
shifted n (Some k) = Some (n + k)
shifted n None = None

-- an element in front of a list of two parts
cond-first : (b : Bool) (k : ℕ) (f g h : Option ℕ) → h ≡ first_of f g → cond b (Some k) h ≡ first_of (cond b (Some k) f) g
unfolding first_of
cond-first true k f g h e = refl
cond-first false k f g h e = e

-- an element in front of a list whose places are shifted
cond-shifted : (b : Bool) (n k : ℕ) (f g : Option ℕ) → g ≡ shifted n f → cond b (Some (n + k)) g ≡ shifted n (cond b (Some k) f)
unfolding shifted
cond-shifted true n k f g e = refl
cond-shifted false n k f g e = e

-- a bound on the place of the first element and on that of the others is one on the place found
at-below : (b : Bool) (k j m : ℕ) (f : Option ℕ) → k < m → (f ≡ Some j → j < m) → cond b (Some k) f ≡ Some j → j < m
at-below true k j m f h g e = let same : k ≡ j = cc in omega arith
at-below false k j m f h g e = g e

module _ {A : Type 0} where
  -- in a list of two parts a walk finds its element in the front part, or else in the other
  found_from-append : (p : A → Bool) (xs ys : List A) (k : ℕ)
      → found_from k p (xs ++ ys) ≡ first_of (found_from k p xs) (found_from (length xs + k) p ys)
  unfolding found_from first_of
  found_from-append p [] ys k = rw zero-add
  found_from-append p (x ∷ xs) ys k =
      let e : length xs + suc k ≡ suc (length xs) + k = omega arith in
      cond-first (p x) k (found_from (suc k) p xs) (found_from (suc (length xs) + k) p ys) (found_from (suc k) p (xs ++ ys))
      (rw (← e) (found_from-append p xs ys (suc k)))

  -- a walk that counts from n further finds a place further by n
  found_from-shifted : (p : A → Bool) (ys : List A) (n k : ℕ) → found_from (n + k) p ys ≡ shifted n (found_from k p ys)
  unfolding found_from shifted
  found_from-shifted p [] n k = refl
  found_from-shifted p (y ∷ ys) n k =
      let e : n + suc k ≡ suc (n + k) = omega arith in
      cond-shifted (p y) n k (found_from (suc k) p ys) (found_from (suc (n + k)) p ys) (rw (← e) (found_from-shifted p ys n (suc k)))

  -- the first in a list of two parts is the first of the front part, or else of the other
  pub found-append : (p : A → Bool) (xs ys : List A) → found p (xs ++ ys) ≡ first_of (found p xs) (shifted (length xs) (found p ys))
  unfolding found
  found-append p xs ys = found_from-append p xs ys 0 ∙ ap (first_of (found_from 0 p xs)) (found_from-shifted p ys (length xs) 0)

  -- the place that a walk finds is one that it counts
  found_from-below : (p : A → Bool) (xs : List A) (k j : ℕ) → found_from k p xs ≡ Some j → j < k + length xs
  unfolding found_from
  found_from-below p [] k j e = let no : ◌≡◌ {A = ℕ} 0 1 = cc in omega arith
  found_from-below p (x ∷ xs) k j e =
      at-below (p x) k j (k + suc (length xs)) (found_from (suc k) p xs) (omega arith)
      (λ h. let below : j < suc k + length xs = found_from-below p xs (suc k) j h in omega arith)
      e

  -- the place found is a place of the list
  pub found_below : (p : A → Bool) (xs : List A) (j : ℕ) → found p xs ≡ Some j → j < length xs
  unfolding found
  found_below p xs j e = let below : j < 0 + length xs = found_from-below p xs 0 j e in omega arith

  -- an element that passes is the one found
  pub found_from-yes : (p : A → Bool) (x : A) (xs : List A) (k : ℕ) → p x ≡ true → found_from k p (x ∷ xs) ≡ Some k
  unfolding found_from
  found_from-yes p x xs k e = rw e

  -- one that fails is passed over
  pub found_from-no : (p : A → Bool) (x : A) (xs : List A) (k : ℕ) → p x ≡ false → found_from k p (x ∷ xs) ≡ found_from (k + 1) p xs
  unfolding found_from
  found_from-no p x xs k e = rw (e, add-one)

  -- where nothing is left nothing is found
  pub found_from-none : (p : A → Bool) (xs : List A) (k : ℕ) → xs ≡ [] → None ≡ found_from k p xs
  unfolding found_from
  found_from-none p xs k e = rw e

  -- a walk over the first n elements has passed i of them and found none
  pub record Passed (p : A → Bool) (xs : List A) (n i : ℕ) : Type 0 where
    pub same : found p (take n xs) ≡ found_from i p (rest xs n i)

  -- at first it has passed none
  pub passed_start : {p : A → Bool} {xs : List A} {n : ℕ} → Passed p xs n 0
  unfolding found
  passed_start = record { same = refl }

  -- the next element passes the test: it is the one found
  pub passed_here : {p : A → Bool} {xs : List A} {n i : ℕ} → Passed p xs n i → (d : A) → i < n → i < length xs → p (get_or xs i d) ≡ true
      → Some i ≡ found p (take n xs)
  passed_here {p} {xs} {n} {i} before d h k e =
      sym (before.same ∙ ap (found_from i p) (rest-cons xs n i d h k) ∙ found_from-yes p (get_or xs i d) (rest xs n (i + 1)) i e)

  -- it fails: the walk has passed one more
  pub passed-more : {p : A → Bool} {xs : List A} {n i : ℕ} → Passed p xs n i → (d : A) → i < n → i < length xs → p (get_or xs i d) ≡ false
      → Passed p xs n (i + 1)
  passed-more {p} {xs} {n} {i} before d h k e =
      record { same = before.same ∙ ap (found_from i p) (rest-cons xs n i d h k) ∙ found_from-no p (get_or xs i d) (rest xs n (i + 1)) i e }

  -- all n are passed: nothing is found
  pub passed_none : {p : A → Bool} {xs : List A} {n i : ℕ} → Passed p xs n i → n ≤ i → None ≡ found p (take n xs)
  passed_none {p} {xs} {n} {i} before h = found_from-none p (rest xs n i) i (rest-none xs n i h) ∙ sym before.same

  -- the whole list is passed: nothing is found
  pub passed-all : {p : A → Bool} {xs : List A} {n i : ℕ} → Passed p xs n i → length xs ≤ i → None ≡ found p (take n xs)
  passed-all {p} {xs} {n} {i} before h = found_from-none p (rest xs n i) i (rest-past xs n i h) ∙ sym before.same

  -- an element that passes a test makes some element pass it
  pub any-first : (p : A → Bool) (x : A) (xs : List A) → p x ≡ true → any p (x ∷ xs) ≡ true
  unfolding any
  any-first p x xs e = rw e

  -- one that fails leaves the question to the others
  pub any-later : (p : A → Bool) (x : A) (xs : List A) → p x ≡ false → any p (x ∷ xs) ≡ any p xs
  unfolding any
  any-later p x xs e = rw e
