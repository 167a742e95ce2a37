-- What a walk that found an element says of it, and what one that found none says of all. Assumes nothing.
use Rattle.std.proofs.Math.Path.{◌≡◌, refl, ap}
use Rattle.std.proofs.Common.{◌∙◌}
use Prim.Native.Nat.{ℕ, zero, suc, ◌-◌, ◌≤◌}
use native.Mathlib.Omega.{arith}
use Rattle.std.specs.Prelude.{Bool, true, false, cond, get_or, Option, Some, None}
use mathlib.Core.List.Memᴰ.{head as here}
use mathlib.Core.List.Memᴰ.{tail as there}
use mathlib.Core.List.{List, [], ◌∷◌, Memᴰ as In}
use Rattle.lists.specs.Walk.{all, found_from, found}
use Rattle.lists.specs.Truth.{both_hold}

-- a walk that finds none passes over the first element
miss-first : (t : Bool) (k : ℕ) (f : Option ℕ) → cond t (Some k) f ≡ None → (t ≡ false) × (f ≡ None)
miss-first true k f e = let z : ◌≡◌ {A = ℕ} 0 1 = cc in absurd (omega arith)
miss-first false k f e = (refl, e)

module _ {A : Type 0} where
  -- the element found: it is in the list, and passes the test
  pub record Hit (p : A → Bool) (xs : List A) (x : A) : Type 0 where
    pub listed : In x xs
    pub passes : p x ≡ true

  record HitFrom (k : ℕ) (p : A → Bool) (xs : List A) (j : ℕ) (d : A) : Type 0 where
    from : k ≤ j
    hit : Hit p xs (get_or xs (j - k) d)

  hit-first : (t : Bool) (k : ℕ) (p : A → Bool) (x : A) (xs : List A) (j : ℕ) (d : A) → p x ≡ t → (found_from (suc k) p xs ≡ Some j → HitFrom (suc k) p xs j d)
      → cond t (Some k) (found_from (suc k) p xs) ≡ Some j → HitFrom k p (x ∷ xs) j d
  hit-first true k p x xs j d e f g =
      let same : k ≡ j = cc in
      let z : j - k ≡ 0 = omega arith in
      record { from = omega arith; hit = rw z (record { listed = here refl; passes = e }) }
  hit-first false k p x xs j d e f g =
      let h = f g in
      let l : suc k ≤ j = h.from in
      let z : j - k ≡ suc (j - suc k) = omega arith in
      record { from = omega arith; hit = rw z (record { listed = there h.hit.listed; passes = h.hit.passes }) }

  hit-from : (k : ℕ) (p : A → Bool) (xs : List A) (j : ℕ) (d : A) → found_from k p xs ≡ Some j → HitFrom k p xs j d
  unfolding found_from
  hit-from k p [] j d e = let z : ◌≡◌ {A = ℕ} 0 1 = cc in absurd (omega arith)
  hit-from k p (x ∷ xs) j d e = hit-first (p x) k p x xs j d refl (λ g. hit-from (suc k) p xs j d g) e

  pub found-hit : (p : A → Bool) (xs : List A) (j : ℕ) (d : A) → found p xs ≡ Some j → Hit p xs (get_or xs j d)
  unfolding found
  found-hit p xs j d e =
      let h = hit-from 0 p xs j d e in
      let z : j - 0 ≡ j = omega arith in
      rw z at h.hit

  -- none found: each fails
  miss-from : {x : A} {xs : List A} (k : ℕ) (p : A → Bool) → In x xs → found_from k p xs ≡ None → p x ≡ false
  unfolding found_from
  miss-from k p (here {x = y} {xs = ys} e) h = ap p e ∙ (miss-first (p y) k (found_from (suc k) p ys) h).0
  miss-from k p (there {x = y} {xs = ys} m) h = miss-from (suc k) p m (miss-first (p y) k (found_from (suc k) p ys) h).1

  pub found-miss : (p : A → Bool) {x : A} {xs : List A} → In x xs → found p xs ≡ None → p x ≡ false
  unfolding found
  found-miss p m h = miss-from 0 p m h

  -- what all pass and the default passes, the element at any place passes
  pub all_get_d : (p : A → Bool) (xs : List A) (i : ℕ) (d : A) → p d ≡ true → all p xs ≡ true → p (get_or xs i d) ≡ true
  unfolding all
  all_get_d p [] i d e h = e
  all_get_d p (x ∷ xs) zero d e h = (both_hold (p x) (all p xs) h).0
  all_get_d p (x ∷ xs) (suc i) d e h = all_get_d p xs i d e (both_hold (p x) (all p xs) h).1
