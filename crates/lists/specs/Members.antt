-- Laws of a walk over a list, said of each element in it: `all`, `any`, `keep`, `map` and `all_tails`.
-- Assumes nothing.
use Rattle.std.specs.Prelude.{◌≡◌, ◌⊎◌, Bool, cond, set}
use Rattle.std.proofs.Math.Path.{refl, ap}
use Rattle.std.proofs.Common.{sym, ◌∙◌, arith}
use Rattle.std.proofs.Math.Logic.{inl, inr}
use Rattle.std.proofs.Math.Bool.{true, false}
use Rattle.std.proofs.lemmas.Bool.{false≢true}
use mathlib.Core.List.Memᴰ.{append_cases as front-or-back}
use mathlib.Core.List.Memᴰ.{append_left as in_front}
use mathlib.Core.List.Memᴰ.{cases_cons as first-or-later}
use mathlib.Core.List.Memᴰ.{eq_of_singleton as only_one}
use mathlib.Core.List.Memᴰ.{head as here}
use mathlib.Core.List.Memᴰ.{tail as there}
use mathlib.Core.List.{List, [], ◌∷◌, ◌++◌, map, Memᴰ as In}
use Prim.Native.Nat.{ℕ, zero, suc, ◌<◌, ◌≤◌}
use Rattle.std.proofs.Math.ListN.{length}
use Rattle.lists.specs.Walk.{any, all, all_tails, keep}
use Rattle.lists.specs.Stored.{length-keep}
use Rattle.lists.specs.Truth.{both_hold, hold-both, either-holds, holds-second, decided, not-decided-twice, fails}

module _ {A : Type 0} where
  -- ---- all

  -- what all elements pass, each passes
  pub all-each : (p : A → Bool) {x : A} {xs : List A} → In x xs → all p xs ≡ true → p x ≡ true
  unfolding all
  all-each p (here {x = y} {xs = ys} e) h = ap p e ∙ (both_hold (p y) (all p ys) h).0
  all-each p (there {x = y} {xs = ys} m) h = all-each p m (both_hold (p y) (all p ys) h).1

  -- what each element passes, all pass
  pub each_all : (p : A → Bool) (xs : List A) → ((x : A) → In x xs → p x ≡ true) → all p xs ≡ true
  unfolding all
  each_all p [] h = refl
  each_all p (x ∷ xs) h = hold-both (p x) (all p xs) (h x (here refl)) (each_all p xs (λ y m. h y (there m)))

  -- ---- any

  -- where some element passes, there is one
  pub any-one : (p : A → Bool) (xs : List A) → any p xs ≡ true → (x : A) × In x xs × (p x ≡ true)
  unfolding any
  any-one p [] e = absurd (false≢true e)
  any-one p (x ∷ xs) e =
      elim (either-holds (p x) (any p xs) e) [
        | inl h ↦ (x, here refl, h)
        | inr h ↦ let r = any-one p xs h in (r.0, there r.1, r.2)
      ]

  -- an element that passes is some element that passes
  pub one-any : (p : A → Bool) {x : A} {xs : List A} → In x xs → p x ≡ true → any p xs ≡ true
  unfolding any
  one-any p (here {x = y} {xs = ys} e) h = rw (← e, h)
  one-any p (there {x = y} {xs = ys} m) h = holds-second (p y) (any p ys) (one-any p m h)

  -- where none passes, each fails
  pub none_each : (p : A → Bool) {x : A} {xs : List A} → In x xs → any p xs ≡ false → p x ≡ false
  none_each p {x} {xs} m h = fails (p x) (λ e. not-decided-twice (any p xs) (one-any p m e) h)

  -- ---- keep

  in-cond : (b : Bool) (y : A) (ks : List A) {x : A} → In x (cond b (y ∷ ks) ks) → ((x ≡ y) × (b ≡ true)) ⊎ In x ks
  in-cond true y ks m = elim (first-or-later m) [ inl e ↦ inl (e, refl) | inr n ↦ inr n ]
  in-cond false y ks m = inr m

  -- what is kept was there and passes
  pub kept-was : (p : A → Bool) (xs : List A) {x : A} → In x (keep p xs) → In x xs × (p x ≡ true)
  unfolding keep
  kept-was p [] m = elim m [ ]
  kept-was p (y ∷ ys) m =
      elim (in-cond (p y) y (keep p ys) m) [
        | inl e ↦ (here e.0, ap p e.0 ∙ e.1)
        | inr n ↦ let r = kept-was p ys n in (there r.0, r.1)
      ]

  cond-here : (b : Bool) (x y : A) (ks : List A) → x ≡ y → b ≡ true → In x (cond b (y ∷ ks) ks)
  cond-here b x y ks e h = rw h (here e)

  cond-there : (b : Bool) (y : A) (ks : List A) {x : A} → In x ks → In x (cond b (y ∷ ks) ks)
  cond-there true y ks m = there m
  cond-there false y ks m = m

  -- what was there and passes is kept
  pub was-kept : (p : A → Bool) {x : A} {xs : List A} → In x xs → p x ≡ true → In x (keep p xs)
  unfolding keep
  was-kept p {x} (here {x = y} {xs = ys} e) h = cond-here (p y) x y (keep p ys) e (ap p (sym e) ∙ h)
  was-kept p (there {x = y} {xs = ys} m) h = cond-there (p y) y (keep p ys) (was-kept p m h)

  -- all pass what all passed
  pub all_keep : (p q : A → Bool) (xs : List A) → all q xs ≡ true → all q (keep p xs) ≡ true
  all_keep p q xs h = each_all q (keep p xs) (λ x m. all-each q (kept-was p xs m).0 h)

  -- where all pass, all are kept
  pub keep_all : (p : A → Bool) (xs : List A) → all p xs ≡ true → keep p xs ≡ xs
  unfolding all keep
  keep_all p [] h = refl
  keep_all p (x ∷ xs) h =
      let b = both_hold (p x) (all p xs) h in
      rw (b.0, keep_all p xs b.1)

  -- two tests that agree on each element keep the same
  pub keep_same : (p q : A → Bool) (xs : List A) → ((x : A) → In x xs → p x ≡ q x) → keep p xs ≡ keep q xs
  unfolding keep
  keep_same p q [] h = refl
  keep_same p q (x ∷ xs) h = rw (h x (here refl), keep_same p q xs (λ y m. h y (there m)))

  -- where some element fails, fewer are kept
  pub keep-less : (p : A → Bool) {x : A} {xs : List A} → In x xs → p x ≡ false → length (keep p xs) < length xs
  unfolding keep
  keep-less p (here {x = y} {xs = ys} e) h =
      let l : length (keep p ys) ≤ length ys = length-keep p ys in
      let b : p y ≡ false = ap p (sym e) ∙ h in
      rw b (omega arith)
  keep-less p (there {x = y} {xs = ys} m) h =
      let l : length (keep p ys) < length ys = keep-less p m h in
      elim (decided (p y)) [ inl b ↦ rw b (omega arith) | inr b ↦ rw b (omega arith) ]

  -- ---- a list made longer by one

  -- all pass, and so does the one added
  pub all_snoc : (p : A → Bool) (xs : List A) (x : A) → all p xs ≡ true → p x ≡ true → all p (xs ++ (x ∷ [])) ≡ true
  all_snoc p xs x h e =
      each_all p (xs ++ (x ∷ [])) λ y m. elim (front-or-back xs m) [ inl n ↦ all-each p n h | inr n ↦ ap p (only_one n) ∙ e ]

  -- some element that passes is still there
  pub any-more : (p : A → Bool) (xs : List A) (x : A) → any p xs ≡ true → any p (xs ++ (x ∷ [])) ≡ true
  any-more p xs x e = let r = any-one p xs e in one-any p (in_front (x ∷ []) r.1) r.2

  -- ---- a list with one element set

  -- all pass, and so does the one set
  pub all_set : (p : A → Bool) (xs : List A) (i : ℕ) (x : A) → all p xs ≡ true → p x ≡ true → all p (set xs i x) ≡ true
  unfolding all
  all_set p [] i x h e = refl
  all_set p (y ∷ ys) zero x h e = hold-both (p x) (all p ys) e (both_hold (p y) (all p ys) h).1
  all_set p (y ∷ ys) (suc i) x h e =
      let b = both_hold (p y) (all p ys) h in
      hold-both (p y) (all p (set ys i x)) b.0 (all_set p ys i x b.1 e)

  -- ---- all_tails

  keep-cond : (r : A → List A → Bool) (b : Bool) (x : A) (ks : List A) → r x ks ≡ true → all_tails r ks ≡ true → all_tails r (cond b (x ∷ ks) ks) ≡ true
  unfolding all_tails
  keep-cond r true x ks e f = hold-both (r x ks) (all_tails r ks) e f
  keep-cond r false x ks e f = f

  -- a rule that holds also with fewer elements after, holds of what is kept
  pub tails-keep : (r : A → List A → Bool) (p : A → Bool) (xs : List A)
      → ((x : A) (ys : List A) → r x ys ≡ true → r x (keep p ys) ≡ true) → all_tails r xs ≡ true → all_tails r (keep p xs) ≡ true
  unfolding all_tails keep
  tails-keep r p [] f h = refl
  tails-keep r p (x ∷ xs) f h =
      let b = both_hold (r x xs) (all_tails r xs) h in
      keep-cond r (p x) x (keep p xs) (f x xs b.0) (tails-keep r p xs f b.1)

  -- a rule that each element obeys with those after it, and with one more behind
  pub tails-snoc : (r : A → List A → Bool) (xs : List A) (z : A)
      → ((x : A) (ys : List A) → In x xs → r x ys ≡ true → r x (ys ++ (z ∷ [])) ≡ true) → r z [] ≡ true
      → all_tails r xs ≡ true → all_tails r (xs ++ (z ∷ [])) ≡ true
  unfolding all_tails
  tails-snoc r [] z f e h = hold-both (r z []) true e refl
  tails-snoc r (x ∷ xs) z f e h =
      let b = both_hold (r x xs) (all_tails r xs) h in
      hold-both (r x (xs ++ (z ∷ []))) (all_tails r (xs ++ (z ∷ []))) (f x xs (here refl) b.0) (tails-snoc r xs z (λ y ys m. f y ys (there m)) e b.1)

module _ {A B : Type 0} (f : A → B) where
  -- ---- map

  -- an element's image is in the list of images
  pub in_map : {x : A} {xs : List A} → In x xs → In (f x) (map f xs)
  in_map (here e) = here (ap f e)
  in_map (there m) = there (in_map m)

  -- and each of those is one
  pub map-in : (xs : List A) {y : B} → In y (map f xs) → (x : A) × In x xs × (f x ≡ y)
  map-in [] m = elim m [ ]
  map-in (x ∷ xs) m =
      elim (first-or-later m) [
        | inl e ↦ (x, here refl, sym e)
        | inr n ↦ let r = map-in xs n in (r.0, there r.1, r.2)
      ]

  -- a rule of images and those after is a rule of the elements
  pub tails-map : (r : B → List B → Bool) (xs : List A) → all_tails r (map f xs) ≡ all_tails (λ x ys. r (f x) (map f ys)) xs
  unfolding all_tails
  tails-map r [] = refl
  tails-map r (x ∷ xs) = rw (tails-map r xs)
