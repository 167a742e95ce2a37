-- `any` and `all` of a range, as code calls them: the same over the values of a function at 0, 1, 2 and so on.
-- Assumes nothing.
use Rattle.std.specs.Prelude.{◌≡◌, ℕ, zero, suc, min, ◌+◌, ◌-◌, ◌≤◌, ◌<◌, Bool, true, false, cond, not, ◌&&◌, ◌||◌, List, [], ◌∷◌, map, length, take, get_or, ltb, Option, Some, None}
use Rattle.std.proofs.Common.{refl, sym, ap, ◌∙◌, zero-add, arith, length-take, ext_get_or, get_or-take}
use Rattle.std.specs.Iterator.{ChecksAny, ChecksAll, FindsPosition}
use Rattle.std.specs.List.{range_with_len, list_any, list_all, position_or_len}
use Rattle.std.proofs.Math.Decide.{dec_lt}
use borrow.Author.Tests.{lt-ltb, le-ltb}
use Rattle.std.proofs.lemmas.Iterator.{YieldsList-from_range}
use Rattle.std.proofs.lemmas.Iterator.Search.{any_from_yields_List, all_from_yields_List, position_from_yields_List}
use Rattle.std.proofs.lemmas.List.FromFn.{length-map-range_with_len, get_or-map-range_with_len}
use Rattle.std.proofs.iter.Yields.{nat_range_steps}
use Rattle.std.specs.declared.ops.Range.{Range}
use denote.Param.Members.{Mut, Called}
use Rattle.lists.specs.Truth.{test-cases}
use Rattle.lists.specs.Walk.{any, all, found_from, found}
use Rattle.tables.specs.Words.{up_to}
use Rattle.tables.specs.ArrayLaws.{length-up_to, get_d-up_to}

-- one more in front: the place is 0 if it passes, and else one behind
place : (b : Bool) (k m l : ℕ) (later : Option ℕ) → cond (ltb m l) (Some (suc k + m)) None ≡ later
    → cond (ltb (cond (not b) (1 + m) 0) (suc l)) (Some (k + cond (not b) (1 + m) 0)) None ≡ cond b (Some k) later
place true k m l later e =
    let here : k + 0 ≡ k = omega arith in
    rw (lt-ltb 0 (suc l) (omega arith), here)
place false k m l later e =
    let next : k + (1 + m) ≡ suc k + m = omega arith in
    elim (dec_lt m l) [
      | yes h ↦ rw (lt-ltb (1 + m) (suc l) (omega arith), next) (rw (lt-ltb m l h) at e)
      | no h ↦ rw (le-ltb (1 + m) (suc l) (omega arith)) (rw (le-ltb m l (omega arith)) at e)
    ]

module _ {A : Type 0} (f : ℕ → A) where
  up_to-range : (n : ℕ) → map f (range_with_len 0 n) ≡ up_to f n
  up_to-range n =
      ext_get_or (f 0) (map f (range_with_len 0 n)) (up_to f n)
      (length-map-range_with_len f 0 n ∙ sym (length-up_to f n))
      (λ i h.
      let inside : i < n = rw (length-map-range_with_len f 0 n) at h in
      get_or-map-range_with_len f 0 n i i (f 0) inside (omega arith) ∙ sym (get_d-up_to f n i (f 0) inside))

  module _ (p : A → Bool) where
    list_any-map : (xs : List ℕ) → list_any (λ i. p (f i)) xs ≡ any p (map f xs)
    unfolding any
    list_any-map [] = refl
    list_any-map (x ∷ xs) = ap (λ (b : Bool). p (f x) || b) (list_any-map xs)

    list_all-map : (xs : List ℕ) → list_all (λ i. p (f i)) xs ≡ all p (map f xs)
    unfolding all
    list_all-map [] = refl
    list_all-map (x ∷ xs) = ap (λ (b : Bool). p (f x) && b) (list_all-map xs)

    -- the place of the first, counted from k on
    first : (k : ℕ) (xs : List ℕ) → cond (ltb (position_or_len (λ i. p (f i)) xs) (length xs)) (Some (k + position_or_len (λ i. p (f i)) xs)) None ≡ found_from k p (map f xs)
    unfolding found_from
    first k [] = refl
    first k (x ∷ xs) = place (p (f x)) k (position_or_len (λ i. p (f i)) xs) (length xs) (found_from (suc k) p (map f xs)) (first (suc k) xs)

    module _ {F : Type 0} {g : Mut F (ℕ × Unit {0}) Bool} {n : ℕ} {u : Range ℕ} {h : F} {r : Bool} where
      -- `any` over 0 to n, where the closure tests p of f
      pub any-range : ChecksAny nat_range_steps g (record { start = 0; end = n }) h r u → ((i : ℕ) (b : Bool) (q : F) → Called g h (i, tt) b q → (q ≡ h) × (b ≡ p (f i))) → r ≡ any p (up_to f n)
      any-range ran told =
          any_from_yields_List (λ i. p (f i)) u h r ran (YieldsList-from_range 0 n n refl (omega arith)) told
          ∙ list_any-map (range_with_len 0 n)
          ∙ ap (any p) (up_to-range n)

      -- `all` likewise
      pub all-range : ChecksAll nat_range_steps g (record { start = 0; end = n }) h r u → ((i : ℕ) (b : Bool) (q : F) → Called g h (i, tt) b q → (q ≡ h) × (b ≡ p (f i))) → r ≡ all p (up_to f n)
      all-range ran told =
          all_from_yields_List (λ i. p (f i)) u h r ran (YieldsList-from_range 0 n n refl (omega arith)) told
          ∙ list_all-map (range_with_len 0 n)
          ∙ ap (all p) (up_to-range n)

    module _ {F : Type 0} {g : Mut F (ℕ × Unit {0}) Bool} {n : ℕ} {u : Range ℕ} {h : F} {r : Option ℕ} where
      -- `position` over 0 to n likewise
      pub position-range : FindsPosition nat_range_steps g (record { start = 0; end = n }) h r u → ((i : ℕ) (b : Bool) (q : F) → Called g h (i, tt) b q → (q ≡ h) × (b ≡ p (f i))) → r ≡ found p (up_to f n)
      unfolding found
      position-range ran told =
          position_from_yields_List (λ i. p (f i)) u h r ran (YieldsList-from_range 0 n n refl (omega arith)) told
          ∙ (rw (zero-add (position_or_len (λ i. p (f i)) (range_with_len 0 n))) at (first 0 (range_with_len 0 n)))
          ∙ ap (found_from 0 p) (up_to-range n)

-- the first of a list, read one by one
pub up_to-take : {A : Type 0} (xs : List A) (c n : ℕ) (d : A) → length xs ≡ n → up_to (λ i. get_or xs i d) (min c n) ≡ take c xs
up_to-take xs c n d full =
    ext_get_or d (up_to (λ i. get_or xs i d) (min c n)) (take c xs)
    (length-up_to (λ i. get_or xs i d) (min c n) ∙ sym (length-take c xs ∙ ap (min c) full))
    (λ i h.
    let inside : i < min c n = rw (length-up_to (λ i. get_or xs i d) (min c n)) at h in
    get_d-up_to (λ i. get_or xs i d) (min c n) i d inside ∙ sym (get_or-take c xs i d (omega arith)))

-- `all` from a to n, where a walk goes on while p holds, and holds at n: it says what is left of the walk at a
module _ (p walk : ℕ → Bool) (a n : ℕ) (far : a ≤ n) (on : (i : ℕ) → a ≤ i → i < n → p i ≡ true → walk i ≡ walk (i + 1))
    (off : (i : ℕ) → a ≤ i → i < n → p i ≡ false → walk i ≡ false) (end : walk n ≡ true) where
  walked : (more i : ℕ) → a ≤ i → i + more ≡ n → walk i ≡ list_all p (range_with_len i more)
  walked zero i from e =
      let there : i ≡ n = omega arith in
      ap walk there ∙ end
  walked (suc more) i from e =
      let below : i < n = omega arith in
      test-cases (p i)
      (λ h. rw h (on i from below h ∙ walked more (i + 1) (omega arith) (omega arith)))
      (λ h. rw h (off i from below h))

  pub all-walk : {F : Type 0} {g : Mut F (ℕ × Unit {0}) Bool} {u : Range ℕ} {h : F} {r : Bool} → ChecksAll nat_range_steps g (record { start = a; end = n }) h r u → ((i : ℕ) (b : Bool) (q : F) → Called g h (i, tt) b q → (q ≡ h) × (b ≡ p i)) → r ≡ walk a
  all-walk {u = u} {h = h} {r = r} ran told =
      all_from_yields_List p u h r ran (YieldsList-from_range a n (n - a) refl refl) told ∙ sym (walked (n - a) a (omega arith) (omega arith))
