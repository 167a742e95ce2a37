-- The marks of numbers: none at first, one more for each number, and what they tell.
-- Assumes nothing.
use mathlib.Core.Path.{◌≡◌, refl, sym, ap, ◌∙◌, fun_ext}
use Prim.Native.Nat.{ℕ, min, ◌+◌, ◌≤◌, ◌<◌}
use native.Mathlib.Decide.{ℕ_discrete, dec_lt}
use native.Mathlib.Omega.{arith}
use mathlib.Core.Bool.{Bool, true, false, not, ◌&&◌, ◌||◌}
use mathlib.Core.List.{List, [], ◌∷◌, ◌++◌, map, map-append, append-nil}
use lib.ListN.{length, take, get_or, set, replicate, length-set, get_or-eq_default}
use lib.Seq.{ext_get_or, get_or-set_same, get_or-set_other}
use lib.Dec.{leb, eqb}
use borrow.Author.Tests.{eq-eqb, ne_eqb, le-leb, leb-true}
use Rattle.lists.specs.Truth.{both_hold, hold-both, holds-second}
use Rattle.lists.specs.Walk.{any, all, all_tails, keep}
use Rattle.lists.specs.Stored.{keep-more, take-most}
use Rattle.tables.specs.Words.{up_to}
use Rattle.tables.specs.ArrayLaws.{length-up_to, get_d-up_to}
use Rattle.numbers.specs.Number.{contains, number_ok, numbered}
use Rattle.removal.specs.declared.Gone.{Gone}
use Rattle.removal.specs.Removal.{tree_named, open_named, tree_stays, open_stays, lock_stays}
use Rattle.removal.specs.Filter.{marks_of, tree_marked, open_marked, lock_marked}

length-marks : (numbers : List ℕ) → length (marks_of numbers) ≡ 65
unfolding marks_of
length-marks numbers = length-up_to (λ k. contains k numbers) 65

marks-at : (numbers : List ℕ) (k : ℕ) (d : Bool) → k < 65 → get_or (marks_of numbers) k d ≡ contains k numbers
unfolding marks_of
marks-at numbers k d h = get_d-up_to (λ k. contains k numbers) 65 k d h

contains-last : (k : ℕ) (xs : List ℕ) → contains k (xs ++ (k ∷ [])) ≡ true
unfolding contains any
contains-last k [] = rw (eq-eqb k k refl)
contains-last k (x ∷ xs) = holds-second (eqb x k) (any (λ x. eqb x k) (xs ++ (k ∷ []))) (contains-last k xs)

contains-front : (k x : ℕ) (xs : List ℕ) → (x ≡ k → ⊥) → contains k (xs ++ (x ∷ [])) ≡ contains k xs
unfolding contains any
contains-front k x [] h = rw (ne_eqb x k h)
contains-front k x (y ∷ ys) h = ap (λ (b : Bool). eqb y k || b) (contains-front k x ys h)

module _ (numbers : List ℕ) (x : ℕ) where
  entry : (k : ℕ) → k < 65 → get_or (set (marks_of numbers) x true) k false ≡ get_or (marks_of (numbers ++ (x ∷ []))) k false
  entry k h =
      elim (ℕ_discrete k x) [
        | yes e ↦
            let inside : x < length (marks_of numbers) = rw (length-marks numbers) (omega arith) in
            ap (λ (j : ℕ). get_or (set (marks_of numbers) x true) j false) e
            ∙ get_or-set_same (marks_of numbers) x true false inside
            ∙ sym (marks-at (numbers ++ (x ∷ [])) k false h ∙ ap (λ (j : ℕ). contains j (numbers ++ (x ∷ []))) e ∙ contains-last x numbers)
        | no e ↦
            get_or-set_other (marks_of numbers) x k true false e
            ∙ marks-at numbers k false h
            ∙ sym (marks-at (numbers ++ (x ∷ [])) k false h ∙ contains-front k x numbers (λ q. e (sym q)))
      ]

  -- one number more is one mark more
  marks-more : set (marks_of numbers) x true ≡ marks_of (numbers ++ (x ∷ []))
  marks-more =
      let long : length (set (marks_of numbers) x true) ≡ 65 = length-set (marks_of numbers) x true ∙ length-marks numbers in
      ext_get_or false (set (marks_of numbers) x true) (marks_of (numbers ++ (x ∷ [])))
      (long ∙ sym (length-marks (numbers ++ (x ∷ []))))
      (λ k h. entry k (rw long at h))

-- ---- what they tell

module _ {A : Type 0} (number : A → ℕ) where
  -- numbers in order are small
  pub numbered-small : (limit : ℕ) (xs : List A) → limit ≤ 64 → numbered limit (map number xs) ≡ true → all (λ x. leb (number x) 64) xs ≡ true
  unfolding all numbered all_tails number_ok
  numbered-small limit [] h e = refl
  numbered-small limit (x ∷ xs) h e =
      let k = number x in
      let others = not (contains k (map number xs)) in
      let a = both_hold (leb 1 k && (leb k limit && others)) (numbered limit (map number xs)) e in
      let b = both_hold (leb k limit) others (both_hold (leb 1 k) (leb k limit && others) a.0).1 in
      let small : k ≤ limit = leb-true k limit b.0 in
      hold-both (leb k 64) (all (λ x. leb (number x) 64) xs) (le-leb k 64 (omega arith)) (numbered-small limit xs h a.1)

  contains-above : (k : ℕ) (xs : List A) → all (λ x. leb (number x) 64) xs ≡ true → 64 < k → contains k (map number xs) ≡ false
  unfolding contains any all
  contains-above k [] e h = refl
  contains-above k (x ∷ xs) e h =
      let a = both_hold (leb (number x) 64) (all (λ x. leb (number x) 64) xs) e in
      let small : number x ≤ 64 = leb-true (number x) 64 a.0 in
      rw (ne_eqb (number x) k (λ q. omega arith)) (contains-above k xs a.1 h)

  -- of small numbers they tell which are in use
  marks-say : (xs : List A) → all (λ x. leb (number x) 64) xs ≡ true → (k : ℕ) → get_or (marks_of (map number xs)) k false ≡ contains k (map number xs)
  marks-say xs small k =
      elim (dec_lt k 65) [
        | yes h ↦ marks-at (map number xs) k false h
        | no h ↦
            let past : length (marks_of (map number xs)) ≤ k = rw (length-marks (map number xs)) (omega arith) in
            get_or-eq_default (marks_of (map number xs)) false past ∙ sym (contains-above k xs small (omega arith))
      ]

  module _ (xs : List A) (small : all (λ x. leb (number x) 64) xs ≡ true) where
    pub trees-told : (gone : Gone) → tree_marked gone (marks_of (map number xs)) ≡ tree_stays gone (map number xs)
    unfolding tree_marked tree_stays
    trees-told gone = fun_ext (λ t. ap (λ (b : Bool). not (tree_named gone t) && b) (marks-say xs small t.uid))

    pub opens-told : (gone : Gone) → open_marked gone (marks_of (map number xs)) ≡ open_stays gone (map number xs)
    unfolding open_marked open_stays
    opens-told gone = fun_ext (λ o. ap (λ (b : Bool). not (open_named gone o) && b) (marks-say xs small o.tid))

    pub locks-told : lock_marked (marks_of (map number xs)) ≡ lock_stays (map number xs)
    unfolding lock_marked lock_stays
    locks-told = fun_ext (λ l. marks-say xs small l.fid)

-- ---- the loop that marks the numbers of the records kept

-- after i turns: the numbers of those kept of the first i
pub record Marking {A : Type 0} (number : A → ℕ) (p : A → Bool) (xs : List A) (i : ℕ) (marks : List Bool) : Type 0 where
  pub same : marks ≡ marks_of (map number (keep p (take i xs)))

pub marking-none : {A : Type 0} (number : A → ℕ) (p : A → Bool) (xs : List A) → Marking number p xs 0 (replicate 65 false)
unfolding marks_of up_to contains any keep
marking-none number p xs = record { same = refl }

-- the marks are as many as they were
pub length-marking : {A : Type 0} {number : A → ℕ} {p : A → Bool} {xs : List A} {i : ℕ} {marks : List Bool} → Marking number p xs i marks → length marks ≡ 65
length-marking {number = number} {p = p} {xs = xs} {i = i} m = ap length m.same ∙ length-marks (map number (keep p (take i xs)))

module _ {A : Type 0} {number : A → ℕ} {p : A → Bool} {xs : List A} {i : ℕ} {marks : List Bool} (before : Marking number p xs i marks)
    (z x : A) (inside : i < length xs) (next : x ≡ get_or xs i z) where
  -- the next is kept, and its number marked
  pub marking-yes : {after : List Bool} → p x ≡ true → after ≡ set marks (number x) true → Marking number p xs (i + 1) after
  marking-yes e mark =
      let more : keep p (take (i + 1) xs) ≡ keep p (take i xs) ++ (x ∷ []) = keep-more p xs i z inside ∙ rw (← next, e) in
      record {
        same =
            mark
            ∙ ap (λ (l : List Bool). set l (number x) true) before.same
            ∙ marks-more (map number (keep p (take i xs))) (number x)
            ∙ ap marks_of (sym (ap (map number) more ∙ map-append number (keep p (take i xs)) (x ∷ [])));
      }

  -- it is given up
  pub marking-no : p x ≡ false → Marking number p xs (i + 1) marks
  marking-no e =
      let same : keep p (take (i + 1) xs) ≡ keep p (take i xs) = keep-more p xs i z inside ∙ rw (← next, e) (append-nil (keep p (take i xs))) in
      record { same = before.same ∙ ap (λ (l : List A). marks_of (map number l)) (sym same) }

-- all n are passed, n cut to the room
pub marking-all : {A : Type 0} {number : A → ℕ} {p : A → Bool} {xs : List A} {i : ℕ} {marks : List Bool} → Marking number p xs i marks
    → (n room : ℕ) → length xs ≡ room → i ≡ min n room → marks ≡ marks_of (map number (keep p (take n xs)))
marking-all {A = A} {number = number} {p = p} {xs = xs} m n room full cut =
    m.same ∙ rw cut (ap (λ (l : List A). marks_of (map number (keep p l))) (take-most xs n room full))
