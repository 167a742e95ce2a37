-- Taking one record out of an array's list, and the loop that moves those behind it forward.
-- Assumes nothing.
use mathlib.Core.Path.{◌≡◌, sym, ap, ◌∙◌}
use Prim.Native.Nat.{ℕ, suc, ◌+◌, ◌-◌, ◌≤◌, ◌<◌}
use mathlib.Core.List.{List, [], ◌∷◌, ◌++◌, append_assoc, append-nil}
use lib.ListN.{length, take, drop, get_or, set, length-append, length-take, length-drop, drop_of_length-le, take-append-drop}
use lib.Seq.{drop-cons, take-suc, take_at, length-take-le, take-append-le, drop-append-le, set_at, get_or-append-add, get_or-drop}
use native.Mathlib.Numerals.{add-one}
use native.Mathlib.Omega.{arith}
use Rattle.lists.specs.Stored.{stored}
use Rattle.records.specs.declared.Lock.{Lock}
use Rattle.locks.specs.Request.{remove_at}

-- the list is shorter by one
pub length-remove_at : (k : ℕ) (l : List Lock) → k < length l → length (remove_at k l) ≡ length l - 1
unfolding remove_at
length-remove_at k l h = simp (length-append, length-take, length-drop) (omega arith)

-- what stands behind the list stays
remove_at-append : (k : ℕ) (l m : List Lock) → k < length l → remove_at k (l ++ m) ≡ remove_at k l ++ m
unfolding remove_at
remove_at-append k l m h =
    let e : k ≤ length l = omega arith in
    let f : suc k ≤ length l = omega arith in
    rw (take-append-le k l m e, drop-append-le (suc k) l m f) (sym (append_assoc (take k l) (drop (suc k) l) m))

-- the last record is taken out
remove_at-last : (l : List Lock) (x : Lock) (k : ℕ) → length l ≡ k → remove_at k (l ++ (x ∷ [])) ≡ l
unfolding remove_at
remove_at-last l x k e =
    let none : length (l ++ (x ∷ [])) ≤ suc k = simp length-append (omega arith) in
    rw (take_at l (x ∷ []) k e, drop_of_length-le (l ++ (x ∷ [])) none) (append-nil l)

-- each record behind the place moves forward by one, and the last is emptied in the end

module _ (xs : List Lock) (place : ℕ) where
  -- the array when the records up to i have moved: the last of them still stands where it stood, too
  abbrev pub moved : ℕ → List Lock
  moved i = remove_at place (take i xs) ++ drop (i - 1) xs

  -- at first none has
  pub moved-start : (d : Lock) → place < length xs → xs ≡ moved (place + 1)
  moved-start d h =
      let le : place ≤ length xs = omega arith in
      let back : place + 1 - 1 ≡ place = omega arith in
      let last : remove_at place (take (suc place) xs) ≡ take place xs =
      ap (remove_at place) (take-suc xs place d h) ∙ remove_at-last (take place xs) (get_or xs place d) place (length-take-le place xs le)
      in
      rw (back, add-one place, last) (sym (take-append-drop place xs))

  module _ (i : ℕ) (before : place < i) (within : i ≤ length xs) where
    -- the list without its record is shorter than i by one
    fewer : length (remove_at place (take i xs)) ≡ i - 1
    fewer =
        let taken : length (take i xs) ≡ i = length-take-le i xs within in
        let short : length (remove_at place (take i xs)) ≡ length (take i xs) - 1 = length-remove_at place (take i xs) (omega arith) in
        omega arith

    -- a record written over the one that still stands
    over : (x : Lock) → set (moved i) (i - 1) x ≡ remove_at place (take i xs) ++ (x ∷ drop i xs)
    over x =
        let inside : i - 1 < length xs = omega arith in
        let next : suc (i - 1) ≡ i = omega arith in
        ap (λ (t : List Lock). set (remove_at place (take i xs) ++ t) (i - 1) x) (drop-cons xs (i - 1) x inside)
        ∙ set_at (remove_at place (take i xs)) (get_or xs (i - 1) x) (drop (suc (i - 1)) xs) x (i - 1) fewer
        ∙ ap (λ (k : ℕ). remove_at place (take i xs) ++ (x ∷ drop k xs)) next

    -- the next record stands where it stood
    next-stands : (d : Lock) → get_or (moved i) i d ≡ get_or xs i d
    next-stands d =
        let f = fewer in
        let at : i ≡ length (remove_at place (take i xs)) + 1 = omega arith in
        let back : i - 1 + 1 ≡ i = omega arith in
        ap (λ (k : ℕ). get_or (moved i) k d) at
        ∙ get_or-append-add (remove_at place (take i xs)) (drop (i - 1) xs) 1 d
        ∙ get_or-drop (i - 1) xs 1 d
        ∙ ap (λ (k : ℕ). get_or xs k d) back

    -- it moves forward by one
    pub moved-step : (d : Lock) → i < length xs → set (moved i) (i - 1) (get_or (moved i) i d) ≡ moved (i + 1)
    moved-step d h =
        let taken : length (take i xs) ≡ i = length-take-le i xs within in
        let back : i + 1 - 1 ≡ i = omega arith in
        let more : remove_at place (take (suc i) xs) ≡ remove_at place (take i xs) ++ (get_or xs i d ∷ []) =
        ap (remove_at place) (take-suc xs i d h) ∙ remove_at-append place (take i xs) (get_or xs i d ∷ []) (omega arith)
        in
        ap (set (moved i) (i - 1)) (next-stands d)
        ∙ over (get_or xs i d)
        ∙ sym (ap (λ (k : ℕ). remove_at place (take (i + 1) xs) ++ drop k xs) back
        ∙ rw (add-one i, more) (append_assoc (remove_at place (take i xs)) (get_or xs i d ∷ []) (drop i xs)))

    -- in the end the last one is emptied
    pub moved-end : (z : Lock) → set (moved i) (i - 1) z ≡ stored z xs i (remove_at place (take i xs))
    unfolding stored
    moved-end z =
        let f = fewer in
        let gap : i - length (remove_at place (take i xs)) ≡ 1 = omega arith in
        let end : length (remove_at place (take i xs)) + 1 ≡ i = omega arith in
        over z ∙ rw (gap, end)
