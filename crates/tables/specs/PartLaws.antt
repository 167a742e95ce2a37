-- The parts of words after a write: the part written, one in front of it and one behind it. Records in a table and tables in
-- all words are such parts, so both are read off these laws.
-- Assumes nothing.
use Rattle.std.specs.Prelude.{◌≡◌, refl, ℕ, zero, suc, ◌+◌, ◌-◌, ◌≤◌, ◌<◌, set}
use Rattle.std.proofs.Math.Path.{sym, ap}
use Rattle.std.proofs.Common.{◌∙◌, add-suc, add-one, length-take, take-append-drop, drop-cons, length-take-le, drop_at, drop-drop}
use native.Mathlib.Omega.{arith}
use mathlib.Core.List.{List, [], ◌∷◌, ◌++◌, append_assoc}
use Rattle.std.proofs.Math.ListN.{length, take, drop, length-drop}
use Rattle.std.proofs.lemmas.List.Edits.{sets, sets-eq}
use Rattle.std.proofs.Math.Seq.{take_at, take-append-le, drop-append-add}
use Rattle.std.proofs.lemmas.List.{drop-append-le}
use Rattle.lists.specs.Put.{put}
use Rattle.tables.specs.Words.{word, part}

pub length_part : (w : List ℕ) (from n : ℕ) → from + n ≤ length w → length (part w from n) ≡ n
length_part w from n inside = rw (length-take, length-drop) (omega arith)

module _ (w e : List ℕ) (from : ℕ) (inside : from + length e ≤ length w) where
  front : length (take from w) ≡ from
  front = length-take-le from w (omega arith)

  -- the part itself
  pub part-here : (n : ℕ) → length e ≡ n → part (put w from e) from n ≡ e
  unfolding put
  part-here n long =
      ap (take n) (drop_at (take from w) (e ++ drop (from + length e) w) from front) ∙ take_at e (drop (from + length e) w) n long

  -- one in front of it
  pub part-before : (a m : ℕ) → a + m ≤ from → part (put w from e) a m ≡ part w a m
  unfolding put
  part-before a m h =
      let f = front in
      let le : a ≤ length (take from w) = omega arith in
      let enough : m ≤ length (drop a (take from w)) = rw length-drop (omega arith) in
      ap (take m) (drop-append-le a (take from w) (e ++ drop (from + length e) w) le)
      ∙ take-append-le m (drop a (take from w)) (e ++ drop (from + length e) w) enough
      ∙ sym (ap (λ (l : List ℕ). take m (drop a l)) (sym (take-append-drop from w))
      ∙ ap (take m) (drop-append-le a (take from w) (drop from w) le)
      ∙ take-append-le m (drop a (take from w)) (drop from w) enough)

  -- one behind it
  pub part-behind : (a m : ℕ) → from + length e ≤ a → part (put w from e) a m ≡ part w a m
  unfolding put
  part-behind a m h =
      let f = front in
      let place : a ≡ length (take from w) + (length e + (a - (from + length e))) = omega arith in
      let back : from + length e + (a - (from + length e)) ≡ a = omega arith in
      ap (λ (k : ℕ). take m (drop k (take from w ++ (e ++ drop (from + length e) w)))) place
      ∙ ap (take m) (drop-append-add (take from w) (e ++ drop (from + length e) w) (length e + (a - (from + length e))))
      ∙ ap (take m) (drop-append-add e (drop (from + length e) w) (a - (from + length e)))
      ∙ ap (take m) (drop-drop (a - (from + length e)) (from + length e) w)
      ∙ ap (λ (k : ℕ). take m (drop k w)) back

-- w with e in place of n words from a place on: what lending that part leaves
abbrev pub lent : List ℕ → ℕ → ℕ → List ℕ → List ℕ
lent w from n e = take from w ++ (e ++ drop n (drop from w))

-- it is a write
pub lent-put : (w e : List ℕ) (from n : ℕ) → length e ≡ n → lent w from n e ≡ put w from e
unfolding put
lent-put w e from n long = ap (λ (l : List ℕ). take from w ++ (e ++ l)) (drop-drop n from w ∙ ap (λ (k : ℕ). drop (from + k) w) (sym long))

module _ (w e : List ℕ) (from n : ℕ) (long : length e ≡ n) (room : from + n ≤ length w) where
  fits : from + length e ≤ length w
  fits = omega arith

  pub lent-here : part (lent w from n e) from n ≡ e
  lent-here = ap (λ (l : List ℕ). part l from n) (lent-put w e from n long) ∙ part-here w e from fits n long

  pub lent-before : (a m : ℕ) → a + m ≤ from → part (lent w from n e) a m ≡ part w a m
  lent-before a m h = ap (λ (l : List ℕ). part l a m) (lent-put w e from n long) ∙ part-before w e from fits a m h

  pub lent-behind : (a m : ℕ) → from + n ≤ a → part (lent w from n e) a m ≡ part w a m
  lent-behind a m h = ap (λ (l : List ℕ). part l a m) (lent-put w e from n long) ∙ part-behind w e from fits a m (omega arith)

-- ---- words read one by one

-- the words at `at`, `at + 1`, `at + 2` and so on: the first, and then those from `at + m` on
abbrev pub row_from : List ℕ → ℕ → ℕ → ℕ → List ℕ
row_from w at m zero = []
row_from w at m (suc k) = word w (at + m) ∷ row_from w at (suc m) k

abbrev pub row : List ℕ → ℕ → ℕ → List ℕ
row w at zero = []
row w at (suc k) = word w at ∷ row_from w at 1 k

row_from-part : (w : List ℕ) (at m k : ℕ) → at + m + k ≤ length w → part w (at + m) k ≡ row_from w at m k
row_from-part w at m zero h = refl
row_from-part w at m (suc k) h =
    let below : at + m < length w = omega arith in
    let rest : at + suc m + k ≤ length w = omega arith in
    ap (take (suc k)) (drop-cons w (at + m) 0 below)
    ∙ ap (λ (j : ℕ). word w (at + m) ∷ take k (drop j w)) (sym (add-suc at m))
    ∙ ap (λ (l : List ℕ). word w (at + m) ∷ l) (row_from-part w at (suc m) k rest)

-- they are the part
pub part-row : (w : List ℕ) (at k : ℕ) → at + k ≤ length w → part w at k ≡ row w at k
part-row w at zero h = refl
part-row w at (suc k) h =
    let below : at < length w = omega arith in
    let rest : at + 1 + k ≤ length w = omega arith in
    ap (take (suc k)) (drop-cons w at 0 below)
    ∙ ap (λ (j : ℕ). word w at ∷ take k (drop j w)) (sym (add-one at))
    ∙ ap (λ (l : List ℕ). word w at ∷ l) (row_from-part w at 1 k rest)

-- ---- words stored one by one

-- the words x stored at `at`, `at + 1`, `at + 2` and so on: the first, and then those from `at + m` on
abbrev pub stores_from : List ℕ → ℕ → ℕ → List ℕ → List ℕ
stores_from d at m [] = d
stores_from d at m (x ∷ xs) = stores_from (set d (at + m) x) at (suc m) xs

abbrev pub stores : List ℕ → ℕ → List ℕ → List ℕ
stores d at [] = d
stores d at (x ∷ xs) = stores_from (set d at x) at 1 xs

stores_from-sets : (d : List ℕ) (at m : ℕ) (x : List ℕ) → stores_from d at m x ≡ sets d (at + m) x
stores_from-sets d at m [] = refl
stores_from-sets d at m (x ∷ xs) = stores_from-sets (set d (at + m) x) at (suc m) xs ∙ ap (λ (j : ℕ). sets (set d (at + m) x) j xs) (add-suc at m)

stores-sets : (d : List ℕ) (at : ℕ) (x : List ℕ) → stores d at x ≡ sets d at x
stores-sets d at [] = refl
stores-sets d at (x ∷ xs) = stores_from-sets (set d at x) at 1 xs ∙ ap (λ (j : ℕ). sets (set d at x) j xs) (add-one at)

-- they are one write
pub stores-put : (d x : List ℕ) (at : ℕ) → at + length x ≤ length d → stores d at x ≡ put d at x
unfolding put
stores-put d x at fits = stores-sets d at x ∙ sets-eq x d at fits ∙ append_assoc (take at d) x (drop (at + length x) d)
