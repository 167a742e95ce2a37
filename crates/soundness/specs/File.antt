-- The file that a FID stands for, found through the opens (document 01, "Tables and room").
-- Assumes nothing.
use Rattle.std.specs.Prelude.{◌≡◌, refl, ℕ, zero, suc, ◌+◌, ◌-◌, ◌≤◌, ◌<◌, cond, List, [], ◌∷◌, length, get_or, set, eqb}
use Rattle.std.proofs.Common.{sym, ap, ◌∙◌, length-set, ext_get_or, get_or-set_same, get_or-set_other, eq-eqb, ne_eqb, arith}
use Rattle.std.proofs.Math.Decide.{ℕ_discrete}
use Rattle.lists.specs.Walk.{rest, rest-cons}
use Rattle.records.specs.declared.Open.{Open}

-- the file of the open with that FID, or 255 where there is none
unfoldable pub file_of : List Open → ℕ → ℕ
file_of [] fid = 255
file_of (o ∷ os) fid = cond (eqb o.fid fid) o.file (file_of os fid)

-- the values of f at k, k + 1 and so on, n of them
unfoldable pub tabulate : (ℕ → ℕ) → ℕ → ℕ → List ℕ
tabulate f k zero = []
tabulate f k (suc n) = f k ∷ tabulate f (suc k) n

-- the files of all FIDs that an open can have, by FID
unfoldable pub file_table : List Open → List ℕ
file_table os = tabulate (file_of os) 0 65

length-tabulate : (f : ℕ → ℕ) (k n : ℕ) → length (tabulate f k n) ≡ n
unfolding tabulate
length-tabulate f k zero = refl
length-tabulate f k (suc n) = ap suc (length-tabulate f (suc k) n)

get_d_tabulate : (f : ℕ → ℕ) (k n i d : ℕ) → i < n → get_or (tabulate f k n) i d ≡ f (k + i)
unfolding tabulate
get_d_tabulate f k zero i d h = absurd (let z : ⊥ = omega arith in z)
get_d_tabulate f k (suc n) zero d h = ap f (let e : k ≡ k + 0 = omega arith in e)
get_d_tabulate f k (suc n) (suc i) d h =
    let h' : i < n = omega arith in
    get_d_tabulate f (suc k) n i d h' ∙ ap f (let e : suc k + i ≡ k + suc i = omega arith in e)

pub length-file_table : (os : List Open) → length (file_table os) ≡ 65
unfolding file_table
length-file_table os = length-tabulate (file_of os) 0 65

pub file_table-at : (os : List Open) (fid d : ℕ) → fid < 65 → get_or (file_table os) fid d ≡ file_of os fid
unfolding file_table
file_table-at os fid d h = get_d_tabulate (file_of os) 0 65 fid d h ∙ ap (file_of os) (let e : 0 + fid ≡ fid = omega arith in e)

-- one open more in front sets one entry
pub file_table-cons : (o : Open) (os : List Open) → file_table (o ∷ os) ≡ set (file_table os) o.fid o.file
unfolding file_of
file_table-cons o os =
    ext_get_or 0 (file_table (o ∷ os)) (set (file_table os) o.fid o.file)
    (length-file_table (o ∷ os) ∙ sym (length-set (file_table os) o.fid o.file ∙ length-file_table os))
    (λ i h. entry i (rw (length-file_table (o ∷ os)) at h))
  where
    entry : (i : ℕ) → i < 65 → get_or (file_table (o ∷ os)) i 0 ≡ get_or (set (file_table os) o.fid o.file) i 0
    entry i h =
        let here : get_or (file_table (o ∷ os)) i 0 ≡ cond (eqb o.fid i) o.file (file_of os i) = file_table-at (o ∷ os) i 0 h in
        elim (ℕ_discrete o.fid i) [
          | yes e ↦
              let k : o.fid < length (file_table os) = rw (length-file_table os) (omega arith) in
              here ∙ rw (eq-eqb o.fid i e, ← e) (sym (get_or-set_same (file_table os) o.fid o.file 0 k))
          | no n ↦
              here ∙ rw (ne_eqb o.fid i n) (sym (get_or-set_other (file_table os) o.fid i o.file 0 (λ e. n (sym e)) ∙ file_table-at os i 0 h))
        ]

-- the turn of a loop that makes the table from the last open to the first
pub file_table-turn : (xs : List Open) (n i : ℕ) (d : Open) → 0 < i → i ≤ n → i ≤ length xs
    → file_table (rest xs n (i - 1)) ≡ set (file_table (rest xs n i)) (get_or xs (i - 1) d).fid (get_or xs (i - 1) d).file
file_table-turn xs n i d h k l =
    let back : i - 1 + 1 ≡ i = omega arith in
    let a : i - 1 < n = omega arith in
    let b : i - 1 < length xs = omega arith in
    ap file_table (rest-cons xs n (i - 1) d a b)
    ∙ file_table-cons (get_or xs (i - 1) d) (rest xs n (i - 1 + 1))
    ∙ ap (λ (j : ℕ). set (file_table (rest xs n j)) (get_or xs (i - 1) d).fid (get_or xs (i - 1) d).file) back
