-- The numbers of a table's records, in the words of the table: the first word of each record, cut to 16 bits.
-- Assumes nothing.
use Rattle.std.specs.Prelude.{◌≡◌, length, take, drop, get_or, set, eqb}
use Rattle.std.proofs.Math.Path.{refl, sym, ap}
use Rattle.std.proofs.Common.{◌∙◌, add-zero, mul-suc, mul-le-mul_left, arith, length-take, ext_get_or, get_or-take, get_or-drop}
use Prim.Native.Nat.{ℕ, zero, suc, min, ◌+◌, ◌*◌, ◌-◌, ◌%◌, ◌≤◌, ◌<◌}
use mathlib.Core.List.{List, [], ◌∷◌, ◌++◌, map}
use Rattle.lists.specs.Walk.{rest, rest-cons}
use Rattle.tables.specs.Words.{word, up_to, record_at, array_of, session_of, tree_of, open_of, session_array, tree_array, open_array}
use Rattle.tables.specs.Written.{sessions_in, trees_in, opens_in}
use Rattle.tables.specs.ArrayLaws.{length-up_to, get_d-up_to, up_to-same}
use Rattle.numbers.specs.Number.{contains}
use Rattle.numbers.specs.Column.{uid_of, tid_of, fid_of}
use Rattle.numbers.specs.ByNumber.{by_number, by_number-at, by_number-cons, by_number-past, entry-mark}

-- the numbers of the first n records of k words each
unfoldable pub numbers_in : ℕ → ℕ → List ℕ → List ℕ
numbers_in k n w = up_to (λ i. word w (1 + k * i) % 65536) n

-- 1 for each of them
unfoldable pub marks_of : List ℕ → List ℕ
marks_of xs = by_number (λ x. x) (λ _. 1) 0 66 xs

-- ---- lists of values of a function, and of its first ones

module _ {A B : Type 0} (f : A → B) where
  map-append : (xs ys : List A) → map f (xs ++ ys) ≡ map f xs ++ map f ys
  map-append [] ys = refl
  map-append (x ∷ xs) ys = ap (λ (l : List B). f x ∷ l) (map-append xs ys)

  pub map-up_to : (g : ℕ → A) (n : ℕ) → map f (up_to g n) ≡ up_to (λ i. f (g i)) n
  unfolding up_to
  map-up_to g zero = refl
  map-up_to g (suc n) = map-append (up_to g n) (g n ∷ []) ∙ ap (λ (l : List B). l ++ (f (g n) ∷ [])) (map-up_to g n)

pub take-up_to : {A : Type 0} (g : ℕ → A) (c n : ℕ) → up_to g (min c n) ≡ take c (up_to g n)
take-up_to g c n =
    ext_get_or (g 0) (up_to g (min c n)) (take c (up_to g n))
    (length-up_to g (min c n) ∙ sym (length-take c (up_to g n) ∙ ap (min c) (length-up_to g n)))
    (λ i h.
    let inside : i < min c n = rw (length-up_to g (min c n)) at h in
    let left : i < c = omega arith in
    let right : i < n = omega arith in
    get_d-up_to g (min c n) i (g 0) inside ∙ sym (get_or-take c (up_to g n) i (g 0) left ∙ get_d-up_to g n i (g 0) right))

-- the first word of a record
first_word : (k : ℕ) (w : List ℕ) (i : ℕ) → 0 < k → word (record_at k w i) 0 ≡ word w (1 + k * i)
first_word k w i h = get_or-take k (drop (1 + k * i) w) 0 0 h ∙ get_or-drop (1 + k * i) w 0 0 ∙ ap (word w) (add-zero (1 + k * i))

-- the numbers of the records in use are those of their words
module _ {A : Type 0} (f : List ℕ → A) (key : A → ℕ) (k n : ℕ) (w : List ℕ) (h : 0 < k) (first : (r : List ℕ) → key (f r) ≡ word r 0 % 65536) where
  pub numbers-in : numbers_in k (min (word w 0) n) w ≡ map key (take (word w 0) (array_of f k n w))
  unfolding numbers_in array_of
  numbers-in =
      up_to-same (λ i. key (f (record_at k w i))) (λ i. word w (1 + k * i) % 65536)
      (λ i. sym (first (record_at k w i) ∙ ap (λ (x : ℕ). x % 65536) (first_word k w i h)))
      (min (word w 0) n)
      ∙ sym (map-up_to key (λ i. f (record_at k w i)) (min (word w 0) n))
      ∙ ap (map key) (take-up_to (λ i. f (record_at k w i)) (word w 0) n)

pub uids-in : (w : List ℕ) → numbers_in 2 (min (word w 0) 16) w ≡ map uid_of (sessions_in w)
unfolding session_array session_of
uids-in w = numbers-in session_of uid_of 2 16 w (omega arith) (λ r. refl)

pub tids-in : (w : List ℕ) → numbers_in 3 (min (word w 0) 32) w ≡ map tid_of (trees_in w)
unfolding tree_array tree_of
tids-in w = numbers-in tree_of tid_of 3 32 w (omega arith) (λ r. refl)

pub fids-in : (w : List ℕ) → numbers_in 9 (min (word w 0) 64) w ≡ map fid_of (opens_in w)
unfolding open_array open_of
fids-in w = numbers-in open_of fid_of 9 64 w (omega arith) (λ r. refl)

-- ---- places of the words

pub length-numbers_in : (k n : ℕ) (w : List ℕ) → length (numbers_in k n w) ≡ n
unfolding numbers_in
length-numbers_in k n w = length-up_to (λ i. word w (1 + k * i) % 65536) n

pub number_at : (k n : ℕ) (w : List ℕ) (i d : ℕ) → i < n → get_or (numbers_in k n w) i d ≡ word w (1 + k * i) % 65536
unfolding numbers_in
number_at k n w i d h = get_d-up_to (λ i. word w (1 + k * i) % 65536) n i d h

-- a record's first word stands inside
pub number-inside : (k n i room : ℕ) → 0 < k → i < n → k * n < room → 1 + k * i < room
number-inside k n i room h l fits =
    let m : k * suc i ≤ k * n = mul-le-mul_left k l in
    let e : k * suc i ≡ k * i + k = mul-suc k i in
    omega arith

-- ---- marks

map_same : (xs : List ℕ) → map (λ x. x) xs ≡ xs
map_same [] = refl
map_same (x ∷ xs) = ap (λ (l : List ℕ). x ∷ l) (map_same xs)

-- a mark says whether the number is in use
pub marks-read : (xs : List ℕ) (k : ℕ) → k < 66 → eqb (get_or (marks_of xs) k 0) 1 ≡ contains k xs
unfolding marks_of
marks-read xs k h =
    ap (λ (x : ℕ). eqb x 1) (by_number-at (λ x. x) (λ _. 1) 0 66 xs k 0 h) ∙ entry-mark (λ x. x) xs k ∙ ap (contains k) (map_same xs)

-- the turn of a loop that marks the numbers from the last to the first
module _ (xs : List ℕ) (n i x : ℕ) (h : 0 < i) (k : i ≤ n) (l : i ≤ length xs) (e : get_or xs (i - 1) 0 ≡ x) where
  prev : rest xs n (i - 1) ≡ x ∷ rest xs n i
  prev =
      let back : i - 1 + 1 ≡ i = omega arith in
      rest-cons xs n (i - 1) 0 (omega arith) (omega arith) ∙ rw (e, back)

  pub marks-turn : x < 66 → set (marks_of (rest xs n i)) x 1 ≡ marks_of (rest xs n (i - 1))
  unfolding marks_of
  marks-turn small = sym (ap marks_of prev ∙ by_number-cons (λ x. x) (λ _. 1) 0 66 x (rest xs n i) small)

  pub marks-past : 66 ≤ x → marks_of (rest xs n i) ≡ marks_of (rest xs n (i - 1))
  unfolding marks_of
  marks-past large = sym (ap marks_of prev ∙ by_number-past (λ x. x) (λ _. 1) 0 66 x (rest xs n i) large)
