-- The array that a table's words hold: record by record, after a record is written, and after the count is. Proved once, for
-- any reader f of a record of k words and n records.
-- Assumes nothing.
use Rattle.std.specs.Prelude.{◌≡◌, true, get_or}
use Rattle.std.proofs.Math.Path.{refl, ap}
use Rattle.std.proofs.Common.{sym, ◌∙◌, mul-suc, mul-le-mul_left, length-set, ext_get_or, get_or-set_same, get_or-set_other}
use Prim.Native.Nat.{ℕ, zero, suc, ◌+◌, ◌*◌, ◌≤◌, ◌<◌}
use Rattle.std.proofs.Math.Numerals.{add-one}
use Rattle.std.proofs.Math.Decide.{ℕ_discrete, dec_le}
use native.Mathlib.Omega.{arith}
use mathlib.Core.List.{List, [], ◌∷◌}
use Rattle.std.proofs.Math.ListN.{length, set, length-append, get_or-append}
use Rattle.std.proofs.lemmas.List.{get_or_at}
use Rattle.lists.specs.Put.{put}
use Rattle.lists.specs.PutLaws.{put_front}
use Rattle.records.specs.declared.File.{File}
use Rattle.tables.specs.Words.{word, up_to, record_at, within, array_of, file_of, file_array}
use Rattle.tables.specs.Written.{Wrote, Renewed}
use Rattle.tables.specs.PartLaws.{part-here, part-before, part-behind, row, part-row, stores, stores-put}
use Rattle.tables.specs.RecordLaws.{Within, within-holds}

module _ {A : Type 0} (f : ℕ → A) where
  pub length-up_to : (n : ℕ) → length (up_to f n) ≡ n
  unfolding up_to
  length-up_to zero = refl
  length-up_to (suc n) = length-append (up_to f n) (f n ∷ []) ∙ ap (λ (k : ℕ). k + 1) (length-up_to n) ∙ add-one n

  pub get_d-up_to : (n i : ℕ) (d : A) → i < n → get_or (up_to f n) i d ≡ f i
  unfolding up_to
  get_d-up_to zero i d h = absurd (let z : ⊥ = omega arith in z)
  get_d-up_to (suc n) i d h =
      elim (dec_le n i) [
        | yes k ↦
            let e : i ≡ n = omega arith in
            rw e (get_or_at (up_to f n) (f n) [] d n (length-up_to n))
        | no k ↦
            let l : length (up_to f n) ≡ n = length-up_to n in
            let inside : i < length (up_to f n) = omega arith in
            get_or-append (up_to f n) (f n ∷ []) d i inside ∙ get_d-up_to n i d (omega arith)
      ]

module _ {A : Type 0} (f g : ℕ → A) (n i : ℕ) (x : A) (h : i < n) (here : g i ≡ x) (others : (j : ℕ) → (j ≡ i → ⊥) → g j ≡ f j) where
  entry : (j : ℕ) → j < n → get_or (up_to g n) j x ≡ get_or (set (up_to f n) i x) j x
  entry j k =
      elim (ℕ_discrete j i) [
        | yes e ↦
            let l : length (up_to f n) ≡ n = length-up_to f n in
            let inside : i < length (up_to f n) = omega arith in
            get_d-up_to g n j x k ∙ ap g e ∙ here ∙ sym (ap (λ (m : ℕ). get_or (set (up_to f n) i x) m x) e ∙ get_or-set_same (up_to f n) i x x inside)
        | no e ↦
            get_d-up_to g n j x k ∙ others j e ∙ sym (get_or-set_other (up_to f n) i j x x e ∙ get_d-up_to f n j x k)
      ]

  -- one value changed
  pub up_to-set : up_to g n ≡ set (up_to f n) i x
  up_to-set =
      ext_get_or x (up_to g n) (set (up_to f n) i x)
      (length-up_to g n ∙ sym (length-set (up_to f n) i x ∙ length-up_to f n))
      (λ j k. entry j (rw (length-up_to g n) at k))

module _ {A : Type 0} (f g : ℕ → A) (same : (j : ℕ) → g j ≡ f j) where
  pub up_to-same : (n : ℕ) → up_to g n ≡ up_to f n
  unfolding up_to
  up_to-same zero = refl
  up_to-same (suc n) = rw (up_to-same n, same n)

not-equal-less : {a b : ℕ} → a ≤ b → (a ≡ b → ⊥) → a < b
not-equal-less {a} {b} h e =
    elim (dec_le b a) [
      | yes k ↦ absurd (e (omega arith))
      | no k ↦ omega arith
    ]

-- record i lies behind the records in front of it, and inside the table
pub record-room : (k n i : ℕ) → i < n → 1 + k * i + k ≤ 1 + k * n
record-room k n i h =
    let m : k * suc i ≤ k * n = mul-le-mul_left k h in
    let s : k * suc i ≡ k * i + k = mul-suc k i in
    omega arith

module _ {A : Type 0} (f : List ℕ → A) (k n : ℕ) where
  pub length-array : (w : List ℕ) → length (array_of f k n w) ≡ n
  unfolding array_of
  length-array w = length-up_to (λ i. f (record_at k w i)) n

  pub array_at : (w : List ℕ) (i : ℕ) (d : A) → i < n → get_or (array_of f k n w) i d ≡ f (record_at k w i)
  unfolding array_of
  array_at w i d h = get_d-up_to (λ i. f (record_at k w i)) n i d h

  -- its words as code reads them
  pub record-at : (w : List ℕ) (i : ℕ) (d : A) → i < n → length w ≡ 1 + k * n → get_or (array_of f k n w) i d ≡ f (row w (1 + k * i) k)
  record-at w i d h long = let r = record-room k n i h in array_at w i d h ∙ ap f (part-row w (1 + k * i) k (omega arith))

  module _ (w x : List ℕ) (i : ℕ) (h : i < n) (long : length w ≡ 1 + k * n) (words : length x ≡ k) where
    inside : 1 + k * i + length x ≤ length w
    inside = let r = record-room k n i h in omega arith

    other : (j : ℕ) → (j ≡ i → ⊥) → record_at k (put w (1 + k * i) x) j ≡ record_at k w j
    other j e =
        elim (dec_le i j) [
          | yes b ↦
              let r = record-room k j i (not-equal-less b (λ q. e (sym q))) in
              part-behind w x (1 + k * i) inside (1 + k * j) k (omega arith)
          | no b ↦
              let r = record-room k i j (omega arith) in
              part-before w x (1 + k * i) inside (1 + k * j) k r
        ]

    -- the words of a record written: it stands in its place, and no other changes
    pub array-put : array_of f k n (put w (1 + k * i) x) ≡ set (array_of f k n w) i (f x)
    unfolding array_of
    array-put =
        up_to-set (λ j. f (record_at k w j)) (λ j. f (record_at k (put w (1 + k * i) x) j)) n i (f x) h
        (ap f (part-here w x (1 + k * i) inside k words))
        (λ j e. ap f (other j e))

    -- nor does the count
    pub count-put : word (put w (1 + k * i) x) 0 ≡ word w 0
    count-put = put_front w x (1 + k * i) inside 0 0 (omega arith)

  -- the count written: no record changes
  pub array_count : (w : List ℕ) (c : ℕ) → 0 < length w → array_of f k n (set w 0 c) ≡ array_of f k n w
  unfolding array_of
  array_count w c h =
      let e : set w 0 c ≡ put w 0 (c ∷ []) = stores-put w (c ∷ []) 0 (omega arith) in
      up_to-same (λ j. f (record_at k w j)) (λ j. f (record_at k (set w 0 c) j))
      (λ j. rw e (ap f (part-behind w (c ∷ []) 0 (omega arith) (1 + k * j) k (omega arith)))) n

-- the words of a record stored one by one, as code does it
pub wrote : {A : Type 0} (f : List ℕ → A) (limits : List ℕ) (n : ℕ) (w x : List ℕ) (i : ℕ) (y : A) → i < n → length w ≡ 1 + length limits * n
    → length x ≡ length limits → Within limits x → f x ≡ y
    → Wrote (array_of f (length limits) n) limits w (stores w (1 + length limits * i) x) i y
wrote f limits n w x i y h long words narrow e =
    let k = length limits in
    let r = inside f k n w x i h long words in
    rw (stores-put w x (1 + k * i) r)
    (record {
      array = array-put f k n w x i h long words ∙ ap (set (array_of f k n w) i) e;
      count = count-put f k n w x i h long words;
      fit = ap (within limits) (part-here w x (1 + k * i) r k words) ∙ within-holds limits x narrow;
      stand = other f k n w x i h long words;
    })

-- the same where some of the words are those that stood there
pub renewed : {A : Type 0} (f : List ℕ → A) (limits : List ℕ) (n : ℕ) (w x : List ℕ) (i : ℕ) (y : A) → i < n → length w ≡ 1 + length limits * n
    → length x ≡ length limits → (within limits (record_at (length limits) w i) ≡ true → within limits x ≡ true) → f x ≡ y
    → Renewed (array_of f (length limits) n) limits w (stores w (1 + length limits * i) x) i y
renewed f limits n w x i y h long words narrow e =
    let k = length limits in
    let r = inside f k n w x i h long words in
    rw (stores-put w x (1 + k * i) r)
    (record {
      array = array-put f k n w x i h long words ∙ ap (set (array_of f k n w) i) e;
      count = count-put f k n w x i h long words;
      fit = λ fits. ap (within limits) (part-here w x (1 + k * i) r k words) ∙ narrow fits;
      stand = other f k n w x i h long words;
    })

-- ---- the files, two words each and no count in front

-- words 2 * i and 2 * i + 1 written: those of no other record
pair-other : (w : List ℕ) (i j a b : ℕ) → (j ≡ i → ⊥)
    → (word (set (set w (2 * i) a) (2 * i + 1) b) (2 * j) ≡ word w (2 * j)) × (word (set (set w (2 * i) a) (2 * i + 1) b) (2 * j + 1) ≡ word w (2 * j + 1))
pair-other w i j a b n =
    let v = set w (2 * i) a in (
      get_or-set_other v (2 * i + 1) (2 * j) b 0 (λ e. omega arith) ∙ get_or-set_other w (2 * i) (2 * j) a 0 (λ e. n (let q : j ≡ i = omega arith in q)),
      get_or-set_other v (2 * i + 1) (2 * j + 1) b 0 (λ e. n (let q : j ≡ i = omega arith in q)) ∙ get_or-set_other w (2 * i) (2 * j + 1) a 0 (λ e. omega arith),
    )

pub length-file_array : (w : List ℕ) → length (file_array w) ≡ 16
unfolding file_array
length-file_array w = length-up_to (λ i. file_of (word w (2 * i)) (word w (2 * i + 1))) 16

pub file-at : (w : List ℕ) (i : ℕ) (d : File) → i < 16 → get_or (file_array w) i d ≡ file_of (word w (2 * i)) (word w (2 * i + 1))
unfolding file_array
file-at w i d h = get_d-up_to (λ i. file_of (word w (2 * i)) (word w (2 * i + 1))) 16 i d h

-- a file written: no other changes
pub file_array-set : (w : List ℕ) (i size changes : ℕ) → length w ≡ 32 → i < 16
    → file_array (set (set w (2 * i) size) (2 * i + 1) changes) ≡ set (file_array w) i (file_of size changes)
unfolding file_array
file_array-set w i size changes long h =
    let v = set w (2 * i) size in
    let inside : 2 * i < length w = omega arith in
    let same : length (set w (2 * i) size) ≡ length w = length-set w (2 * i) size in
    let inside' : 2 * i + 1 < length (set w (2 * i) size) = omega arith in
    up_to-set (λ j. file_of (word w (2 * j)) (word w (2 * j + 1))) (λ j. file_of (word (set v (2 * i + 1) changes) (2 * j)) (word (set v (2 * i + 1) changes) (2 * j + 1))) 16 i
    (file_of size changes) h
    (λ k. record {
      size = (get_or-set_other v (2 * i + 1) (2 * i) changes 0 (λ e. omega arith) ∙ get_or-set_same w (2 * i) size 0 inside) k;
      changes = get_or-set_same v (2 * i + 1) changes 0 inside' k;
    })
    (λ j e. let o = pair-other w i j size changes e in λ k. record { size = o.0 k; changes = o.1 k })
