-- The catalogue's rules in plain words (document 02, CR 6: "up to 16 names of 1 to 12 bytes, each with a file number, compared with ASCII letters
-- caseless"), that `catalogue_ok` says just that, and which rule is broken where it fails. Assumes nothing.
use Rattle.std.specs.Prelude.{◌≡◌, ◌⊎◌, Bool, true, false, ◌&&◌, take, get_or, eqb}
use Rattle.std.proofs.Math.Path.{refl, ap}
use Rattle.std.proofs.Common.{sym, ◌∙◌}
use Rattle.std.proofs.Math.Logic.{inl, inr}
use Rattle.std.proofs.lemmas.Bool.{false≢true}
use mathlib.Core.List.Memᴰ.{head as here}
use mathlib.Core.List.Memᴰ.{tail as there}
use mathlib.Core.List.{List, [], ◌∷◌, Memᴰ as In}
use Prim.Native.Nat.{ℕ, suc, ◌+◌, ◌≤◌, ◌<◌}
use Rattle.std.proofs.Math.ListN.{length}
use Rattle.std.proofs.Math.Dec.{leb}
use borrow.Author.Tests.{leb-true, le-leb, leb-false, lt-leb, eqb-true, eqb-false, ne_eqb, not-true, not-false}
use native.Mathlib.Omega.{arith}
use Rattle.std.proofs.Math.Decide.{dec_lt}
use Rattle.lists.specs.Walk.{all, all_tails}
use Rattle.lists.specs.Truth.{both_hold, hold-both, not-holds}
use Rattle.lists.specs.Members.{all-each, each_all}
use Rattle.lists.specs.PairLaws.{in_place}
use Rattle.records.specs.Empty.{no_name}
use Rattle.records.specs.declared.Name.{Name}
use Rattle.catalogue.specs.Name.{folded, name_bytes, not_zero, name_ok}

-- ---- the plain words

-- "ASCII letters caseless": the same byte, or the two an ASCII letter in its two cases (A to Z are 65 to 90, a to z 97 to 122)
pub data SameByte (a b : ℕ) : Type 0 where
  one_byte : a ≡ b → SameByte a b
  large-small : 65 ≤ a → a ≤ 90 → b ≡ a + 32 → SameByte a b
  small-large : 65 ≤ b → b ≤ 90 → a ≡ b + 32 → SameByte a b

-- two names are the same: as many bytes, and at each place the same but for the case of a letter
pub record SameName (xs ys : List ℕ) : Type 0 where
  pub as_long : length xs ≡ length ys
  pub each-byte : (i : ℕ) → i < length xs → SameByte (get_or xs i 0) (get_or ys i 0)

-- the bytes of the name at a place of the catalogue, as many names being in use as the count says
abbrev pub bytes_at : List Name → ℕ → ℕ → List ℕ
bytes_at names count i = name_bytes (get_or (take count names) i no_name)

-- "names of 1 to 12 bytes", without zero bytes, "each with a file number"
pub record PlainName (n : Name) : Type 0 where
  pub some_bytes : 1 ≤ n.length
  pub most_bytes : n.length ≤ 12
  pub no_zero : (b : ℕ) → In b (name_bytes n) → b ≡ 0 → ⊥
  pub its-file : n.file ≤ 15

-- the catalogue's rules: "up to 16 names", each as above, none doubled
pub record PlainCatalogue (names : List Name) (count : ℕ) : Type 0 where
  pub most : count ≤ 16
  pub each-name : (n : Name) → In n (take count names) → PlainName n
  pub different : (i j : ℕ) → i < length (take count names) → j < length (take count names) → (i ≡ j → ⊥)
      → SameName (bytes_at names count i) (bytes_at names count j) → ⊥

-- a rule that is broken: "over 16 names, a name of another length, with a zero byte or doubled, a file above 15"
pub data BrokenRule (names : List Name) (count : ℕ) : Type 0 where
  over-16 : 16 < count → BrokenRule names count
  another-length : (n : Name) → In n (take count names) → (n.length ≡ 0) ⊎ (12 < n.length) → BrokenRule names count
  zero-byte : (n : Name) → In n (take count names) → In 0 (name_bytes n) → BrokenRule names count
  doubled : (i j : ℕ) → i < length (take count names) → j < length (take count names) → (i ≡ j → ⊥)
      → SameName (bytes_at names count i) (bytes_at names count j) → BrokenRule names count
  file-above : (n : Name) → In n (take count names) → 15 < n.file → BrokenRule names count

-- ---- two bytes

folded-large : (a : ℕ) → 65 ≤ a → a ≤ 90 → folded a ≡ a + 32
unfolding folded
folded-large a h k = rw (le-leb 65 a h, le-leb a 90 k)

folded-below : (a : ℕ) → a < 65 → folded a ≡ a
unfolding folded
folded-below a h = rw (lt-leb 65 a h)

folded-above : (a : ℕ) → 90 < a → folded a ≡ a
unfolding folded
folded-above a h = let k : 65 ≤ a = omega arith in rw (le-leb 65 a k, lt-leb a 90 h)

-- a byte is folded, or it is not
Folding : ℕ → Type 0
Folding a = ((65 ≤ a) × (a ≤ 90) × (folded a ≡ a + 32)) ⊎ (((a < 65) ⊎ (90 < a)) × (folded a ≡ a))

folding : (a : ℕ) → Folding a
unfolding Folding
folding a =
    elim (dec_lt a 65) [
      | yes h ↦ inr (inl h, folded-below a h)
      | no h ↦
          elim (dec_lt 90 a) [
            | yes k ↦ inr (inr k, folded-above a k)
            | no k ↦
                let low : 65 ≤ a = omega arith in
                let high : a ≤ 90 = omega arith in
                inl (low, high, folded-large a low high)
          ]
    ]

pub byte-says : (a b : ℕ) → folded a ≡ folded b → SameByte a b
unfolding Folding
byte-says a b e =
    elim (folding a) [
      | inl p ↦
          elim (folding b) [
            | inl q ↦ let same : a + 32 ≡ b + 32 = sym p.2 ∙ e ∙ q.2 in one_byte (omega arith)
            | inr q ↦ large-small p.0 p.1 (sym q.1 ∙ sym e ∙ p.2)
          ]
      | inr p ↦
          elim (folding b) [
            | inl q ↦ small-large q.0 q.1 (sym p.1 ∙ e ∙ q.2)
            | inr q ↦ one_byte (sym p.1 ∙ e ∙ q.1)
          ]
    ]

pub byte-ok : (a b : ℕ) → SameByte a b → folded a ≡ folded b
byte-ok a b (one_byte e) = ap folded e
byte-ok a b (large-small h k e) =
    let past : 90 < b = omega arith in
    folded-large a h k ∙ sym e ∙ sym (folded-above b past)
byte-ok a b (small-large h k e) =
    let past : 90 < a = omega arith in
    folded-above a past ∙ e ∙ sym (folded-large b h k)

pub byte-back : {a b : ℕ} → SameByte a b → SameByte b a
byte-back (one_byte e) = one_byte (sym e)
byte-back (large-small h k e) = small-large h k e
byte-back (small-large h k e) = large-small h k e

-- ---- two names

-- ---- which element, which pair

-- a conjunction that fails: the first test fails, or it holds and the second fails
pub one-fails : (t u : Bool) → (t && u) ≡ false → (t ≡ false) ⊎ ((t ≡ true) × (u ≡ false))
one-fails true u e = inr (refl, e)
one-fails false u e = inl refl

module _ {A : Type 0} where
  -- where not all pass, there is one that fails
  pub not-all : (p : A → Bool) (xs : List A) → all p xs ≡ false → (x : A) × In x xs × (p x ≡ false)
  unfolding all
  not-all p [] e = absurd (false≢true (sym e))
  not-all p (x ∷ xs) e =
      elim (one-fails (p x) (all p xs) e) [
        | inl h ↦ (x, here refl, h)
        | inr h ↦ let r = not-all p xs h.1 in (r.0, there r.1, r.2)
      ]

  -- where a rule for each element and every later one fails, there are two places that break it
  pub not-pairs : (d : A) (r : A → A → Bool) (xs : List A) → all_tails (λ x later. all (r x) later) xs ≡ false
      → (i : ℕ) × (j : ℕ) × (i < j) × (j < length xs) × (r (get_or xs i d) (get_or xs j d) ≡ false)
  unfolding all_tails
  not-pairs d r [] e = absurd (false≢true (sym e))
  not-pairs d r (x ∷ xs) e =
      elim (one-fails (all (r x) xs) (all_tails (λ x later. all (r x) later) xs) e) [
        | inl h ↦
            let y = not-all (r x) xs h in
            let q = in_place d y.1 in
            let k : q.0 < length xs = q.1 in
            let a : 0 < suc q.0 = omega arith in
            let b : suc q.0 < suc (length xs) = omega arith in
            (0, suc q.0, a, b, ap (r x) q.2 ∙ y.2)
        | inr h ↦
            let q = not-pairs d r xs h.1 in
            let k : q.0 < q.1 = q.2 in
            let l : q.1 < length xs = q.3 in
            let a : suc q.0 < suc q.1 = omega arith in
            let b : suc q.1 < suc (length xs) = omega arith in
            (suc q.0, suc q.1, a, b, q.4)
      ]

-- ---- the rules

zero-says : (b : ℕ) → not_zero b ≡ true → b ≡ 0 → ⊥
unfolding not_zero
zero-says b h = eqb-false b 0 (not-true (eqb b 0) h)

zero_ok : (b : ℕ) → (b ≡ 0 → ⊥) → not_zero b ≡ true
unfolding not_zero
zero_ok b h = not-holds (eqb b 0) (ne_eqb b 0 h)

pub plain-name : (n : Name) → name_ok n ≡ true → PlainName n
unfolding name_ok
plain-name n e =
    let a = both_hold (leb 1 n.length) (leb n.length 12 && (all not_zero (name_bytes n) && leb n.file 15)) e in
    let b = both_hold (leb n.length 12) (all not_zero (name_bytes n) && leb n.file 15) a.1 in
    let c = both_hold (all not_zero (name_bytes n)) (leb n.file 15) b.1 in
    record {
      some_bytes = leb-true 1 n.length a.0;
      most_bytes = leb-true n.length 12 b.0;
      no_zero = λ x m. zero-says x (all-each not_zero m c.0);
      its-file = leb-true n.file 15 c.1;
    }

pub computed-name : (n : Name) → PlainName n → name_ok n ≡ true
unfolding name_ok
computed-name n p =
    hold-both (leb 1 n.length) (leb n.length 12 && (all not_zero (name_bytes n) && leb n.file 15)) (le-leb 1 n.length p.some_bytes)
    (hold-both (leb n.length 12) (all not_zero (name_bytes n) && leb n.file 15) (le-leb n.length 12 p.most_bytes)
    (hold-both (all not_zero (name_bytes n)) (leb n.file 15) (each_all not_zero (name_bytes n) (λ b m. zero_ok b (p.no_zero b m)))
    (le-leb n.file 15 p.its-file)))

module _ (names : List Name) (count : ℕ) where
  abbrev pub held : List Name
  held = take count names

  -- a rule that is broken is none that holds
  pub broken-fails : BrokenRule names count → PlainCatalogue names count → ⊥
  broken-fails (over-16 h) p = let k = p.most in omega arith
  broken-fails (another-length n m h) p =
      let a = (p.each-name n m).some_bytes in
      let b = (p.each-name n m).most_bytes in
      elim h [ inl e ↦ let z : ⊥ = omega arith in z | inr e ↦ let z : ⊥ = omega arith in z ]
  broken-fails (zero-byte n m h) p = (p.each-name n m).no_zero 0 h refl
  broken-fails (doubled i j a b d s) p = p.different i j a b d s
  broken-fails (file-above n m h) p = let k = (p.each-name n m).its-file in omega arith

  -- a name that breaks a rule
  pub name-broken : (n : Name) → In n held → name_ok n ≡ false → BrokenRule names count
  unfolding name_ok not_zero
  name-broken n m e =
      elim (one-fails (leb 1 n.length) (leb n.length 12 && (all not_zero (name_bytes n) && leb n.file 15)) e) [
        | inl h ↦ let few : n.length < 1 = leb-false 1 n.length h in another-length n m (inl (omega arith))
        | inr f ↦
            elim (one-fails (leb n.length 12) (all not_zero (name_bytes n) && leb n.file 15) f.1) [
              | inl h ↦ another-length n m (inr (leb-false n.length 12 h))
              | inr g ↦
                  elim (one-fails (all not_zero (name_bytes n)) (leb n.file 15) g.1) [
                    | inl h ↦
                        let b = not-all not_zero (name_bytes n) h in
                        let z : b.0 ≡ 0 = eqb-true b.0 0 (not-false (eqb b.0 0) b.2) in
                        zero-byte n m (rw z at b.1)
                    | inr h ↦ file-above n m (leb-false n.file 15 h.1)
                  ]
            ]
      ]
