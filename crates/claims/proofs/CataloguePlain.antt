-- Of specs/CataloguePlain.antt: what rests on its other theorems. Assumes nothing.
use Rattle.std.specs.Prelude.{◌≡◌, ◌↔◌, true, false, ◌&&◌, get_or, eqb}
use Rattle.std.proofs.Math.Path.{refl, ap}
use Rattle.std.proofs.Common.{sym}
use Rattle.std.proofs.Math.Logic.{inl, inr}
use Rattle.std.proofs.lemmas.Bool.{false≢true}
use mathlib.Core.List.{List, [], ◌∷◌}
use Prim.Native.Nat.{ℕ, zero, suc, ◌<◌}
use Rattle.std.proofs.Math.ListN.{length}
use Rattle.std.proofs.Math.Dec.{leb}
use borrow.Author.Tests.{leb-true, le-leb, leb-false, eqb-true, eq-eqb, not-true, not-false}
use native.Mathlib.Omega.{arith}
use Rattle.std.proofs.Math.Decide.{dec_lt}
use Rattle.lists.specs.Walk.{all}
use Rattle.lists.specs.Truth.{both_hold, hold-both, not-holds, fails, not-decided-twice}
use Rattle.lists.specs.Members.{all-each, each_all}
use Rattle.lists.specs.PairLaws.{tails-pairs, pairs-tails}
use Rattle.records.specs.Empty.{no_name}
use Rattle.records.specs.declared.Name.{Name}
use Rattle.catalogue.specs.Name.{folded, same_name, name_bytes, is_named, name_ok, differ, none_doubled, catalogue_ok}
use Rattle.claims.specs.CataloguePlain.{BrokenRule, PlainCatalogue, SameByte, SameName, broken-fails, byte-back, byte-ok, byte-says, bytes_at, computed-name, held, name-broken, not-all, not-pairs, one-fails, plain-name}
use Rattle.claims.specs.CataloguePlain.{doubled}
use Rattle.claims.specs.CataloguePlain.{over-16}

pub name_back : (xs ys : List ℕ) → SameName xs ys → SameName ys xs
name_back xs ys s =
    let long = s.as_long in
    record { as_long = sym long; each-byte = λ i h. let k : i < length xs = omega arith in byte-back (s.each-byte i k) }

pub name-says : (xs ys : List ℕ) → same_name xs ys ≡ true → SameName xs ys
unfolding same_name
name-says [] [] e = record { as_long = refl; each-byte = λ i h. absurd (let z : ⊥ = omega arith in z) }
name-says [] (b ∷ bs) e = absurd (false≢true e)
name-says (a ∷ rest) [] e = absurd (false≢true e)
name-says (a ∷ rest) (b ∷ bs) e =
    let both = both_hold (eqb (folded a) (folded b)) (same_name rest bs) e in
    let later = name-says rest bs both.1 in
    record {
      as_long = ap suc later.as_long;
      each-byte = places (byte-says a b (eqb-true (folded a) (folded b) both.0)) later;
    }
  where
    places : SameByte a b → SameName rest bs → (i : ℕ) → i < length (a ∷ rest) → SameByte (get_or (a ∷ rest) i 0) (get_or (b ∷ bs) i 0)
    places s later zero h = s
    places s later (suc i) h = let k : i < length rest = omega arith in later.each-byte i k

pub name-ok : (xs ys : List ℕ) → SameName xs ys → same_name xs ys ≡ true
unfolding same_name
name-ok [] [] s = refl
name-ok [] (b ∷ bs) s = absurd (let long : 0 ≡ suc (length bs) = s.as_long in let z : ⊥ = omega arith in z)
name-ok (a ∷ rest) [] s = absurd (let long : suc (length rest) ≡ 0 = s.as_long in let z : ⊥ = omega arith in z)
name-ok (a ∷ rest) (b ∷ bs) s =
    let long : suc (length rest) ≡ suc (length bs) = s.as_long in
    hold-both (eqb (folded a) (folded b)) (same_name rest bs)
    (eq-eqb (folded a) (folded b) (byte-ok a b (s.each-byte 0 (omega arith))))
    (name-ok rest bs (record { as_long = omega arith; each-byte = λ i h. let k : suc i < suc (length rest) = omega arith in s.each-byte (suc i) k }))

-- "compared with ASCII letters caseless": the computed test holds of just the names that the words describe
pub same-name-plain : (xs ys : List ℕ) → (same_name xs ys ≡ true) ↔ SameName xs ys
same-name-plain xs ys = (name-says xs ys, name-ok xs ys)

pub differ-says : (n m : Name) → differ n m ≡ true → SameName (name_bytes n) (name_bytes m) → ⊥
unfolding differ is_named
differ-says n m h s =
    not-decided-twice (same_name (name_bytes m) (name_bytes n)) (name-ok (name_bytes m) (name_bytes n) (name_back (name_bytes n) (name_bytes m) s))
    (not-true (same_name (name_bytes m) (name_bytes n)) h)

pub differ-ok : (n m : Name) → (SameName (name_bytes n) (name_bytes m) → ⊥) → differ n m ≡ true
unfolding differ is_named
differ-ok n m h =
    not-holds (same_name (name_bytes m) (name_bytes n))
    (fails (same_name (name_bytes m) (name_bytes n)) (λ e. h (name_back (name_bytes m) (name_bytes n) (name-says (name_bytes m) (name_bytes n) e))))

module _ (names : List Name) (count : ℕ) where
  pub doubled-says : none_doubled (held names count) ≡ true → (i j : ℕ) → i < length (held names count) → j < length (held names count) → (i ≡ j → ⊥)
      → SameName (bytes_at names count i) (bytes_at names count j) → ⊥
  unfolding none_doubled
  doubled-says h i j a b different s =
      elim (dec_lt i j) [
        | yes k ↦ differ-says (get_or (held names count) i no_name) (get_or (held names count) j no_name) (tails-pairs no_name differ (held names count) h i j k b) s
        | no k ↦
            let later : j < i = omega arith in
            differ-says (get_or (held names count) j no_name) (get_or (held names count) i no_name) (tails-pairs no_name differ (held names count) h j i later a)
            (name_back (bytes_at names count i) (bytes_at names count j) s)
      ]

  pub doubled-ok : ((i j : ℕ) → i < length (held names count) → j < length (held names count) → (i ≡ j → ⊥) → SameName (bytes_at names count i) (bytes_at names count j) → ⊥)
      → none_doubled (held names count) ≡ true
  unfolding none_doubled
  doubled-ok h =
      pairs-tails no_name differ (held names count) λ i j a b.
      let c : i < length (held names count) = omega arith in
      differ-ok (get_or (held names count) i no_name) (get_or (held names count) j no_name) (h i j c b (λ e. let z : ⊥ = omega arith in z))

  pub catalogue-says : catalogue_ok names count ≡ true → PlainCatalogue names count
  unfolding catalogue_ok
  catalogue-says e =
      let a = both_hold (leb count 16) (all name_ok (held names count) && none_doubled (held names count)) e in
      let b = both_hold (all name_ok (held names count)) (none_doubled (held names count)) a.1 in
      record {
        most = leb-true count 16 a.0;
        each-name = λ n m. plain-name n (all-each name_ok m b.0);
        different = doubled-says b.1;
      }

  pub catalogue-ok : PlainCatalogue names count → catalogue_ok names count ≡ true
  unfolding catalogue_ok
  catalogue-ok p =
      hold-both (leb count 16) (all name_ok (held names count) && none_doubled (held names count)) (le-leb count 16 p.most)
      (hold-both (all name_ok (held names count)) (none_doubled (held names count)) (each_all name_ok (held names count) (λ n m. computed-name n (p.each-name n m))) (doubled-ok p.different))

  pub names-doubled : none_doubled (held names count) ≡ false → BrokenRule names count
  unfolding none_doubled differ is_named
  names-doubled e =
      let q = not-pairs no_name differ (held names count) e in
      let first = bytes_at names count q.0 in
      let second = bytes_at names count q.1 in
      let k : q.0 < q.1 = q.2 in
      let b : q.1 < length (held names count) = q.3 in
      let a : q.0 < length (held names count) = omega arith in
      doubled q.0 q.1 a b (λ z. let no : ⊥ = omega arith in no)
      (name_back second first (name-says second first (not-false (same_name second first) q.4)))

  -- where the test fails, a rule is broken
  pub rule-broken : catalogue_ok names count ≡ false → BrokenRule names count
  unfolding catalogue_ok
  rule-broken e =
      elim (one-fails (leb count 16) (all name_ok (held names count) && none_doubled (held names count)) e) [
        | inl h ↦ over-16 (leb-false count 16 h)
        | inr f ↦
            elim (one-fails (all name_ok (held names count)) (none_doubled (held names count)) f.1) [
              | inl h ↦ let n = not-all name_ok (held names count) h in (name-broken names count) n.0 n.1 n.2
              | inr h ↦ names-doubled h.1
            ]
      ]

  -- and the other way round
  pub rule-fails : BrokenRule names count → catalogue_ok names count ≡ false
  rule-fails b = fails (catalogue_ok names count) (λ e. (broken-fails names count) b (catalogue-says e))
