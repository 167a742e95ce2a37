-- Tables by number: what the record with a number has, made from the last record to the first, and the rules that each record
-- is tested for on the way. One law for sessions, trees and opens.
-- Assumes nothing.
use Rattle.std.specs.Prelude.{◌≡◌, Bool, true, false, cond, ◌&&◌, ◌||◌, take, drop, get_or, leb, ltb}
use Rattle.std.proofs.Math.Path.{refl, sym, ap}
use Rattle.std.proofs.Common.{◌∙◌, mod-eq_of_lt}
use Prim.Native.Nat.{ℕ, zero, suc, ◌+◌, ◌-◌, ◌%◌, ◌≤◌, ◌<◌}
use Rattle.std.proofs.Math.Decide.{dec_le, dec_lt}
use native.Mathlib.Omega.{arith}
use Rattle.std.proofs.Math.Bool.{not}
use mathlib.Core.List.{List, [], ◌∷◌, map}
use Rattle.std.proofs.Math.ListN.{length, set, get_or-eq_default}
use Rattle.std.proofs.Math.Seq.{ext_get_or}
use Rattle.std.proofs.Math.Dec.{eqb}
use borrow.Author.Tests.{leb-true, le-leb, lt-leb, lt-ltb, le-ltb, eq-eqb, ne_eqb}
use Rattle.lists.specs.Truth.{both_hold}
use Rattle.lists.specs.Walk.{any, all_tails, rest, rest-cons, rest-none}
use Rattle.tables.specs.Words.{up_to}
use Rattle.tables.specs.ArrayLaws.{length-up_to, get_d-up_to, up_to-set}
use Rattle.numbers.specs.Number.{contains, number_ok, numbered}

pub last-false : (b : Bool) → b && false ≡ false
last-false true = refl
last-false false = refl

-- a word that its field can hold is not changed by the cut
pub uncut : (x limit : ℕ) → x ≤ limit → x % suc limit ≡ x
uncut x limit h = mod-eq_of_lt (let q : x < suc limit = omega arith in q)

module _ {A : Type 0} where
  -- what the first record with that number has, or `none`
  unfoldable pub entry : (A → ℕ) → (A → ℕ) → ℕ → List A → ℕ → ℕ
  entry key value none [] k = none
  entry key value none (x ∷ xs) k = cond (eqb (key x) k) (value x) (entry key value none xs k)

  -- for each number below n
  unfoldable pub by_number : (A → ℕ) → (A → ℕ) → ℕ → ℕ → List A → List ℕ
  by_number key value none n xs = up_to (entry key value none xs) n

-- whether a number is one of the table's, from 1 on, and nothing stands there
unfoldable pub number_free : ℕ → List ℕ → ℕ → Bool
number_free none table number = leb 1 number && (ltb number (length table) && eqb (get_or table number 0) none)

module _ {A : Type 0} (key value : A → ℕ) (none : ℕ) where
  pub length-by_number : (n : ℕ) (xs : List A) → length (by_number key value none n xs) ≡ n
  unfolding by_number
  length-by_number n xs = length-up_to (entry key value none xs) n

  pub by_number-at : (n : ℕ) (xs : List A) (k d : ℕ) → k < n → get_or (by_number key value none n xs) k d ≡ entry key value none xs k
  unfolding by_number
  by_number-at n xs k d h = get_d-up_to (entry key value none xs) n k d h

  -- one record more in front sets one entry
  pub by_number-cons : (n : ℕ) (x : A) (xs : List A) → key x < n
      → by_number key value none n (x ∷ xs) ≡ set (by_number key value none n xs) (key x) (value x)
  unfolding by_number entry
  by_number-cons n x xs h =
      up_to-set (entry key value none xs) (entry key value none (x ∷ xs)) n (key x) (value x) h
      (rw (eq-eqb (key x) (key x) refl))
      (λ j e. rw (ne_eqb (key x) j (λ q. e (sym q))))

  -- one whose number is past the table sets none
  pub by_number-past : (n : ℕ) (x : A) (xs : List A) → n ≤ key x → by_number key value none n (x ∷ xs) ≡ by_number key value none n xs
  unfolding entry
  by_number-past n x xs h =
      ext_get_or 0 (by_number key value none n (x ∷ xs)) (by_number key value none n xs)
      (length-by_number n (x ∷ xs) ∙ sym (length-by_number n xs))
      (λ j k.
      let inside : j < n = rw (length-by_number n (x ∷ xs)) at k in
      by_number-at n (x ∷ xs) j 0 inside ∙ rw (ne_eqb (key x) j (λ q. let z : ⊥ = omega arith in z)) (sym (by_number-at n xs j 0 inside)))

  -- a number above those in use has no record
  entry-above : (limit : ℕ) (xs : List A) (k : ℕ) → numbered limit (map key xs) ≡ true → limit < k → entry key value none xs k ≡ none
  unfolding entry numbered all_tails number_ok
  entry-above limit [] k e h = refl
  entry-above limit (x ∷ xs) k e h =
      let a = both_hold (number_ok limit (key x) (map key xs)) (numbered limit (map key xs)) e in
      let b = both_hold (leb 1 (key x)) (leb (key x) limit && not (contains (key x) (map key xs))) a.0 in
      let c = both_hold (leb (key x) limit) (not (contains (key x) (map key xs))) b.1 in
      let small : key x ≤ limit = leb-true (key x) limit c.0 in
      rw (ne_eqb (key x) k (λ q. omega arith)) (entry-above limit xs k a.1 h)

  -- over numbers in order the table says what the records say
  pub by_number-serves : (limit : ℕ) (xs : List A) (k : ℕ) → numbered limit (map key xs) ≡ true
      → get_or (by_number key value none (suc limit) xs) k none ≡ entry key value none xs k
  by_number-serves limit xs k e =
      elim (dec_lt k (suc limit)) [
        | yes h ↦ by_number-at (suc limit) xs k none h
        | no h ↦
            let long : length (by_number key value none (suc limit) xs) ≡ suc limit = length-by_number (suc limit) xs in
            let past : length (by_number key value none (suc limit) xs) ≤ k = omega arith in
            get_or-eq_default (by_number key value none (suc limit) xs) none past ∙ sym (entry-above limit xs k e (omega arith))
      ]

  -- a number has an entry exactly if it is in use, where what a record has is never `none`
  entry-none : (b : Bool) (v e : ℕ) (c : Bool) → (v ≡ none → ⊥) → eqb e none ≡ not c → eqb (cond b v e) none ≡ not (b || c)
  entry-none true v e c h q = ne_eqb v none h
  entry-none false v e c h q = q

  module _ (rule : A → List A → Bool) (some : (x : A) (later : List A) → rule x later ≡ true → value x ≡ none → ⊥) where
    entry_free : (xs : List A) (k : ℕ) → all_tails rule xs ≡ true → eqb (entry key value none xs k) none ≡ not (contains k (map key xs))
    unfolding entry all_tails contains any
    entry_free [] k e = eq-eqb none none refl
    entry_free (x ∷ xs) k e =
        let a = both_hold (rule x xs) (all_tails rule xs) e in
        entry-none (eqb (key x) k) (value x) (entry key value none xs k) (contains k (map key xs)) (some x xs a.0) (entry_free xs k a.1)

    outside : (x a l d : Bool) → (x ≡ true → l ≡ false) → x && (a && (l && d)) ≡ false
    outside true a l d h = rw (h refl) (last-false a)
    outside false a l d h = refl

    -- a word is a free number of the table: it fits its field, and the number is in order before those behind it
    pub free-number : (limit : ℕ) (xs : List A) (table : List ℕ) (number : ℕ) → limit ≤ 65535 → all_tails rule xs ≡ true
        → table ≡ by_number key value none (suc limit) xs
        → number_free none table number ≡ leb number 65535 && number_ok limit (number % 65536) (map key xs)
    unfolding number_free number_ok
    free-number limit xs table number fits e q =
        let long : length table ≡ suc limit = ap length q ∙ length-by_number (suc limit) xs in
        elim (dec_le number limit) [
          | yes h ↦
              let wide : number ≤ 65535 = omega arith in
              let inside : number < suc limit = omega arith in
              let read : eqb (get_or table number 0) none ≡ not (contains number (map key xs)) =
              rw (q, by_number-at (suc limit) xs number 0 inside) (entry_free xs number e)
              in
              rw (long, lt-ltb number (suc limit) inside, le-leb number 65535 wide, uncut number 65535 wide, le-leb number limit h, read)
          | no h ↦
              let past : suc limit ≤ number = omega arith in
              rw (long, le-ltb number (suc limit) past, last-false (leb 1 number))
              (sym (outside (leb number 65535) (leb 1 (number % 65536)) (leb (number % 65536) limit) (not (contains (number % 65536) (map key xs)))
              (λ w.
              let wide : number ≤ 65535 = leb-true number 65535 w in
              rw (uncut number 65535 wide) (lt-leb number limit (omega arith)))))
        ]

-- ---- a table of marks, 1 for each number in use

mark : (b : Bool) (e : ℕ) (c : Bool) → eqb e 1 ≡ c → eqb (cond b 1 e) 1 ≡ (b || c)
mark true e c q = refl
mark false e c q = q

pub entry-mark : {A : Type 0} (key : A → ℕ) (xs : List A) (k : ℕ) → eqb (entry key (λ _. 1) 0 xs k) 1 ≡ contains k (map key xs)
unfolding entry contains any
entry-mark key [] k = refl
entry-mark key (x ∷ xs) k = mark (eqb (key x) k) (entry key (λ _. 1) 0 xs k) (contains k (map key xs)) (entry-mark key xs k)

-- ---- the walk that makes a table

module _ {A : Type 0} where
  -- a rule that fails of an element and those behind it fails of the list
  tails-part : (rule : A → List A → Bool) (xs : List A) (i : ℕ) → all_tails rule (drop i xs) ≡ false → all_tails rule xs ≡ false
  unfolding all_tails
  tails-part rule xs zero e = e
  tails-part rule [] (suc i) e = e
  tails-part rule (x ∷ xs) (suc i) e = rw (tails-part rule xs i e) (last-false (rule x xs))

  -- a walk from the last of the first n records has come to place i: the records behind it keep the rule, and stand in the table
  pub record Marked (key value : A → ℕ) (none size : ℕ) (rule : A → List A → Bool) (xs : List A) (n i : ℕ) (table : List ℕ) : Type 0 where
    pub made : table ≡ by_number key value none size (rest xs n i)
    pub keeps : all_tails rule (rest xs n i) ≡ true

module _ {A : Type 0} {key value : A → ℕ} {none size : ℕ} {rule : A → List A → Bool} {xs : List A} {n : ℕ} where
  pub marked_start : (i : ℕ) (table : List ℕ) → n ≤ i → table ≡ by_number key value none size [] → Marked key value none size rule xs n i table
  unfolding all_tails
  marked_start i table h e =
      record {
        made = rw (rest-none xs n i h) e;
        keeps = rw (rest-none xs n i h);
      }

  module _ (i : ℕ) (table : List ℕ) (m : Marked key value none size rule xs n i table) (d : A) (h : 0 < i) (k : i ≤ n) (l : i ≤ length xs) where
    prev : rest xs n (i - 1) ≡ get_or xs (i - 1) d ∷ rest xs n i
    prev =
        let back : i - 1 + 1 ≡ i = omega arith in
        rest-cons xs n (i - 1) d (omega arith) (omega arith) ∙ ap (λ (j : ℕ). get_or xs (i - 1) d ∷ rest xs n j) back

    -- the record in front of them keeps the rule
    pub marked-yes : rule (get_or xs (i - 1) d) (rest xs n i) ≡ true → key (get_or xs (i - 1) d) < size
        → Marked key value none size rule xs n (i - 1) (set table (key (get_or xs (i - 1) d)) (value (get_or xs (i - 1) d)))
    unfolding all_tails
    marked-yes e f =
        record {
          made =
              rw (prev, by_number-cons key value none size (get_or xs (i - 1) d) (rest xs n i) f)
              (ap (λ (t : List ℕ). set t (key (get_or xs (i - 1) d)) (value (get_or xs (i - 1) d))) m.made);
          keeps = rw (prev, e) m.keeps;
        }

    -- it does not
    pub marked-no : rule (get_or xs (i - 1) d) (rest xs n i) ≡ false → all_tails rule (take n xs) ≡ false
    unfolding all_tails
    marked-no e = tails-part rule (take n xs) (i - 1) (rw (prev, e))
