-- The walk over the words of a table's records, from the last in use to the first: a turn, and what it says at the end.
-- Assumes nothing.
use Rattle.std.specs.Prelude.{◌≡◌, ℕ, ◌-◌, ◌≤◌, ◌<◌, Bool, true, false, List, [], length, take, get_or, set, leb, ltb, Some, None}
use Rattle.std.proofs.Math.Path.{refl, sym, ap}
use Rattle.std.proofs.Common.{◌∙◌, arith, ltb-true}
use Rattle.lists.specs.Truth.{both_hold}
use Rattle.lists.specs.Walk.{all_tails, rest}
use Rattle.tables.specs.Words.{word, record_at, array_of}
use Rattle.tables.specs.ArrayLaws.{length-up_to, get_d-up_to, up_to-same}
use Rattle.numbers.specs.ByNumber.{entry, by_number, length-by_number, number_free, Marked, marked-yes, marked-no}
use Rattle.soundness.specs.InWords.{rows, in_order, table_in_order, told}
use Rattle.soundness.specs.InWordsLaws.{records-rows, table-in-order, entry-map}

-- a free number lies in its table
pub free-inside : (none : ℕ) (table : List ℕ) (number : ℕ) → number_free none table number ≡ true → number < length table
unfolding number_free
free-inside none table number e =
    ltb-true number (length table) (both_hold (ltb number (length table)) _ (both_hold (leb 1 number) _ e).1).0

module _ {key value : List ℕ → ℕ} {none size : ℕ} {rule : List ℕ → List (List ℕ) → Bool} {n : ℕ} (k room : ℕ) (w : List ℕ) where
  pub marked-length : {i : ℕ} {table : List ℕ} → Marked key value none size rule (rows k room w) n i table → length table ≡ size
  marked-length {i} {table} m = ap length m.made ∙ length-by_number key value none size (rest (rows k room w) n i)

  module _ (i : ℕ) (table : List ℕ) (m : Marked key value none size rule (rows k room w) n i table) (h : 0 < i) (l : i ≤ n) (fits : i ≤ room) where
    row : get_or (rows k room w) (i - 1) [] ≡ record_at k w (i - 1)
    row = get_d-up_to (record_at k w) room (i - 1) [] (let q : i - 1 < room = omega arith in q)

    inside : i ≤ length (rows k room w)
    inside = let long : length (rows k room w) ≡ room = length-up_to (record_at k w) room in omega arith

    -- the record keeps the rule, and its number u is set to v
    pub row-yes : (u v : ℕ) → rule (record_at k w (i - 1)) (rest (rows k room w) n i) ≡ true → key (record_at k w (i - 1)) ≡ u → value (record_at k w (i - 1)) ≡ v
        → u < size → Marked key value none size rule (rows k room w) n (i - 1) (set table u v)
    row-yes u v e p q small =
        let keyed : key (get_or (rows k room w) (i - 1) []) ≡ u = ap key row ∙ p in
        let valued : value (get_or (rows k room w) (i - 1) []) ≡ v = ap value row ∙ q in
        let within : key (get_or (rows k room w) (i - 1) []) < size = rw keyed small in
        rw (keyed, valued) at (marked-yes i table m [] h l inside (rw row e) within)

    -- it does not
    pub row-no : rule (record_at k w (i - 1)) (rest (rows k room w) n i) ≡ false → all_tails rule (take n (rows k room w)) ≡ false
    row-no e = marked-no i table m [] h l inside (rw row e)

-- what a verdict that holds gives, and one that does not
told-true : (verdict : Bool) (good : List ℕ) (table : List ℕ) → verdict ≡ true → table ≡ good → Some table ≡ told verdict good
told-true verdict good table e q = rw (e, q)

told-false : (verdict : Bool) (good : List ℕ) → verdict ≡ false → None ≡ told verdict good
told-false verdict good e = rw e

-- what is known where a table was given, and where none was
pub record Given (verdict : Bool) (good table : List ℕ) : Type 0 where
  pub holds : verdict ≡ true
  pub made : table ≡ good

pub told-given : (verdict : Bool) (good table : List ℕ) → Some table ≡ told verdict good → Given verdict good table
told-given true good table e = record { holds = refl; made = cc }
told-given false good table e = let no : ◌≡◌ {A = ℕ} 0 1 = cc in absurd (omega arith)

pub told-none : (verdict : Bool) (good : List ℕ) → None ≡ told verdict good → verdict ≡ false
told-none true good e = let no : ◌≡◌ {A = ℕ} 0 1 = cc in absurd (omega arith)
told-none false good e = refl

module _ {A : Type 0} (limits : List ℕ) (n : ℕ) (f : List ℕ → A) (limit : ℕ) (key : A → ℕ) (ok : A → Bool) (value : A → ℕ) (none size : ℕ) (w : List ℕ) where
  -- all records in use keep the rules, and stand in the table
  pub told-yes : (table : List ℕ) → Marked (λ r. key (f r)) (λ r. value (f r)) none size (in_order limits f limit key ok) (rows (length limits) n w) (word w 0) 0 table
      → Some table ≡ told (table_in_order limits n f limit key ok w) (by_number key value none size (take (word w 0) (array_of f (length limits) n w)))
  unfolding by_number
  told-yes table m =
      told-true _ _ table (sym (table-in-order limits f limit key ok n w) ∙ m.keeps)
      (m.made
      ∙ up_to-same (entry key value none (take (word w 0) (array_of f (length limits) n w))) (entry (λ r. key (f r)) (λ r. value (f r)) none (take (word w 0) (rows (length limits) n w)))
      (λ j. entry-map f key value none (take (word w 0) (rows (length limits) n w)) j ∙ ap (λ l. entry key value none l j) (records-rows f (length limits) n w))
      size)

  -- one does not
  pub told-no : all_tails (in_order limits f limit key ok) (take (word w 0) (rows (length limits) n w)) ≡ false
      → None ≡ told (table_in_order limits n f limit key ok w) (by_number key value none size (take (word w 0) (array_of f (length limits) n w)))
  told-no e = told-false _ _ (sym (table-in-order limits f limit key ok n w) ∙ e)
