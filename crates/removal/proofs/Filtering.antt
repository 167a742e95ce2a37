-- A table filtered in its words: the loop that moves each record that stays behind those kept and empties the others, over any reader f
-- of a record.
-- Assumes nothing.
use mathlib.Core.Path.{◌≡◌, refl, sym, ap, ◌∙◌}
use Prim.Native.Nat.{ℕ, min, ◌+◌, ◌≤◌, ◌<◌}
use native.Mathlib.Omega.{arith}
use mathlib.Core.Bool.{Bool, true, false}
use mathlib.Core.List.{List}
use lib.ListN.{length, get_or, set}
use lib.Seq.{set-set, set-get_or}
use Rattle.lists.specs.Walk.{keep}
use Rattle.lists.specs.Stored.{Keeping, keeping_none, keeping-most, keeping-no, keeping-yes, kept_read, take-most, kept-most}
use Rattle.tables.specs.Words.{word, record_at, array_of, within, records_fit}
use Rattle.tables.specs.Written.{Wrote}
use Rattle.tables.specs.ArrayLaws.{length-array, array_count}
use Rattle.tables.specs.FitLaws.{all-up_to, up_to-all, fit-wrote}
use Rattle.tables.specs.ChangeLaws.{count_set, fit_count}
use Rattle.removal.specs.Filter.{Shifted, Filtered}

-- ---- a record moved

module _ {A : Type 0} {array_in : List ℕ → List A} {limits : List ℕ} {z : A} where
  -- a record that is to stay where it is
  pub moved_none : (w : List ℕ) (from to : ℕ) → from ≡ to → Shifted array_in limits z w w from to
  moved_none w from to e =
      record {
        array = sym (rw (← e) (set-set (array_in w) from z (get_or (array_in w) from z) ∙ set-get_or (array_in w) from z));
        fit = λ m a b h. h;
      }

  -- its place emptied, and the record written where it is to stand
  pub moved : {before mid after : List ℕ} {from to : ℕ} (x : A) → x ≡ get_or (array_in before) from z
      → Wrote array_in limits before mid from z → Wrote array_in limits mid after to x → Shifted array_in limits z before after from to
  moved x e v w =
      record {
        array = w.array ∙ rw (v.array, e);
        fit = λ m a b h. fit-wrote m m w (fit-wrote m m v h (λ j k q. k)) (λ j k q. k);
      }

-- ---- the loop

-- after i turns over the first n records: those kept, how many, and that words which fit stay so
pub record Filtering {A : Type 0} (array_in : List ℕ → List A) (limits : List ℕ) (z : A) (p : A → Bool) (start : List ℕ) (n i : ℕ) (words : List ℕ) (count : ℕ) : Type 0 where
  pub long : length words ≡ length start
  pub keeping : Keeping z p (array_in start) i (array_in words) count
  pub fit : records_fit limits n start ≡ true → records_fit limits n words ≡ true

pub filtering-none : {A : Type 0} (array_in : List ℕ → List A) (limits : List ℕ) (z : A) (p : A → Bool) (start : List ℕ) (n : ℕ)
    → Filtering array_in limits z p start n 0 start 0
filtering-none array_in limits z p start n = record { long = refl; keeping = keeping_none z p (array_in start); fit = λ h. h }

module _ {A : Type 0} {array_in : List ℕ → List A} {limits : List ℕ} {z : A} {p : A → Bool} {start : List ℕ} {n i : ℕ} {words : List ℕ} {count : ℕ}
    (before : Filtering array_in limits z p start n i words count) where
  -- no more are kept than are passed
  pub filtering-most : i ≤ length (array_in start) → count ≤ i
  filtering-most h = keeping-most z p (array_in start) i (array_in words) count before.keeping h

  -- the next record still stands where it stood
  pub filtering-next : (x : A) → i < length (array_in start) → x ≡ get_or (array_in words) i z → x ≡ get_or (array_in start) i z
  filtering-next x inside e = e ∙ rw before.keeping.holds (kept_read z p (array_in start) i z inside)

  module _ (x : A) (below : i < n) (inside : i < length (array_in start)) (next : x ≡ get_or (array_in words) i z) {after : List ℕ} (long : length after ≡ length words) where
    -- it is given up
    pub filtering-no : p x ≡ false → Wrote array_in limits words after i z → Filtering array_in limits z p start n (i + 1) after count
    filtering-no e w =
        record {
          long = long ∙ before.long;
          keeping = rw w.array (keeping-no z p (array_in start) i (array_in words) count before.keeping z inside (rw next at e));
          fit = λ h. fit-wrote n n w (before.fit h) (λ j k q. k);
        }

    -- it is kept
    pub filtering-yes : p x ≡ true → Shifted array_in limits z words after i count → Filtering array_in limits z p start n (i + 1) after (count + 1)
    filtering-yes e m =
        let most : count ≤ i = filtering-most (omega arith) in
        record {
          long = long ∙ before.long;
          keeping = rw m.array (keeping-yes z p (array_in start) i (array_in words) count before.keeping z inside (rw next at e));
          fit = λ h. m.fit n below (omega arith) (before.fit h);
        }

-- ---- at the end the count is written

pub filtered : {A : Type 0} (f : List ℕ → A) (limits : List ℕ) (room : ℕ) (z : A) (p : A → Bool) (start words : List ℕ) (n i count : ℕ)
    → Filtering (array_of f (length limits) room) limits z p start n i words count → i ≡ n → n ≡ min (word start 0) room → 0 < length start
    → Filtered (array_of f (length limits) room) limits room z p start (set words 0 count)
unfolding records_fit
filtered {A} f limits room z p start words n i count before end cut some =
    let k = length limits in
    let xs = array_of f k room start in
    let full : length xs ≡ room = length-array f k room start in
    let there : 0 < length words = rw before.long some in
    let counted : word (set words 0 count) 0 ≡ count = count_set words count there in
    let most : count ≤ i = filtering-most before (omega arith) in
    let place : i ≡ min (word start 0) room = end ∙ cut in
    record {
      holds =
          record {
            array = array_count f k room words count there ∙ before.keeping.holds ∙ rw place (kept-most xs (word start 0) room full z p);
            count = counted ∙ before.keeping.counts ∙ rw place (ap (λ (l : List A). length (keep p l)) (take-most xs (word start 0) room full));
          };
      fit =
          λ h.
          let g = before.fit (rw (sym cut) at h) in
          all-up_to (within limits) (record_at k (set words 0 count)) (min (word (set words 0 count) 0) room) (λ j q.
          up_to-all (within limits) (record_at k (set words 0 count)) n j (fit_count words count there limits n ∙ g) (let m : word (set words 0 count) 0 ≡ count = counted in omega arith));
    }
