-- An array while the values of a function are written into it, one after the other.
-- Assumes nothing.
use mathlib.Core.Path.{◌≡◌, refl, sym, ap, ◌∙◌}
use Prim.Native.Nat.{ℕ, suc, ◌+◌, ◌≤◌, ◌<◌}
use mathlib.Core.List.{List, [], ◌∷◌, ◌++◌, append_assoc, append-nil}
use lib.ListN.{length, drop, get_or, set, drop_of_length-le}
use lib.Seq.{drop-cons, set_at}
use native.Mathlib.Numerals.{add-one}
use Rattle.tables.specs.Words.{up_to}
use Rattle.tables.specs.ArrayLaws.{length-up_to}

module _ (f : ℕ → ℕ) (to : List ℕ) where
  -- the first i are written
  abbrev pub filled : ℕ → List ℕ
  filled i = up_to f i ++ drop i to

  pub filled_none : to ≡ filled 0
  unfolding up_to
  filled_none = refl

  -- one more
  pub filled_more : (i : ℕ) → i < length to → set (filled i) i (f i) ≡ filled (i + 1)
  unfolding up_to
  filled_more i h =
      ap (λ (t : List ℕ). set (up_to f i ++ t) i (f i)) (drop-cons to i 0 h)
      ∙ set_at (up_to f i) (get_or to i 0) (drop (suc i) to) (f i) i (length-up_to f i)
      ∙ sym (rw (add-one i) (append_assoc (up_to f i) (f i ∷ []) (drop (suc i) to)))

  -- all of them
  pub filled-all : (i : ℕ) → length to ≤ i → filled i ≡ up_to f i
  filled-all i h = rw (drop_of_length-le to h) (append-nil (up_to f i))
