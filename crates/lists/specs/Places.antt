-- Elements of a list by place.
-- Assumes nothing.
use Rattle.std.specs.Prelude.{◌≡◌, refl, ℕ, zero, suc, ◌<◌, List, [], ◌∷◌, length, get_or}
use Rattle.std.proofs.Common.{arith}

module _ {A : Type 0} where
  -- an element of the list does not depend on what would stand past the end
  pub get_d-within : (l : List A) (i : ℕ) (d e : A) → i < length l → get_or l i d ≡ get_or l i e
  get_d-within [] i d e h = absurd (omega arith)
  get_d-within (x ∷ l) zero d e h = refl
  get_d-within (x ∷ l) (suc i) d e h = get_d-within l i d e (omega arith)
