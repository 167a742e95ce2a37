-- What the host lends a call to write to, beside the tables, the file memory and the room: it is written on 0 only. Assumes nothing.
use Rattle.std.specs.Prelude.{◌≡◌, ℕ, cond, eqb}
use Rattle.std.proofs.Common.{eq-eqb, ne_eqb}

module _ {A : Type 0} where
  -- what stands there after a call that returns `number`: what was given on 0, else what stood there before
  unfoldable pub on_done : ℕ → A → A → A
  on_done number given before = cond (eqb number 0) given before

  pub stands-else : (number : ℕ) (given before : A) → (number ≡ 0 → ⊥) → before ≡ on_done number given before
  unfolding on_done
  stands-else number given before n = rw (ne_eqb number 0 n)

  pub given-done : (number : ℕ) (given before : A) → number ≡ 0 → given ≡ on_done number given before
  unfolding on_done
  given-done number given before e = rw (eq-eqb number 0 e)
