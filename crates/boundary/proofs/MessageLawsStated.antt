-- Of specs/MessageLaws.antt: what rests on its other theorems. Assumes nothing.
use Rattle.std.specs.Prelude.{◌≡◌, ℕ, List}
use Rattle.std.proofs.Math.Path.{refl}
use Rattle.std.proofs.Math.Bool.{true}
use Rattle.lists.specs.Truth.{both_hold}
use Rattle.soundness.specs.Sound.{sound}
use Rattle.tables.specs.Words.{tables_of, in_use_fit}
use Rattle.boundary.specs.BoundaryLaws.{ready_of}
use Rattle.boundary.specs.Boundary.{ready, ForNext, message_taken}
use Rattle.boundary.proofs.MessageLaws.{keeps-by}

module _ (connection : ℕ) (s w memory room : List ℕ) where
  -- the words out, as the call leaves them
  pub message-next : (out : List ℕ) (r : ℕ) → tables_of out ≡ (message_taken connection s w memory room).tables → ((r ≡ 0 → ⊥) → out ≡ w)
      → (in_use_fit w ≡ true → in_use_fit out ≡ true) → ForNext w out r (message_taken connection s w memory room).tables
  unfolding ready
  message-next out r t kept f =
      record {
        held = λ _. t;
        kept = kept;
        again = λ h.
            let b = both_hold (in_use_fit w) (sound (tables_of w)) h in
            ready_of out (message_taken connection s w memory room).tables (f b.0) t ((keeps-by connection s w memory room) (in_use_fit w) refl b.1);
      }
