-- Of specs/MessageLaws.antt: what rests on its other theorems. Assumes nothing.
use Rattle.std.specs.Prelude.{◌≡◌, ℕ, Bool, ◌&&◌, List}
use Rattle.std.proofs.Math.Path.{refl}
use Rattle.std.proofs.Math.Bool.{true, false}
use Rattle.soundness.specs.Sound.{sound}
use Rattle.message.specs.Message.{not_taken}
use Rattle.invariants.specs.Fit.{take-message-good}
use Rattle.tables.specs.Words.{tables_of, in_use_fit}
use Rattle.boundary.specs.BoundaryLaws.{words-good}
use Rattle.boundary.specs.Boundary.{wrong_room, message_taken}
use Rattle.boundary.specs.MessageLaws.{message-fit, message-unfit, unfit-tables, unsound-by}

module _ (connection : ℕ) (s w memory room : List ℕ) where
  module _ (right : wrong_room memory room ≡ false) where
    pub row-sound : (in_use_fit w && sound (tables_of w)) ≡ false → not_taken 4 (tables_of w) memory room ≡ message_taken connection s w memory room
    row-sound e = (unsound-by connection s w memory room right) (in_use_fit w) refl e

module _ (connection : ℕ) (s w memory room : List ℕ) where
  pub keeps-by : (fit : Bool) → in_use_fit w ≡ fit → sound (tables_of w) ≡ true → sound (message_taken connection s w memory room).tables ≡ true
  keeps-by true f e = rw (message-fit connection s w memory room f) (take-message-good connection s (tables_of w) memory room (words-good w e)).sound
  keeps-by false f e = rw (message-unfit connection s w memory room f) (unfit-tables w memory room (wrong_room memory room) e)
