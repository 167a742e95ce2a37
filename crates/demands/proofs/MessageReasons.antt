-- Of specs/MessageReasons.antt: what rests on its other theorems. Assumes nothing.
use Rattle.std.specs.Prelude.{◌≡◌, ◌↔◌, ℕ, List}
use Rattle.records.specs.declared.Tables.{Tables}
use Rattle.message.specs.Message.{take-message}
use Rattle.invariants.specs.Fit.{Fit}
use Rattle.demands.specs.MessageReasons.{done-fit, kept-says, take-message-given, take-message-reason}
use Rattle.demands.specs.MessageReasons.{message-done}

module _ (connection : ℕ) (s : List ℕ) (t : Tables) (memory room : List ℕ) where
  pub done-exact : ((take-message connection s t memory room).number ≡ 0) ↔ Fit s t memory room
  done-exact = (
    λ e. (done-fit connection s t memory room) (take-message-reason connection s t memory room) e,
    λ f. (take-message-given connection s t memory room) (message-done f.room-enough f.memory-whole f.tables-sound (kept-says s f.not-dropped)),
  )
