-- Of specs/Taken.antt: what rests on its other theorems. Assumes nothing.
use Rattle.std.specs.Prelude.{◌≡◌, ℕ, List, take}
use Rattle.records.specs.declared.Tables.{Tables}
use Rattle.chain.specs.Grammar.{Span, Reading}
use Rattle.readings.specs.FreeBytes.{AllStand}
use Rattle.readings.proofs.FreeBytes.{all_alike}
use Rattle.message.specs.Message.{take-message}
use Rattle.invariants.specs.Fit.{Fit}
use Rattle.demands.specs.Taken.{unread-taken}

-- "of two messages fit to be answered, let header, connection, tables and files be equal. If the blocks of a reading of one stand unchanged at the same
-- places in the other, .. number, reply, tables, files and whatever else the call gives are equal."
pub free-taken : (connection : ℕ) (s t : List ℕ) → take 32 t ≡ take 32 s → {spans : List Span} → Reading s spans → AllStand s t spans
    → (u : Tables) (memory room : List ℕ) → Fit s u memory room → Fit t u memory room → take-message connection t u memory room ≡ take-message connection s u memory room
free-taken connection s t header r stands = unread-taken connection s t header r (all_alike stands)
