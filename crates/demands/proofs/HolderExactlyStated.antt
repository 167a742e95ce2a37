-- Of specs/HolderExactly.antt: what rests on its other theorems. Assumes nothing.
use Rattle.std.specs.Prelude.{◌≡◌, ◌↔◌, ℕ, List, Some as held_by}
use Rattle.records.specs.declared.Tables.{Tables}
use Rattle.locks.specs.declared.types.Holder.{Holder}
use Rattle.message.specs.Refusal.{status}
use Rattle.demands.specs.StatusRead.{status_read}
use Rattle.demands.specs.HolderBeside.{somebody-exact}
use Rattle.demands.proofs.HolderExactly.{call-beside}
use Rattle.demands.specs.HolderExactly.{call}

module _ (connection : ℕ) (s : List ℕ) (t : Tables) (memory room : List ℕ) where
  -- of a call that is done there is a holder exactly if the Status is 1/33
  pub holder-exactly : (call connection s t memory room).number ≡ 0 → ((h : Holder) × ((call connection s t memory room).holder ≡ held_by h)) ↔ (status_read (call connection s t memory room).room ≡ status 1 33)
  holder-exactly e = somebody-exact ((call-beside connection s t memory room) e)
