-- The holder beside the reply to a message whose first command is refused for conflict, by the message's bytes: of a READ, of a WRITE and, demand 2's sentence, of a lock
-- alone in its request the first listed lock that is in the way; of the core commands likewise. Assumes nothing.
use Rattle.std.specs.Prelude.{◌≡◌, ℕ, List, ◌∷◌, Some, Some as held_by}
use Rattle.records.specs.declared.Tables.{Tables}
use Rattle.locks.specs.declared.types.Holder.{Holder}
use Rattle.chain.specs.Chain.{blocks}
use Rattle.chain.specs.declared.block.Block.{Block}
use Rattle.invariants.specs.Fit.{Fit}
use Rattle.message.specs.declared.refusal.Refusal.TheVariants.{}
use Rattle.message.specs.Command.{Given}
use Rattle.message.specs.Message.{area_of, Taken}
use Rattle.demands.specs.LoneCall.{first-given}
use Rattle.demands.specs.CommandReasons.{Announced}
use Rattle.demands.specs.ChainReasons.{AllAnnounced, next-announced}

-- the host gets this holder, and the first command of the message met it: the reply is the header and one refused block. (Where a later command is refused, the reply has
-- the first one's block too.)
abbrev pub FirstMeets : Taken → Holder → Type 0
FirstMeets taken h = (taken.holder ≡ held_by h) × (taken.length ≡ 35)

-- ---- the first command

pub all_first : {s : List ℕ} {b : Block} {bs : List Block} → AllAnnounced s (b ∷ bs) → Announced b.body (area_of s b)
all_first (next-announced a more) = a

module _ (connection : ℕ) (s : List ℕ) (t : Tables) (memory room : List ℕ) (fit : Fit s t memory room) (h : Holder) where
  module _ (b : Block) (bs : List Block) (e : blocks s ≡ Some (b ∷ bs)) where
    abbrev pub given : Given
    given = first-given connection s b bs e t memory room fit

-- ---- by the message's bytes, of any reading

-- through the open that the message names

-- ---- the core commands (document 02, CR 3), whose FID is the first word
