-- Of specs/SpansRefused.antt: what rests on its other theorems. Assumes nothing.
use Rattle.std.specs.Prelude.{◌≡◌, ℕ, ◌≤◌, length}
use Rattle.std.proofs.Math.Path.{ap}
use Rattle.std.proofs.Common.{◌∙◌, arith}
use mathlib.Core.List.{List}
use Rattle.wire.specs.LittleEndian.{le32_at}
use Rattle.records.specs.declared.Tables.{Tables}
use Rattle.chain.specs.declared.block.Block.{Block}
use Rattle.invariants.specs.Fit.{Fit}
use Rattle.message.specs.Reply.{nt_bit, status_number}
use Rattle.message.specs.Message.{Taken}
use Rattle.demands.specs.OneByOne.{own, own-header}
use Rattle.demands.specs.Calls.{status-number-call}
use Rattle.demands.proofs.SpansRefused.{taken-alone}
use Rattle.demands.specs.SpansRefused.{ran, taken}

module _ (connection : ℕ) (s small : List ℕ) where
  module _ (just : ℕ) (b : Block) (t : Tables) (memory : List ℕ) (fits : Fit (own s just b) t memory small) where
    -- the number is in the form that the chain's message asks for
    pub number_at : 32 ≤ length s → le32_at (taken connection s small just b t memory fits).room 5 ≡ status_number s (ran connection s small just b t memory fits).forms
    unfolding status_number nt_bit
    number_at long =
        ap (λ (x : Taken). le32_at x.room 5) (taken-alone connection s small just b t memory fits)
        ∙ status-number-call connection (own s just b) t memory small fits
        ∙ rw (own-header s just b long 11 (omega arith) (λ e. omega arith))
