-- Of specs/Calls.antt: what rests on its other theorems. Assumes nothing.
use Rattle.std.specs.Prelude.{◌≡◌, ◌↔◌, ℕ, true, List}
use Rattle.std.proofs.Common.{sym, ◌∙◌}
use Rattle.std.proofs.Math.Path.{ap}
use Rattle.records.specs.declared.Tables.{Tables}
use Rattle.chain.specs.Layout.{header_command}
use Rattle.chain.specs.Grammar.{Sentence}
use Rattle.message.specs.Refusal.{status}
use Rattle.message.specs.Message.{served, answered, Taken, replied, take-message}
use Rattle.demands.specs.StatusRead.{status_read}
use Rattle.demands.specs.Malformed.{malformed}
use Rattle.invariants.specs.Fit.{Fit, fit-answered}
use Rattle.demands.proofs.Calls.{status-call}

-- "A message fit to be answered that begins with a known command is answered as malformed exactly if it is not a sentence": "Answered as malformed: 0,
-- Status 2/1"
pub malformed-call : (connection : ℕ) (s : List ℕ) (t : Tables) (memory room : List ℕ) → Fit s t memory room → served (header_command s) ≡ true
    → (((take-message connection s t memory room).number ≡ 0) × (status_read (take-message connection s t memory room).room ≡ status 2 1)) ↔ (Sentence s → ⊥)
unfolding replied
malformed-call connection s t memory room f e =
    let same : status_read (take-message connection s t memory room).room ≡ (answered connection s t memory).forms.status = status-call connection s t memory room f in (
      λ h. (malformed connection s t memory e).0 (sym same ∙ h.1),
      λ n. (ap (λ (k : Taken). k.number) (fit-answered connection s t memory room f), same ∙ (malformed connection s t memory e).1 n),
    )
