-- Of specs/ReasonCalls.antt: what rests on its other theorems. Assumes nothing.
use Rattle.std.specs.Prelude.{◌≡◌, refl, ◌↔◌, ℕ, Some}
use Rattle.std.proofs.Common.{sym, ◌∙◌}
use Rattle.std.proofs.Math.Path.{ap}
use mathlib.Core.List.{List, [], ◌∷◌}
use Rattle.records.specs.declared.Tables.{Tables}
use Rattle.chain.specs.Layout.{header_command, FIRST}
use Rattle.chain.specs.Chain.{blocks}
use Rattle.chain.specs.declared.block.Block.{Block}
use Rattle.invariants.specs.Chained.{read-chained}
use Rattle.message.specs.Caller.{caller_of}
use Rattle.message.specs.declared.refusal.Status.{Status}
use Rattle.message.specs.Command.{perform}
use Rattle.message.specs.JustOpened.{NOBODY}
use Rattle.message.specs.Message.{area_of, data_of, Ran, run, run_chain, answered, take-message}
use Rattle.invariants.specs.JustOpenedLaws.{run-first}
use Rattle.demands.specs.OneByOne.{chained-served}
use Rattle.invariants.specs.Fit.{Fit}
use Rattle.demands.specs.StatusRead.{status_read}
use Rattle.demands.proofs.Calls.{status-call}
use Rattle.demands.specs.CommandReasons.{Reason}
use Rattle.demands.proofs.CommandReasons.{perform-exact}
use Rattle.demands.specs.ReasonCalls.{given-status, one-announced}

module _ (connection : ℕ) (s : List ℕ) (b : Block) (e : blocks s ≡ Some (b ∷ [])) (t : Tables) (memory room : List ℕ) (fit : Fit s t memory room) where
  -- a message of one command has a status in its reply exactly for its reason
  pub call-exact : (n : Status) → (status_read (take-message connection s t memory room).room ≡ n) ↔ Reason (caller_of connection s) t (area_of s b) b.body n
  unfolding answered run_chain blocks run
  call-exact n =
      let chain = read-chained s (header_command s) FIRST (b ∷ []) e in
      let g : (answered connection s t memory).forms.status ≡ (run (caller_of connection s) s NOBODY (b ∷ []) FIRST t memory).forms.status = rw (chained-served chain, e) in
      let same = status-call connection s t memory room fit ∙ g ∙ ap (λ (r : Ran). r.forms.status) (run-first (caller_of connection s) s b [] FIRST t memory)
      ∙ given-status (perform (caller_of connection s) t memory b.body (area_of s b) (data_of s b)) FIRST t memory (λ j p u m. run (caller_of connection s) s j [] p u m) (λ j p u m. refl) in
      let exact = perform-exact (caller_of connection s) t memory fit.tables-sound b.body (area_of s b) (data_of s b) (one-announced chain) n in
      (λ h. exact.0 (sym same ∙ h), λ r. same ∙ exact.1 r)
