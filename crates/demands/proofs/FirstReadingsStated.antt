-- Of specs/FirstReadings.antt: what rests on its other theorems. Assumes nothing.
use Rattle.std.specs.Prelude.{◌≡◌, ◌↔◌, ℕ, List, [], ◌∷◌}
use Rattle.records.specs.declared.Tables.{Tables}
use Rattle.chain.specs.Layout.{TREE_DISCONNECT, header_command}
use Rattle.chain.specs.Grammar.{Span, Reading}
use Rattle.chain.specs.declared.block.Body.TheVariants.{TreeDisconnect}
use Rattle.invariants.specs.BlockParse.{body_at}
use Rattle.invariants.specs.Fit.{Fit}
use Rattle.message.specs.Caller.{caller_of}
use Rattle.message.specs.declared.refusal.Status.{Status}
use Rattle.message.specs.Message.{take-message}
use Rattle.demands.specs.StatusRead.{status_read}
use Rattle.demands.specs.CommandReasons.{TreeStatus, Reason}
use Rattle.demands.specs.WireFields.{first_body}
use Rattle.demands.proofs.FirstReadings.{reason-of}
use Rattle.demands.specs.FirstReadings.{only}

module _ (connection : ℕ) (s : List ℕ) {span : Span} (r : Reading s (span ∷ [])) (t : Tables) (memory room : List ℕ) (fit : Fit s t memory room) where
  pub disconnect-exact : header_command s ≡ TREE_DISCONNECT → (n : Status) → (status_read (take-message connection s t memory room).room ≡ n)
      ↔ TreeStatus (caller_of connection s) t n
  unfolding body_at Reason
  disconnect-exact e n = (reason-of connection s r t memory room fit) TreeDisconnect (first_body (only connection s r t memory room fit) TREE_DISCONNECT e) n
