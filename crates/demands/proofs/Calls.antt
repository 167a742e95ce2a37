-- Of specs/Calls.antt: what rests on its other theorems. Assumes nothing.
use Rattle.std.specs.Prelude.{◌≡◌, ℕ, List, map}
use Rattle.std.proofs.Common.{◌∙◌}
use Rattle.std.proofs.Math.Path.{ap}
use Rattle.std.proofs.Math.ListN.{length}
use Rattle.records.specs.declared.Tables.{Tables}
use Rattle.chain.specs.Grammar.{Span, Reading}
use Rattle.chain.specs.declared.block.Block.{Block}
use Rattle.readings.specs.ReaderComplete.{reader-complete}
use Rattle.invariants.specs.ReaderSound.{span_of}
use Rattle.message.specs.JustOpened.{NOBODY}
use Rattle.message.specs.Message.{answered, Taken, replied, take-message}
use Rattle.claims.specs.StatusList.{answered-ended}
use Rattle.claims.proofs.StatusList.{ended-says}
use Rattle.demands.specs.StatusRead.{status_read, status-replied}
use Rattle.invariants.specs.Sound.{Good}
use Rattle.invariants.specs.Fit.{Fit, fit-answered}
use Rattle.demands.specs.CallsOneByOne.{call_all, compared_call}
use Rattle.demands.proofs.CallsOneByOne.{calls-one-by-one}

-- the call's reply has the status of what was answered
pub status-call : (connection : ℕ) (s : List ℕ) (t : Tables) (memory room : List ℕ) → Fit s t memory room
    → status_read (take-message connection s t memory room).room ≡ (answered connection s t memory).forms.status
unfolding replied
status-call connection s t memory room f =
    ap (λ (k : Taken). status_read k.room) (fit-answered connection s t memory room f)
    ∙ status-replied s room (answered connection s t memory) (ended-says (answered-ended connection s t memory))

-- "This is a single claim about the whole list of blocks": of any reading its blocks are those sent
pub reading-one-by-one : (connection : ℕ) (s : List ℕ) {spans : List Span} → Reading s spans → (t : Tables) (memory room small : List ℕ) → Good t → Fit s t memory room
    → length small ≡ 12292
    → (bs : List Block) × (map span_of bs ≡ spans) × (take-message connection s t memory room ≡ compared_call s room (call_all connection s small NOBODY bs t memory))
reading-one-by-one connection s r t memory room small g f n =
    let a = reader-complete r in (a.0, a.2, calls-one-by-one connection s a.0 a.1 t memory room small g f n)
