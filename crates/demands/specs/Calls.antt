-- Demand 3 said of the call itself and of readings: malformed exactly if no sentence, seen in the reply's bytes, and the chain of any reading
-- sent one to a message. Assumes nothing.
use Rattle.std.specs.Prelude.{◌≡◌, ℕ, ◌+◌, ◌≤◌, List, Some}
use Rattle.std.proofs.Common.{◌∙◌, arith, length-append}
use Rattle.std.proofs.Math.Path.{ap}
use Rattle.std.proofs.Math.ListN.{length}
use Rattle.wire.specs.LittleEndian.{le32_at}
use Rattle.records.specs.declared.Tables.{Tables}
use Rattle.chain.specs.Layout.{header_command, FIRST}
use Rattle.chain.specs.Chain.{blocks}
use Rattle.chain.specs.declared.block.Block.{Block}
use Rattle.invariants.specs.Chained.{read-chained}
use Rattle.message.specs.Caller.{caller_of}
use Rattle.message.specs.JustOpened.{NOBODY}
use Rattle.message.specs.Reply.{status_number, reply_header}
use Rattle.message.specs.Message.{run, run_chain, answered, reply_of, Taken, replied, take-message}
use Rattle.claims.specs.StatusList.{answered-ended}
use Rattle.claims.proofs.StatusList.{ended-says}
use Rattle.demands.specs.StatusRead.{status-number-replied}
use Rattle.invariants.specs.ReplySize.{length-header}
use Rattle.demands.specs.OneByOne.{chained-served}
use Rattle.invariants.specs.Fit.{Fit, fit-answered}
use Rattle.demands.specs.Taken.{not_short}

-- and its number at 5, in the form asked for
pub status-number-call : (connection : ℕ) (s : List ℕ) (t : Tables) (memory room : List ℕ) → Fit s t memory room
    → le32_at (take-message connection s t memory room).room 5 ≡ status_number s (answered connection s t memory).forms
status-number-call connection s t memory room f =
    ap (λ (k : Taken). le32_at k.room 5) (fit-answered connection s t memory room f)
    ∙ status-number-replied s room (answered connection s t memory) (ended-says (answered-ended connection s t memory))

-- a sentence is answered by its commands in turn, and the reply's length is the header's and theirs
module _ (connection : ℕ) (s : List ℕ) (t : Tables) (memory : List ℕ) where
  pub sentence-answered : (bs : List Block) → blocks s ≡ Some bs → answered connection s t memory ≡ run (caller_of connection s) s NOBODY bs FIRST t memory
  unfolding answered run_chain blocks
  sentence-answered bs e = rw (chained-served (read-chained s (header_command s) FIRST bs e), e)

  pub length-call : (room : List ℕ) → Fit s t memory room → (take-message connection s t memory room).length ≡ 32 + length (answered connection s t memory).blocks
  unfolding replied reply_of
  length-call room fit =
      let m : 35 ≤ length s = not_short s fit.not-dropped in
      let h : length (reply_header s (answered connection s t memory).forms) ≡ 32 = length-header s (answered connection s t memory).forms (omega arith) in
      ap (λ (k : Taken). k.length) (fit-answered connection s t memory room fit)
      ∙ rw (length-append (reply_header s (answered connection s t memory).forms) (answered connection s t memory).blocks, h)
