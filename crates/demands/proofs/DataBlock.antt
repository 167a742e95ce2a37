-- Of specs/DataBlock.antt: what rests on its other theorems. Assumes nothing.
use Rattle.std.specs.Prelude.{ℕ, List}
use Rattle.records.specs.declared.Tables.{Tables}
use Rattle.chain.specs.Grammar.{Sentence}
use Rattle.invariants.specs.Fit.{Fit}
use Rattle.message.specs.Message.{take-message}
use Rattle.demands.proofs.CallsStated.{malformed-call}
use Rattle.demands.proofs.NoSentence.{no-sentence-taken}
use Rattle.demands.specs.DataBlock.{AnsweredMalformed, BadCoreWrite, bad-no-block, bad-served, reading-block, second_block}
use Rattle.demands.specs.DataBlock.{alone}
use Rattle.demands.specs.DataBlock.{behind-locking}

pub bad-no-sentence : {s : List ℕ} → BadCoreWrite s → Sentence s → ⊥
bad-no-sentence (alone e bad) r = bad-no-block bad (rw e at (reading-block r.1))
bad-no-sentence (behind-locking e c bad) r = bad-no-block bad (second_block r.1 e c)

pub bad-data-block : (connection : ℕ) (s : List ℕ) → BadCoreWrite s → (t : Tables) (memory room : List ℕ) → Fit s t memory room
    → AnsweredMalformed t memory (take-message connection s t memory room)
bad-data-block connection s bad t memory room fit =
    let says = (malformed-call connection s t memory room fit (bad-served bad)).1 (bad-no-sentence bad) in
    let leaves = no-sentence-taken connection s t memory room fit (bad-no-sentence bad) in
    record { number = says.0; status-given = says.1; untouched = leaves.0; one_block = leaves.1; its-bytes = leaves.3; nobody = leaves.2 }
