-- Each command of a chain as a message of its own (document 01, "Sent one to a message"): of any reading, the message of every block, on what the last one left, is fit
-- to be answered and has a reading of one block. So what is said of a message of one command, its status for its reason and what it gives and leaves, is said of every
-- command of a chain. Assumes nothing.
use Rattle.std.specs.Prelude.{ℕ}
use mathlib.Core.List.{List, [], ◌∷◌}
use Rattle.records.specs.declared.Tables.{Tables}
use Rattle.chain.specs.Grammar.{Span, Reading}
use Rattle.invariants.specs.Sound.{Good}
use Rattle.invariants.specs.Fit.{Fit}
use Rattle.demands.specs.SpansOneByOne.{own_span}
use Rattle.demands.specs.SpansRefused.{sent, returned, at_first}

-- a block's message on these tables and this file memory: good tables, fit to be answered, and read as that block at 32
pub record SentFit (s small : List ℕ) (just : ℕ) (b : Span) (t : Tables) (memory : List ℕ) : Type 0 where
  pub good : Good t
  pub fit : Fit (own_span s just b) t memory small
  pub reads : Reading (own_span s just b) (at_first b ∷ [])

module _ (connection : ℕ) (s small : List ℕ) where
  -- each of these, on what the last one left, with the FID that its reply returned
  pub data AllSentFit : ℕ → List Span → Tables → List ℕ → Type 0 where
    no_more : {just : ℕ} {t : Tables} {memory : List ℕ} → AllSentFit just [] t memory
    fit_then : {just : ℕ} {b : Span} {bs : List Span} {t : Tables} {memory : List ℕ} → SentFit s small just b t memory
        → AllSentFit (returned connection s small just b t memory) bs (sent connection s small just b t memory).tables (sent connection s small just b t memory).memory
        → AllSentFit just (b ∷ bs) t memory

-- ---- a chain that is done

-- ---- a chain that is refused
