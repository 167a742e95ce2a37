-- Change request 5 of document 02, "The follow table as a rule", sentence by sentence. Assumes nothing.
use Rattle.std.specs.Prelude.{◌≡◌, ◌↔◌, ℕ, ◌<◌, true}
use mathlib.Core.List.{Memᴰ as In}
use Rattle.chain.specs.Grammar.{MayFollow}
use Rattle.chain.specs.Parse.{may_follow}
use Rattle.literals.specs.Successions.{pair, listed}
use Rattle.literals.proofs.Successions.{exactly-listed, grammar-listed}

-- "let the code decide what may follow by the two command numbers, in document 01's order, CR 3's pairs last in their row": `chain::command::may_follow`
-- (crates/chain/src/command.rt), a match by rows, CR 6's row the last. "No answer and no contract may change": its contract is the equation with `may_follow` that it was.

-- "prove once that of all 65,536 pairs it allows exactly the eight listed", and CR 6: "CR 5's eight pairs become nine": the list is literals/specs/Successions.antt's `listed`,
-- which docs/GRAMMAR.md prints
pub record Request5 : Type 0 where
  -- the answer of `may_follow`, which by its contract is `may_follow`'s, is true of two bytes exactly if they are a pair of the list
  pub allowed : (command next : ℕ) → command < 256 → next < 256 → (may_follow command next ≡ true) ↔ In (pair command next) listed
  -- and that is what demand 3's grammar lets follow
  pub by-the-grammar : (command next : ℕ) → command < 256 → next < 256 → MayFollow command next ↔ In (pair command next) listed

-- ---- the proof: each line cites the theorem that does the work

pub request-5 : Request5
request-5 = record { allowed = exactly-listed; by-the-grammar = grammar-listed }
