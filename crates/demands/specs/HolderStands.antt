-- In a chain the holder is the one that the refused command met, on the tables as they stood when it was begun (document 02, CR 2; document 01: "Commands before it in
-- the chain stand; those after it aren't begun"), said of the call, exactly. Assumes nothing.
use Rattle.std.specs.Prelude.{◌≡◌, ℕ, Option, None, Some, Some as held_by}
use Rattle.std.proofs.Math.Path.{refl}
use mathlib.Core.List.{List, ◌∷◌, ◌++◌}
use Rattle.records.specs.declared.Tables.{Tables}
use Rattle.locks.specs.declared.types.Holder.{Holder}
use Rattle.chain.specs.Layout.{header_command, FIRST}
use Rattle.chain.specs.Chain.{blocks}
use Rattle.chain.specs.declared.block.Block.{Block}
use Rattle.invariants.specs.GivenCases.{cond-case}
use Rattle.invariants.specs.Sound.{Good}
use Rattle.invariants.specs.Fit.{Fit}
use Rattle.message.specs.Caller.{caller_of}
use Rattle.message.specs.declared.caller.Caller.{Caller}
use Rattle.message.specs.Refusal.{status}
use Rattle.message.specs.JustOpened.{NOBODY, body_meant}
use Rattle.message.specs.Message.{area_of, Ran, run, served, only_status, run_chain, answered}
use Rattle.demands.specs.RefusedCall.{meant_after}
use Rattle.demands.specs.LockWords.{never}
use Rattle.demands.specs.HolderWords.{CommandHeld}

-- ---- commands one behind the other

-- those in front were carried out, and the next met the holder on the tables that they left, its FID 0xFFFF being what the last of them opened (document 02, CR 6)
pub record MetFrom (c : Caller) (s : List ℕ) (just : ℕ) (bs : List Block) (place : ℕ) (t : Tables) (memory : List ℕ) (h : Holder) : Type 0 where
  pub front : List Block
  pub command : Block
  pub later : List Block
  pub split : bs ≡ front ++ (command ∷ later)
  pub front-done : (run c s just front place t memory).forms.status ≡ status 0 0
  pub held : CommandHeld c (run c s just front place t memory).tables (area_of s command) (body_meant (meant_after c s just front t memory) command.body) h

module _ (c : Caller) (s : List ℕ) where
  -- and the other way round: it is passed up, and what those in front left stands
  pub record PassedUp (just : ℕ) (bs front : List Block) (place : ℕ) (t : Tables) (memory : List ℕ) (h : Holder) : Type 0 where
    pub holder-named : (run c s just bs place t memory).holder ≡ held_by h
    pub tables-left : (run c s just bs place t memory).tables ≡ (run c s just front place t memory).tables

-- ---- said of the call

-- the commands of the message's reading up to the refused one: those before it carried out, and the holder in its way on the tables that they left
pub record Met (connection : ℕ) (s : List ℕ) (t : Tables) (memory : List ℕ) (h : Holder) : Type 0 where
  pub front : List Block
  pub command : Block
  pub later : List Block
  pub read : blocks s ≡ Some (front ++ (command ∷ later))
  -- "Commands before it in the chain stand": carried out alone they are done
  pub front-done : (run (caller_of connection s) s NOBODY front FIRST t memory).forms.status ≡ status 0 0
  -- its FID 0xFFFF is what the last of them opened (document 02, CR 6)
  pub held : CommandHeld (caller_of connection s) (run (caller_of connection s) s NOBODY front FIRST t memory).tables (area_of s command)
      (body_meant (meant_after (caller_of connection s) s NOBODY front t memory) command.body) h

-- a message that is not served, or no sentence, has no holder
pub data Sentenced (connection : ℕ) (s : List ℕ) (t : Tables) (memory : List ℕ) (h : Holder) : Type 0 where
  read_as : (bs : List Block) → blocks s ≡ Some bs → (run (caller_of connection s) s NOBODY bs FIRST t memory).holder ≡ held_by h → Sentenced connection s t memory h

chain-sentenced : (connection : ℕ) (s : List ℕ) (t : Tables) (memory : List ℕ) (h : Holder) (o : Option (List Block)) → blocks s ≡ o
    → (run_chain (caller_of connection s) s o t memory).holder ≡ held_by h → Sentenced connection s t memory h
unfolding run_chain only_status
chain-sentenced connection s t memory h None e n = never cc
chain-sentenced connection s t memory h (Some bs) e n = read_as bs e n

pub answered-sentenced : (connection : ℕ) (s : List ℕ) (t : Tables) (memory : List ℕ) (h : Holder) → (answered connection s t memory).holder ≡ held_by h → Sentenced connection s t memory h
unfolding answered only_status
answered-sentenced connection s t memory h =
    cond-case (λ (r : Ran). r.holder ≡ held_by h → Sentenced connection s t memory h) (served (header_command s)) (run_chain (caller_of connection s) s (blocks s) t memory) _
    (λ _ n. chain-sentenced connection s t memory h (blocks s) refl n) (λ _ n. never cc)

module _ (connection : ℕ) (s : List ℕ) (t : Tables) (memory room : List ℕ) (g : Good t) (fit : Fit s t memory room) (h : Holder) where
  abbrev pub c : Caller
  c = caller_of connection s
