-- Of specs/ChainReasons.antt: what rests on its other theorems. Assumes nothing.
use Rattle.std.specs.Prelude.{◌≡◌, ◌↔◌, ℕ, ◌+◌, List, ◌∷◌, map, Some}
use Rattle.std.proofs.Math.Path.{refl, ap}
use Rattle.std.proofs.Common.{sym, ◌∙◌}
use Rattle.records.specs.declared.Tables.{Tables}
use Rattle.claims.specs.Cases.{status_in}
use Rattle.chain.specs.Layout.{header_command, FIRST}
use Rattle.chain.specs.Grammar.{Span, Reading}
use Rattle.chain.specs.Chain.{blocks}
use Rattle.chain.specs.declared.block.Block.{Block}
use Rattle.readings.specs.ReaderComplete.{reader-complete}
use Rattle.invariants.specs.ReaderSound.{span_of}
use Rattle.invariants.specs.Chained.{read-chained}
use Rattle.message.specs.Caller.{caller_of}
use Rattle.message.specs.declared.caller.Caller.{Caller}
use Rattle.message.specs.Refusal.{status}
use Rattle.message.specs.declared.refusal.Status.{Status}
use Rattle.message.specs.Command.{Given, Said, refused, done}
use Rattle.message.specs.JustOpened.{NOBODY, opened_by, body_meant}
use Rattle.message.specs.Reply.{reply_size}
use Rattle.message.specs.Message.{area_of, data_of, Ran, after, run, take-message}
use Rattle.invariants.specs.Sound.{Good}
use Rattle.invariants.specs.Fit.{Fit}
use Rattle.demands.specs.StatusRead.{status_read}
use Rattle.demands.specs.CommandReasons.{Reason}
use Rattle.demands.proofs.CommandReasons.{perform-reason, perform-given}
use Rattle.demands.specs.RefusedCall.{gives, step-done, step-refused}
use Rattle.demands.proofs.RefusedCall.{call-status}
use Rattle.demands.specs.ChainReasons.{AllAnnounced, Ends, chained-announced, left-good, meant-announced, refusal-not-zero}
use Rattle.demands.specs.ChainReasons.{all_done}
use Rattle.demands.specs.ChainReasons.{done-then}
use Rattle.demands.specs.ChainReasons.{next-announced}
use Rattle.demands.specs.ChainReasons.{none_left}
use Rattle.demands.specs.ChainReasons.{stops}

module _ (c : Caller) (s : List ℕ) where
  -- by what the first command gives
  pub first_ends : (just : ℕ) (b : Block) (bs : List Block) (place : ℕ) (t : Tables) (memory : List ℕ) (g : Given) → gives c s just b t memory ≡ g
      → Reason c t (area_of s b) (body_meant just b.body) (status_in g)
      → ((u : Tables) (m : List ℕ) (said : Said) → g ≡ done u m said → Ends c s (opened_by said) bs u m (run c s (opened_by said) bs (place + reply_size said) u m).forms.status)
      → Ends c s just (b ∷ bs) t memory (run c s just (b ∷ bs) place t memory).forms.status
  unfolding status_in after
  first_ends just b bs place t memory (refused why) e r f = rw (step-refused c s just b bs place t memory why e) (stops r (refusal-not-zero why))
  first_ends just b bs place t memory (done u m said) e r f = rw (step-done c s just b bs place t memory u m said e) (done-then r e (f u m said refl))

  -- the status that is given has its reason, command by command
  pub run_ends : {bs : List Block} → AllAnnounced s bs → (just place : ℕ) (t : Tables) (memory : List ℕ) → Good t → Ends c s just bs t memory (run c s just bs place t memory).forms.status
  unfolding run
  run_ends none_left just place t memory g = all_done
  run_ends (next-announced {b} {bs} h a) just place t memory g =
      first_ends just b bs place t memory (gives c s just b t memory) refl (perform-reason c t memory g.sound (body_meant just b.body) (area_of s b) (data_of s b) (meant-announced just b.body (area_of s b) h))
      (λ u m said e. run_ends a (opened_by said) (place + reply_size said) u m ((left-good c s) just b t memory g u m said e))

  -- and where it ends so, its status is given
  pub stopped-run : (just : ℕ) (b : Block) (bs : List Block) (place : ℕ) (t : Tables) (memory : List ℕ) {n : Status} (g : Given) → gives c s just b t memory ≡ g → status_in g ≡ n → (n ≡ status 0 0 → ⊥)
      → (run c s just (b ∷ bs) place t memory).forms.status ≡ n
  unfolding status_in
  stopped-run just b bs place t memory (refused why) e h nonzero = ap (λ (r : Ran). r.forms.status) (step-refused c s just b bs place t memory why e) ∙ h
  stopped-run just b bs place t memory (done u m said) e h nonzero = absurd (nonzero (sym h))

  pub ends-run : {just : ℕ} {bs : List Block} {t : Tables} {memory : List ℕ} {n : Status} → Ends c s just bs t memory n → AllAnnounced s bs → (place : ℕ) → Good t
      → (run c s just bs place t memory).forms.status ≡ n
  unfolding run after
  ends-run all_done a place g = refl
  ends-run (done-then {just} {b} {bs} {t} {u} {memory} {m} {said} r e h) (next-announced k a) place g =
      ap (λ (x : Ran). x.forms.status) (step-done c s just b bs place t memory u m said e)
      ∙ ends-run h a (place + reply_size said) ((left-good c s) just b t memory g u m said e)
  ends-run (stops {just} {b} {bs} {t} {memory} r nonzero) (next-announced k a) place g =
      stopped-run just b bs place t memory (gives c s just b t memory) refl (perform-given c t memory g.sound (body_meant just b.body) (area_of s b) (data_of s b) (meant-announced just b.body (area_of s b) k) r) nonzero

-- "Order: as written, for the whole of each command with all its ranges, command by command": a sentence has a status in its reply exactly if its commands end so
pub chain-exact : (connection : ℕ) (s : List ℕ) (bs : List Block) → blocks s ≡ Some bs → (t : Tables) (memory room : List ℕ) → Good t → Fit s t memory room → (n : Status)
    → (status_read (take-message connection s t memory room).room ≡ n) ↔ Ends (caller_of connection s) s NOBODY bs t memory n
unfolding blocks
chain-exact connection s bs e t memory room g fit n =
    let a = chained-announced (read-chained s (header_command s) FIRST bs e) in
    let same = call-status connection s bs e t memory room fit in (
      λ h. rw (sym same ∙ h) at (run_ends (caller_of connection s) s a NOBODY FIRST t memory g),
      λ h. same ∙ ends-run (caller_of connection s) s h a FIRST g,
    )

-- of any reading: its blocks are the commands
pub chain-reading : (connection : ℕ) (s : List ℕ) {spans : List Span} → Reading s spans → (t : Tables) (memory room : List ℕ) → Good t → Fit s t memory room
    → (bs : List Block) × (map span_of bs ≡ spans)
    × ((n : Status) → (status_read (take-message connection s t memory room).room ≡ n) ↔ Ends (caller_of connection s) s NOBODY bs t memory n)
chain-reading connection s r t memory room g fit =
    let a = reader-complete r in (a.0, a.2, chain-exact connection s a.0 a.1 t memory room g fit)
