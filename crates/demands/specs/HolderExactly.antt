-- Beside which reply there is a holder (document 02, CR 2: "the host gets the holder's FID and process beside the reply"): of a call that is done exactly if the Status
-- in its reply is 1/33, lock conflict; of any other call there is none. Assumes nothing.
use Rattle.std.specs.Prelude.{◌≡◌, refl, ℕ, ◌||◌, List, length, ltb, eqb, None as Nobody}
use Rattle.std.proofs.Math.Path.{ap}
use Rattle.std.proofs.Math.Bool.{not}
use Rattle.records.specs.declared.Tables.{Tables}
use Rattle.soundness.specs.Sound.{sound}
use Rattle.chain.specs.Header.{dropped}
use Rattle.message.specs.Message.{answered, Taken, not_taken, replied, take-message}
use Rattle.invariants.specs.GivenCases.{cond-case}
use Rattle.invariants.specs.Fit.{Fit, fit-answered}

module _ (connection : ℕ) (s : List ℕ) (t : Tables) (memory room : List ℕ) where
  abbrev pub call : Taken
  call = take-message connection s t memory room

  pub holder-answered : Fit s t memory room → call.holder ≡ (answered connection s t memory).holder
  unfolding replied
  holder-answered fit = ap (λ (k : Taken). k.holder) (fit-answered connection s t memory room fit)

  -- a call with another number than 0 has no holder
  pub undone-nobody : (call.number ≡ 0 → ⊥) → call.holder ≡ Nobody
  unfolding take-message not_taken replied
  undone-nobody =
      cond-case (λ (r : Taken). (r.number ≡ 0 → ⊥) → r.holder ≡ Nobody) (ltb (length room) 12292 || not (eqb (length memory) 65536)) (not_taken 2 t memory room) _ (λ _ n. refl)
      (λ _. cond-case (λ (r : Taken). (r.number ≡ 0 → ⊥) → r.holder ≡ Nobody) (not (sound t)) (not_taken 4 t memory room) _ (λ _ n. refl)
      (λ _. cond-case (λ (r : Taken). (r.number ≡ 0 → ⊥) → r.holder ≡ Nobody) (dropped s) (not_taken 1 t memory room) (replied s room (answered connection s t memory)) (λ _ n. refl)
      (λ _ n. absurd (n refl))))
