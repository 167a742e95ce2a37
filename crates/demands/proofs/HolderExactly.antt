-- Of specs/HolderExactly.antt: what rests on its other theorems. Assumes nothing.
use Rattle.std.specs.Prelude.{◌≡◌, ◌↔◌, ℕ, List, None as Nobody, Some as held_by}
use Rattle.std.proofs.Common.{sym, ◌∙◌, arith}
use Rattle.std.proofs.Math.Decide.{ℕ_discrete}
use Rattle.records.specs.declared.Tables.{Tables}
use Rattle.locks.specs.declared.types.Holder.{Holder}
use Rattle.message.specs.Refusal.{status}
use Rattle.message.specs.HeldBy.{HeldBy}
use Rattle.invariants.specs.Fit.{Fit}
use Rattle.demands.specs.StatusRead.{status_read}
use Rattle.demands.proofs.Calls.{status-call}
use Rattle.demands.proofs.MessageReasons.{done-exact}
use Rattle.demands.specs.HolderBeside.{Beside, nobody-exact, answered-beside}
use Rattle.demands.specs.HolderExactly.{call, holder-answered, undone-nobody}

module _ (connection : ℕ) (s : List ℕ) (t : Tables) (memory room : List ℕ) where
  pub call-beside : (call connection s t memory room).number ≡ 0 → Beside (status_read (call connection s t memory room).room) (call connection s t memory room).holder
  call-beside e =
      let fit = (done-exact connection s t memory room).0 e in
      rw (status-call connection s t memory room fit, (holder-answered connection s t memory room) fit) (answered-beside connection s t memory)

  -- and none exactly if it is another
  pub nobody-exactly : (call connection s t memory room).number ≡ 0 → ((call connection s t memory room).holder ≡ Nobody) ↔ (status_read (call connection s t memory room).room ≡ status 1 33 → ⊥)
  nobody-exactly e = nobody-exact (call-beside e)

  -- so a call with a holder is done, and its message fit to be answered
  pub held-fit : (h : Holder) → (call connection s t memory room).holder ≡ held_by h → Fit s t memory room
  held-fit h e =
      elim (ℕ_discrete (call connection s t memory room).number 0) [
        | yes z ↦ (done-exact connection s t memory room).0 z
        | no n ↦ let b : ◌≡◌ {A = HeldBy} Nobody (held_by h) = sym ((undone-nobody connection s t memory room) n) ∙ e in let z : ◌≡◌ {A = ℕ} 0 1 = cc in absurd (omega arith)
      ]
