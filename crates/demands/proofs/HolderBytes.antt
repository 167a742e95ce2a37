-- Of specs/HolderBytes.antt: what rests on its other theorems. Assumes nothing.
use Rattle.std.specs.Prelude.{◌≡◌, ℕ, ◌+◌, ◌^◌, ◌≤◌, true, length, Some as held_by}
use Rattle.std.proofs.Common.{arith}
use Rattle.std.proofs.Math.Decide.{dec_lt}
use mathlib.Core.List.{List}
use Rattle.records.specs.declared.Tables.{Tables}
use Rattle.locks.specs.declared.types.Holder.{Holder}
use Rattle.soundness.specs.Sound.{sound}
use Rattle.invariants.specs.Sound.{Good}
use Rattle.invariants.specs.Fit.{take-message-good}
use Rattle.message.specs.declared.caller.Caller.{Caller}
use Rattle.demands.specs.HolderExactly.{call}
use Rattle.demands.proofs.HolderExactly.{held-fit}
use Rattle.demands.specs.HolderWords.{first-stands, HeldWhere, one-range, many-ranges}
use Rattle.demands.proofs.HolderStands.{holder-exact, where-then}
use Rattle.demands.proofs.HolderOpen.{holder-own, holder-listed}
use Rattle.demands.specs.HolderBytes.{listed-ends, own-ends, stands-ends, stands-some}

module _ (t : Tables) (ok : sound t ≡ true) where
  pub held_bytes : {c : Caller} {area : List ℕ} {h : Holder} → HeldWhere c t area h → (1 ≤ h.lock.length) × (h.lock.offset + h.lock.length ≤ 2 ^ 64)
  held_bytes (one-range w) = (stands-some w, (stands-ends t ok) w)
  held_bytes {h = h} (many-ranges r) = (
    stands-some (first-stands r.held.first),
    elim (dec_lt h.place (length r.left)) [
      | yes l ↦ (listed-ends t ok) h.lock (holder-listed r l)
      | no n ↦ own-ends r (holder-own r (omega arith))
    ],
  )

-- of any call with a holder, on good tables
pub holder-bytes : (connection : ℕ) (s : List ℕ) (t : Tables) (memory room : List ℕ) → Good t → (h : Holder) → (call connection s t memory room).holder ≡ held_by h
    → (1 ≤ h.lock.length) × (h.lock.offset + h.lock.length ≤ 2 ^ 64)
holder-bytes connection s t memory room g h e =
    let fit = held-fit connection s t memory room h e in
    held_bytes (call connection s t memory room).tables (take-message-good connection s t memory room g).sound (where-then connection s t memory room g fit h ((holder-exact connection s t memory room g fit h).0 e))
