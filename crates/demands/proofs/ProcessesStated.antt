-- Of specs/Processes.antt: what rests on its other theorems. Assumes nothing.
use Rattle.std.specs.Prelude.{◌≡◌, ℕ, ◌/◌}
use Rattle.std.proofs.Common.{sym, ap, ◌∙◌}
use mathlib.Core.List.{List}
use Rattle.wire.specs.LittleEndian.{le16_at}
use Rattle.records.specs.declared.Lock.{Lock}
use Rattle.locks.specs.declared.types.LockRange.{LockRange}
use Rattle.claims.specs.StreamKept.{Bytes}
use Rattle.demands.specs.LockWords.{Named}
use Rattle.demands.specs.LockEffects.{RangeOn, GrantedLock}
use Rattle.demands.specs.Processes.{range-upper}

-- a range of another upper half names no lock that was granted for a range of the one, however equal they are else
pub names-not : (s t : List ℕ) → Bytes s → Bytes t → (le16_at s 12 ≡ le16_at t 12 → ⊥) → {j k : ℕ} {q r : LockRange} {l : Lock} → RangeOn s j q → GrantedLock s q l
    → RangeOn t k r → (fid : ℕ) → Named fid r l → ⊥
names-not s t b d other {q = q} {r = r} {l = l} on granted asked fid n =
    let one = range-upper s b on in
    let two = range-upper t d asked in
    let same : q.process ≡ r.process = sym granted.of-process ∙ n.of-process in
    other (sym one ∙ ap (λ (p : ℕ). p / 65536) same ∙ two)
