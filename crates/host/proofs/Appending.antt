-- A record written behind those in use, and the count one higher. Proved once, for any table.
-- Assumes nothing.
use mathlib.Core.Path.{◌≡◌, ap, ◌∙◌}
use Prim.Native.Nat.{ℕ, ◌+◌, ◌<◌}
use native.Mathlib.Decide.{dec_le}
use native.Mathlib.Omega.{arith}
use mathlib.Core.List.{List}
use lib.ListN.{length, set}
use Rattle.tables.specs.Words.{word, records_fit, in_use}
use Rattle.tables.specs.Written.{Wrote}
use Rattle.tables.specs.FitLaws.{fit-wrote}
use Rattle.tables.specs.ChangeLaws.{holds-add, count_set, fit_count}
use Rattle.host.specs.OnWords.{Appended}

-- a place up to the last and not the last is in front of it
in-front : (j n : ℕ) → j < n + 1 → (j ≡ n → ⊥) → j < n
in-front j n h e =
    elim (dec_le n j) [
      | yes k ↦ absurd (e (omega arith))
      | no k ↦ omega arith
    ]

pub appended : {A : Type 0} (array_in : List ℕ → List A) (z x : A) (limits before between : List ℕ) (room : ℕ) → length (array_in before) ≡ room
    → word before 0 < room → 0 < length between → Wrote array_in limits before between (word before 0) x
    → array_in (set between 0 (word before 0 + 1)) ≡ array_in between
    → Appended array_in limits room z before (set between 0 (word before 0 + 1)) x
appended array_in z x limits before between room long inside some wrote same =
    let n = word before 0 in
    let after = set between 0 (n + 1) in
    let count : word after 0 ≡ n + 1 = count_set between (n + 1) some in
    record {
      holds = holds-add array_in z x limits before between after (rw long inside) wrote same count;
      fit =
          λ e.
          let used : in_use before room ≡ n = omega arith in
          let more : in_use after room ≡ n + 1 = rw count (omega arith) in
          ap (λ (m : ℕ). records_fit limits m after) more
          ∙ fit_count between (n + 1) some limits (n + 1)
          ∙ fit-wrote n (n + 1) wrote (rw used at e) (λ j h q. in-front j n h q);
    }
