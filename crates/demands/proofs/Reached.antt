-- Of specs/Reached.antt: what rests on its other theorems. Assumes nothing.
use Rattle.std.specs.Prelude.{◌≡◌, refl, ℕ, List, length}
use Rattle.std.proofs.Common.{◌∙◌}
use Rattle.records.specs.declared.Tables.{Tables}
use Rattle.invariants.specs.Sound.{Good}
use Rattle.demands.specs.Reached.{Reached, ReachedLending, call-good, call-memory, lending-reached, start-good}
use Rattle.demands.specs.Reached.{lending-call}
use Rattle.demands.specs.Reached.{lending-start}
use Rattle.demands.specs.Reached.{start}
use Rattle.demands.specs.Reached.{then-call}

-- "Every call on sound tables leaves sound tables": whatever the history, they are sound
pub reached-good : {t : Tables} → Reached t → Good t
reached-good start = start-good
reached-good (then-call r memory call) = call-good call (reached-good r)

-- and the file memory stays as long as it was lent
pub reached-memory : {lent memory : List ℕ} {t : Tables} → ReachedLending lent t memory → length memory ≡ length lent
reached-memory lending-start = refl
reached-memory (lending-call r call) = call-memory call (reached-good (lending-reached r)) ∙ reached-memory r
