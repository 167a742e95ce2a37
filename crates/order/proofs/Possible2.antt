-- Of specs/Possible2.antt: what rests on its other theorems. Assumes nothing.
use Rattle.std.specs.Prelude.{◌≡◌, replicate, Some as held_by}
use Rattle.std.proofs.Common.{ap, ◌∙◌}
use Rattle.message.specs.Message.{Taken, replied}
use Rattle.invariants.specs.Fit.{fit-answered}
use Rattle.order.specs.Call.{gives, Answerable}
use Rattle.order.specs.Possible.{plant, asked}
use Rattle.order.proofs.Possible.{plant-good, answerable}
use Rattle.order.specs.Possible2.{first_range, kept, two-given, two_asked, two_ranges}

pub two-answerable : Answerable two_asked
unfolding two_asked
two-answerable = answerable two_ranges (plant 2 1) plant-good.2 kept

-- that range is the holder, and its lock is undone: no table is changed
pub first-refuses : ((gives two_asked).holder ≡ held_by first_range) × ((gives two_asked).tables ≡ plant 2 1)
unfolding two_asked asked replied
first-refuses =
    let same = fit-answered 5 two_ranges (plant 2 1) (replicate 65536 0) (replicate 12292 0) (answerable two_ranges (plant 2 1) plant-good.2 kept).fit in
    (ap (λ (k : Taken). k.holder) same ∙ two-given.0, ap (λ (k : Taken). k.tables) same ∙ two-given.1)
