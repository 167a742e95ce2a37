-- Of specs/Possible7.antt: what rests on its other theorems. Assumes nothing.
use Rattle.std.specs.Prelude.{[], replicate}
use Rattle.std.proofs.Common.{◌∙◌}
use Rattle.claims.specs.Cases.{message}
use Rattle.demands.proofs.NtStatus.{form-alone}
use Rattle.order.specs.Call.{Answerable}
use Rattle.order.specs.Demand2.{RefusedForConflict}
use Rattle.order.specs.Possible.{plant, asked, kept-61}
use Rattle.order.proofs.Possible.{plant-good, answerable, lock-refused}
use Rattle.order.specs.Possible7.{but-byte, kept, lock_with_bit, with_bit}

pub bit-answerable : Answerable lock_with_bit
unfolding lock_with_bit
bit-answerable = answerable with_bit (plant 2 1) plant-good.2 kept

-- so it is refused for the same conflict
pub bit-refused : RefusedForConflict lock_with_bit
unfolding lock_with_bit asked
bit-refused =
    let same = form-alone 5 (message 61 []) with_bit but-byte (plant 2 1) (replicate 65536 0) (replicate 12292 0) (answerable (message 61 []) (plant 2 1) plant-good.2 kept-61).fit in
    (same.same-status ∙ lock-refused.0, same.same_length ∙ lock-refused.1)
