-- `requests::writing::ends_past` meets its contract: the room left is tested, so that no sum passes 64 bits.
-- Assumes nothing.
use Rattle.std.specs.Prelude.{◌+◌}
use native.Mathlib.Omega.{arith}
use borrow.Author.Tests.{eq-eqb, ne_eqb, lt-ltb}
use Rattle.message.specs.Command.{ends_past}
use Rattle.requests.specs.WritePart.{room-left}
use Rattle.requests.proofs.writing.ends_past.Goals as goal

pub returns-then-count-eq0 : goal.returns-then-count-eq0
unfolding ends_past
returns-then-count-eq0 c =
    rw (eq-eqb _ _ c.if-count-eq0.true)

pub returns-then-offset-gt4096 : goal.returns-then-offset-gt4096
unfolding ends_past
returns-then-offset-gt4096 c =
    let args = c.args in
    rw (ne_eqb _ _ c.if-count-eq0.false, lt-ltb 4096 (args.offset + args.count) (omega arith))

pub returns : goal.returns
unfolding ends_past
returns c =
    let args = c.args in
    rw (ne_eqb _ _ c.if-count-eq0.false) (room-left args.offset args.count c.if-offset-gt4096.false)
