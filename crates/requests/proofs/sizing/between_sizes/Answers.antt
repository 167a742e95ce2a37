-- `requests::sizing::between_sizes` meets its contract: the smaller of the sizes is the start, and the difference the length.
-- Assumes nothing.
use Rattle.std.specs.Prelude.{◌≡◌, min, max}
use native.Mathlib.Omega.{arith}
use Rattle.message.specs.Command.{between_sizes}
use Rattle.requests.proofs.sizing.between_sizes.Goals as goal

pub returns-then-old-new : goal.returns-then-old-new
unfolding between_sizes
returns-then-old-new c =
    let args = c.args in
    let low : min args.old args.new ≡ args.old = omega arith in
    let high : max args.old args.new ≡ args.new = omega arith in
    rw (low, high) c.ask_of.ensures

pub returns : goal.returns
unfolding between_sizes
returns c =
    let args = c.args in
    let low : min args.old args.new ≡ args.new = omega arith in
    let high : max args.old args.new ≡ args.old = omega arith in
    rw (low, high) c.ask_of-2.ensures
