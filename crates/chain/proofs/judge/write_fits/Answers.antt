-- `chain::judge::write_fits` meets its contract: the tests are those of the definition, and a block that fits stands inside the message.
-- Assumes nothing.
use mathlib.Core.Path.{◌≡◌, sym, ◌∙◌}
use mathlib.Core.Bool.{true}
use native.Mathlib.Omega.{arith}
use Rattle.chain.specs.Parse.{shaped, write_fits}
use Rattle.chain.specs.ParseLaws.{shaped-inside}
use Rattle.chain.proofs.judge.write_fits.Goals as goal

pub data_inside-requires : goal.data_inside-requires
data_inside-requires c =
    let args = c.args in
    let fits : shaped args.s.now args.at 12 ≡ true = sym c.has_shape.ensures ∙ c.if-has_shape.true in
    omega (arith, shaped-inside args.s.now args.at 12 fits)

pub returns-then-has_shape : goal.returns-then-has_shape
unfolding write_fits
returns-then-has_shape c = rw (← c.has_shape.ensures, c.if-has_shape.true) c.data_inside.ensures

pub data_inside-requires-then-has_shape-2 : goal.data_inside-requires-then-has_shape-2
data_inside-requires-then-has_shape-2 c =
    let args = c.args in
    let fits : shaped args.s.now args.at 14 ≡ true = sym c.has_shape-2.ensures ∙ c.if-has_shape-2.true in
    omega (arith, shaped-inside args.s.now args.at 14 fits)

pub returns-then-has_shape-2 : goal.returns-then-has_shape-2
unfolding write_fits
returns-then-has_shape-2 c = rw (← c.has_shape.ensures, c.if-has_shape.false, ← c.has_shape-2.ensures, c.if-has_shape-2.true) c.data_inside-then-has_shape-2.ensures

pub returns : goal.returns
unfolding write_fits
returns c = rw (← c.has_shape.ensures, c.if-has_shape.false, ← c.has_shape-2.ensures, c.if-has_shape-2.false)
