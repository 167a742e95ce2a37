-- `locks::wire_form::range_at` meets its contract: no place is large, and inside the area or not the range is the one there.
-- Assumes nothing.
-- the range's place is small
use Prim.Native.Nat.{◌*◌, ◌≤◌}
use native.Mathlib.Omega.{arith}
use Rattle.locks.specs.Wire.{place-small, size_small}
use Rattle.locks.proofs.wire_form.range_at.Goals as goal
use Rattle.locks.proofs.wire_form.range_at.Goals.{After-range_size-size}

at_small : (c : After-range_size-size) → c.args.k * c.range_size-size.result ≤ 2621440
at_small c = rw c.range_size-size.ensures (place-small c.args.large c.args.k c.requires)

pub overflow_mul-at : goal.overflow_mul-at
overflow_mul-at c = omega (arith, at_small (goal.at.overflow_mul-at c).After-range_size-size)

pub overflow_add-at : goal.overflow_add-at
overflow_add-at c =
    let size : c.range_size-size.result ≤ 20 = rw c.range_size-size.ensures (size_small c.args.large) in
    omega (arith, at_small (goal.at.overflow_add-at c).After-range_size-size)

pub range_inside-requires : goal.range_inside-requires
range_inside-requires c = (at_small (goal.at.range_inside-requires c).After-range_size-size, rw (← c.range_size-size.ensures) c.if-at-size.true)

pub range_past-requires : goal.range_past-requires
range_past-requires c = at_small (goal.at.range_past-requires c).After-range_size-size
