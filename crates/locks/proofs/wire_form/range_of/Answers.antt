-- `locks::wire_form::range_of` meets its contract: the two halves make 32 bits.
-- Assumes nothing.
use native.Mathlib.Omega.{arith}
use Rattle.locks.proofs.Whole.{process-below}
use Rattle.locks.proofs.wire_form.range_of.Goals as goal

pub overflow_add-process : goal.overflow_add-process
overflow_add-process c =
    let args = c.args in
    let low = process-below args.q.large args.area.now args.k (λ i. omega (arith, c.type_inv.area i)) in
    omega (arith, rw (← c.range_at-r.ensures) at low)
