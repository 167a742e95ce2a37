-- `wire::le32_at` meets its contract: four bytes inside are those of the definition; else the two halves are, and past the end both are 0.
-- Assumes nothing.
-- all four bytes stand inside
use mathlib.Core.Path.{sym, ◌∙◌}
use Prim.Native.Nat.{◌+◌, ◌*◌, ◌≤◌}
use native.Mathlib.Omega.{arith}
use lib.ListN.{length}
use borrow.Author.Tests.{leb-true}
use Rattle.wire.specs.LittleEndian.{le32_at, le32-past, le32-bytes}
use Rattle.wire.proofs.le32_at.Goals as goal
use Rattle.wire.proofs.le32_at.Goals.{Then-holds}

inside : (c : Then-holds) → c.args.at + 4 ≤ length c.args.s.now
inside c =
    let args = c.args in
    leb-true (args.at + 4) (length args.s.now) (sym c.holds.ensures ∙ c.if-holds.true)

pub bounds-s-at : goal.bounds-s-at
bounds-s-at c = omega (arith, inside (goal.at.bounds-s-at c).Then-holds)

pub overflow_add-at : goal.overflow_add-at
overflow_add-at c = omega (arith, inside (goal.at.overflow_add-at c).Then-holds)

pub bounds-s-at-then-holds : goal.bounds-s-at-then-holds
bounds-s-at-then-holds c = omega (arith, inside (goal.at.bounds-s-at-then-holds c).Then-holds)

pub overflow_add-at-then-holds : goal.overflow_add-at-then-holds
overflow_add-at-then-holds c = omega (arith, inside (goal.at.overflow_add-at-then-holds c).Then-holds)

pub bounds-s-at-then-holds-2 : goal.bounds-s-at-then-holds-2
bounds-s-at-then-holds-2 c = omega (arith, inside (goal.at.bounds-s-at-then-holds-2 c).Then-holds)

pub overflow_add-at-then-holds-2 : goal.overflow_add-at-then-holds-2
overflow_add-at-then-holds-2 c = omega (arith, inside (goal.at.overflow_add-at-then-holds-2 c).Then-holds)

pub bounds-s-at-then-holds-3 : goal.bounds-s-at-then-holds-3
bounds-s-at-then-holds-3 c = omega (arith, inside (goal.at.bounds-s-at-then-holds-3 c).Then-holds)

pub returns-then-holds : goal.returns-then-holds
returns-then-holds c =
    let args = c.args in
    le32-bytes args.s.now args.at _ _ (c.from.ensures ∙ c.pair-low.ensures) (c.from-then-holds.ensures ∙ c.pair.ensures)

pub returns-then-at-s : goal.returns-then-at-s
unfolding le32_at
returns-then-at-s c =
    λ i.
    (c.from-then-at-s.ensures ∙ c.le16_at.ensures) i
    + 65536 * (c.from-then-at-s-2.ensures ∙ c.le16_at-then-at-s.ensures) i

pub returns-else-at-s : goal.returns-else-at-s
returns-else-at-s c =
    let args = c.args in
    sym (le32-past args.s.now args.at c.if-at-s.false)
