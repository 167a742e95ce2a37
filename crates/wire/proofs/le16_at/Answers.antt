-- `wire::le16_at` meets its contract: two bytes inside are those of the definition; else the second is 0.
-- Assumes nothing.
-- both bytes stand inside
use mathlib.Core.Path.{sym, ◌∙◌}
use Prim.Native.Nat.{◌+◌, ◌≤◌, ◌<◌}
use native.Mathlib.Omega.{arith}
use lib.ListN.{length}
use borrow.Author.Tests.{leb-true, leb-false}
use Rattle.wire.specs.LittleEndian.{le16_at, le16-last}
use Rattle.wire.proofs.le16_at.Goals as goal
use Rattle.wire.proofs.le16_at.Goals.{Then-holds}

inside : (c : Then-holds) → c.args.at + 2 ≤ length c.args.s.now
inside c =
    let args = c.args in
    leb-true (args.at + 2) (length args.s.now) (sym c.holds.ensures ∙ c.if-holds.true)

pub bounds-s-at : goal.bounds-s-at
bounds-s-at c = omega (arith, inside (goal.at.bounds-s-at c).Then-holds)

pub overflow_add-at : goal.overflow_add-at
overflow_add-at c = omega (arith, inside (goal.at.overflow_add-at c).Then-holds)

pub bounds-s-at-then-holds : goal.bounds-s-at-then-holds
bounds-s-at-then-holds c = omega (arith, inside (goal.at.bounds-s-at-then-holds c).Then-holds)

pub returns-then-holds : goal.returns-then-holds
unfolding le16_at
returns-then-holds c = c.pair.ensures

pub returns : goal.returns
returns c =
    let args = c.args in
    let short : length args.s.now < args.at + 2 = leb-false (args.at + 2) (length args.s.now) (sym c.holds.ensures ∙ c.if-holds.false) in
    c.from.ensures ∙ c.byte_at.ensures ∙ sym (le16-last args.s.now args.at (omega arith))
