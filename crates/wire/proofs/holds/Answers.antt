-- `wire::holds` meets its contract: the count is taken off the length, so that no sum can wrap.
-- Assumes nothing.
-- a count on one side of a test is taken off the other
use mathlib.Core.Path.{◌≡◌, sym, ◌∙◌}
use Prim.Native.Nat.{ℕ, ◌+◌, ◌-◌, ◌≤◌, ◌<◌}
use native.Mathlib.Omega.{arith}
use lib.ListN.{length}
use lib.Dec.{leb}
use borrow.Author.Tests.{leb-true, le-leb, lt-leb}
use Rattle.lists.specs.Truth.{same_truth}
use Rattle.wire.proofs.holds.Goals as goal

taken-off : (at count size : ℕ) → count ≤ size → leb at (size - count) ≡ leb (at + count) size
taken-off at count size h =
    same_truth (leb at (size - count)) (leb (at + count) size)
    (λ e. let q = leb-true at (size - count) e in le-leb (at + count) size (omega arith))
    (λ e. let q = leb-true (at + count) size e in le-leb at (size - count) (omega arith))

pub returns-then-count-s : goal.returns-then-count-s
returns-then-count-s c = taken-off c.args.at c.args.count (length c.args.s.now) c.if-count-s.true

pub returns-else-count-s : goal.returns-else-count-s
returns-else-count-s c =
    let args = c.args in
    let short : length args.s.now < args.at + args.count = omega arith in
    lt-leb args.count (length args.s.now) c.if-count-s.false ∙ sym (lt-leb (args.at + args.count) (length args.s.now) short)
