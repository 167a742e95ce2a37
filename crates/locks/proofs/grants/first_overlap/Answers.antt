-- `locks::grants::first_overlap` meets its contract: the ranges ahead give the same answer as all of them.
-- Assumes nothing.
use mathlib.Core.Path.{sym}
use native.Mathlib.Omega.{arith}
use Rattle.lists.specs.Walk.{found_from}
use Rattle.lists.specs.FoundLaws.{found_from-yes}
use Rattle.locks.specs.Blocked.{range_meets}
use Rattle.locks.proofs.Ahead.{ahead-start, ahead-here, ahead_more, ahead_none}
use Rattle.locks.proofs.Granted.{found-whole, found-next}
use Rattle.locks.proofs.grants.first_overlap.Goals as goal

pub loop-k-init : goal.loop-k-init
loop-k-init c = ahead-start (omega arith) (found-whole _ c.args.from _)

pub returns-then-overlap : goal.returns-then-overlap
unfolding range_meets
returns-then-overlap c = sym (ahead-here c.loop-k.invariant (omega arith) (λ rs. found_from-yes _ _ _ _ (rw (← c.range_at-r.ensures, ← c.overlap.ensures) c.if-overlap.true)))

pub loop-k-preserved : goal.loop-k-preserved
unfolding range_meets
loop-k-preserved c =
    let args = c.args in
    let loop = c.loop-k in
    ahead_more loop.invariant (omega arith) (λ rs. found-next _ args.from loop.k _ _ (omega arith) (rw (← c.range_at-r.ensures, ← c.overlap.ensures) c.if-overlap.false))

pub returns : goal.returns
unfolding found_from
returns c = sym (ahead_none c.loop-k.invariant (omega arith))
