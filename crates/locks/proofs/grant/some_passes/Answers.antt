-- `locks::grant::some_passes` meets its contract: some range passes the end where one of those ahead does.
-- Assumes nothing.
use mathlib.Core.Path.{refl, sym}
use native.Mathlib.Omega.{arith}
use Rattle.lists.specs.Walk.{any}
use Rattle.lists.specs.FoundLaws.{any-first, any-later}
use Rattle.locks.proofs.Ahead.{ahead-start, ahead-here, ahead_more, ahead_none}
use Rattle.locks.proofs.Granted.{range-passes}
use Rattle.locks.proofs.grant.some_passes.Goals as goal

pub loop-k-init : goal.loop-k-init
loop-k-init c = ahead-start (omega arith) refl

pub returns-then-passes_end : goal.returns-then-passes_end
returns-then-passes_end c =
    sym (ahead-here c.loop-k.invariant (omega arith) (λ rs. any-first _ _ rs (range-passes c.range_at-r.ensures c.passes_end.ensures c.if-passes_end.true)))

pub loop-k-preserved : goal.loop-k-preserved
loop-k-preserved c =
    ahead_more c.loop-k.invariant (omega arith) (λ rs. any-later _ _ rs (range-passes c.range_at-r.ensures c.passes_end.ensures c.if-passes_end.false))

pub returns : goal.returns
unfolding any
returns c = sym (ahead_none c.loop-k.invariant (omega arith))
