use Prim.Native.Nat.{◌-◌}
use Rattle.lists.specs.Walk.{any}
use Rattle.locks.specs.Wire.{ranges_at}
use Rattle.locks.specs.Request.{range_passes}
use Rattle.locks.proofs.Ahead.{Ahead}
use Rattle.locks.proofs.grant.some_passes.Given as goal

abbrev pub invariant-loop-k : goal.invariant-loop-k
invariant-loop-k l = Ahead (any range_passes (ranges_at l.large l.area l.from (l.to - l.from))) (any range_passes) l.large l.area l.from l.to l.k
