use Prim.Native.Nat.{◌-◌}
use Rattle.lists.specs.Walk.{found, found_from}
use Rattle.locks.specs.Wire.{ranges_at}
use Rattle.locks.specs.Blocked.{range_meets}
use Rattle.locks.proofs.Ahead.{Ahead}
use Rattle.locks.proofs.grants.first_overlap.Given as goal

abbrev pub invariant-loop-k : goal.invariant-loop-k
invariant-loop-k l = Ahead (found (range_meets l.q.offset l.q.length) (ranges_at l.large l.area l.from (l.to - l.from)))
    (λ rs. found_from (l.k - l.from) (range_meets l.q.offset l.q.length) rs) l.large l.area l.from l.to l.k
