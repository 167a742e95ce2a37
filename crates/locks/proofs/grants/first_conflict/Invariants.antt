use Prim.Native.Nat.{◌+◌}
use mathlib.Core.List.{map}
use Rattle.tables.specs.Written.{locks_in}
use Rattle.locks.specs.Answer.{file_in}
use Rattle.locks.specs.Request.{of_header, ranges_of, grant_all}
use Rattle.locks.proofs.Ahead.{Ahead}
use Rattle.locks.proofs.Granted.{along}
use Rattle.locks.proofs.grants.first_conflict.Given as goal

abbrev pub invariant-loop-k : goal.invariant-loop-k
invariant-loop-k l = Ahead (grant_all (file_in l.files) l.q.fid l.q.shared (ranges_of l.q l.area l.q.unlocks l.q.locks) (locks_in l.words))
    (λ rs. grant_all (file_in l.files) l.q.fid l.q.shared (map (of_header l.q.high) rs) (along l.q l.area (locks_in l.words) l.k)) l.q.large l.area l.q.unlocks (l.q.unlocks + l.q.locks) l.k
