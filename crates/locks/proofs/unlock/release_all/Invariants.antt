use mathlib.Core.Path.{◌≡◌}
use mathlib.Core.Bool.{true}
use mathlib.Core.List.{map}
use lib.ListN.{length}
use Rattle.tables.specs.Words.{word, lock_array, lock_limits, table_fits}
use Rattle.tables.specs.Written.{locks_in}
use Rattle.locks.specs.Answer.{file_in}
use Rattle.locks.specs.Request.{of_header, ranges_of, release_all}
use Rattle.locks.proofs.Ahead.{Ahead}
use Rattle.locks.proofs.Unlocked.{Left}
use Rattle.locks.proofs.unlock.release_all.Given as goal

abbrev pub invariant-loop-k : goal.invariant-loop-k
invariant-loop-k l = (length l.words ≡ 641)
    × Left (lock_array l.initial.words) (word l.initial.words 0) (lock_array l.words) (word l.words 0)
    × Ahead (release_all (file_in l.files) l.q.fid (ranges_of l.q l.area 0 l.q.unlocks) (locks_in l.initial.words))
    (λ rs. release_all (file_in l.files) l.q.fid (map (of_header l.q.high) rs) (locks_in l.words)) l.q.large l.area 0 l.q.unlocks l.k
    × (table_fits lock_limits 128 l.initial.words ≡ true → table_fits lock_limits 128 l.words ≡ true)
