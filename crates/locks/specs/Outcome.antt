-- How a LOCKING request ends: done, or refused for a reason.
-- Assumes nothing.
use Rattle.std.specs.Prelude.{Bool, Result, Ok, is_ok}
use Rattle.locks.specs.declared.types.LockRefusal.{LockRefusal}

abbrev pub Outcome : Type 0
Outcome = Result (Unit {0}) LockRefusal

abbrev pub Done : Outcome
Done = Ok tt

-- a request is done
abbrev pub is_done : Outcome → Bool
is_done o = is_ok o
