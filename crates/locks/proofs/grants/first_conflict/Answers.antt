-- `locks::grants::first_conflict` meets its contract: the ranges ahead, against the list with the request's own locks so far, are granted or blocked as all are.
-- Assumes nothing.
use mathlib.Core.Path.{◌≡◌, sym, ◌∙◌}
use Prim.Native.Nat.{◌+◌, ◌-◌}
use mathlib.Core.List.{map}
use Rattle.locks.specs.Request.{ranges_of, holder_at, grant_all}
use Rattle.locks.specs.Blocked.{blocked_at}
use Rattle.locks.proofs.Ahead.{ahead-start, ahead-here, ahead_more, ahead_none}
use Rattle.locks.proofs.Granted.{grant-start, grant-stop, grant-more}
use native.Mathlib.Omega.{arith}
use Rattle.locks.proofs.grants.first_conflict.Goals as goal

pub loop-k-init : goal.loop-k-init
unfolding ranges_of
loop-k-init c =
    let args = c.args in
    let asked : args.q.unlocks + args.q.locks - args.q.unlocks ≡ args.q.locks = omega arith in
    ahead-start (omega arith) (rw asked (grant-start _ args.q args.area.now _ _))

pub conflict_of-requires : goal.conflict_of-requires
conflict_of-requires c = let low = c.loop-k.invariant.low in record { words_len = c.requires; unlocks_le_k = (low, omega arith) }

pub returns-in-Some : goal.returns-in-Some
unfolding blocked_at holder_at
returns-in-Some c =
    rw (ahead-here c.loop-k.invariant (omega arith) (λ rs. grant-stop _ _ _ _ _ (map _ rs) c.in-Some.place (sym c.in-Some.is ∙ c.conflict_of.ensures)))

pub loop-k-preserved : goal.loop-k-preserved
loop-k-preserved c =
    ahead_more c.loop-k.invariant (omega arith)
    (λ rs. grant-more _ _ _ _ _ (map _ rs) (omega arith) (sym c.in_default.is ∙ c.conflict_of.ensures))

pub returns : goal.returns
unfolding blocked_at grant_all
returns c = rw (ahead_none c.loop-k.invariant (omega arith))
