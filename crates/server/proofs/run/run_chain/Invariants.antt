use Prim.Native.Nat.{◌-◌}
use lib.ListN.{length}
use Rattle.tables.specs.Words.{tables_of}
use Rattle.server.specs.Taking.{Turn, Kept}
use Rattle.server.proofs.run.run_chain.Given as goal

abbrev pub invariant-loop-follower : goal.invariant-loop-follower
invariant-loop-follower l = Turn l.c l.s l.initial.room (tables_of l.initial.words) l.initial.memory l.command l.at l.place l.just (tables_of l.words) l.memory l.room × Kept l.initial.words l.words

abbrev pub decreases-loop-follower : goal.decreases-loop-follower
decreases-loop-follower l = length l.s - l.at
