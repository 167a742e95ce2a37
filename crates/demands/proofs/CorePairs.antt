-- Of specs/CorePairs.antt: what rests on its other theorems. Assumes nothing.
use Rattle.std.specs.Prelude.{◌≡◌, ℕ, List}
use Rattle.std.proofs.Math.Path.{ap}
use Rattle.std.proofs.Common.{◌∙◌}
use Rattle.records.specs.declared.Tables.{Tables}
use Rattle.chain.specs.declared.block.Body.{Body}
use Rattle.message.specs.declared.caller.Caller.{Caller}
use Rattle.message.specs.Command.{Said, done, core_said, as_core, perform}
use Rattle.demands.specs.CorePairs.{Alike, Pair, other-speaks, pair-gives, speaks-alike}

-- where the counterpart is done, the core command is and leaves the same, and says the same in its own reply block
pub pair-done : {c : Caller} {core other : Body} {area area' bytes' : List ℕ} → Pair c core area other area' bytes' → (t : Tables) (memory bytes : List ℕ)
    → {u : Tables} {m : List ℕ} {said : Said} → perform c t memory other area' bytes' ≡ done u m said → perform c t memory core area bytes ≡ done u m (core_said said)
unfolding as_core
pair-done p t memory bytes e = pair-gives p t memory bytes ∙ ap as_core e

-- "a core command and its counterpart with equal fields change the same things"
pub pair-alike : {c : Caller} {core other : Body} {area area' bytes' : List ℕ} → Pair c core area other area' bytes' → (t : Tables) (memory bytes : List ℕ)
    → Alike (perform c t memory core area bytes) (perform c t memory other area' bytes')
pair-alike p t memory bytes = rw (pair-gives p t memory bytes) (speaks-alike (other-speaks p t memory))
