-- Of specs/CorePairCalls.antt: what rests on its other theorems. Assumes nothing.
use Rattle.std.specs.Prelude.{◌≡◌, refl, ℕ, List, [], ◌∷◌}
use Rattle.std.proofs.Math.Path.{sym}
use Rattle.std.proofs.Common.{ap}
use Rattle.records.specs.declared.Tables.{Tables}
use Rattle.chain.specs.Layout.{header_command, FIRST}
use Rattle.chain.specs.Grammar.{Span, Reading}
use Rattle.invariants.specs.Fit.{Fit}
use Rattle.invariants.specs.JustOpenedLaws.{run-first}
use Rattle.claims.specs.StreamKept.{Bytes}
use Rattle.message.specs.declared.caller.Caller.{Caller}
use Rattle.message.specs.Caller.{caller_of}
use Rattle.message.specs.Command.{perform}
use Rattle.message.specs.Message.{area_of, data_of, run, take-message}
use Rattle.demands.specs.Calls.{sentence-answered}
use Rattle.demands.specs.WireFields.{sender_process, one-first, first_body, first-area, first-data}
use Rattle.demands.specs.DataBlock.{reading-block}
use Rattle.demands.specs.CorePairs.{Alike}
use Rattle.demands.proofs.CorePairs.{pair-alike}
use Rattle.demands.proofs.CorePairCalls.{calls-alike, fields-pair}
use Rattle.demands.specs.CorePairCalls.{BlocksAlike, EqualFields, SameCalls, last-alike}

-- a message that is one core command, and one that is its counterpart alone, of one sender and with equal fields, on the same tables, file memory and room
pub core-calls : (connection : ℕ) (s t : List ℕ) {core other : ℕ} → EqualFields s t core other → Bytes s → header_command s ≡ core → header_command t ≡ other
    → caller_of connection s ≡ caller_of connection t → {x y : Span} → Reading s (x ∷ []) → Reading t (y ∷ []) → (u : Tables) (memory room : List ℕ)
    → Fit s u memory room → Fit t u memory room
    → SameCalls (BlocksAlike FIRST) s t room (take-message connection s u memory room) (take-message connection t u memory room)
unfolding caller_of run
core-calls connection s t {core} {other} equal b is is' sender r q u memory room f g =
    let c = caller_of connection s in
    let p = one-first r in
    let o = one-first q in
    let same : sender_process t ≡ sender_process s = ap (λ (k : Caller). k.process) (sym sender) in
    let pair = fields-pair equal b (rw is at (reading-block r)) (rw is' at (reading-block q)) same c refl in
    let alike : Alike (perform c u memory p.block.body (area_of s p.block) (data_of s p.block))
    (perform (caller_of connection t) u memory o.block.body (area_of t o.block) (data_of t o.block)) =
    rw (← sender, first_body p core is, first-area p, first_body o other is', first-area o, first-data o) (pair-alike pair u memory (data_of s p.block)) in
    calls-alike connection s t u memory room f g
    (rw (
      sentence-answered connection s u memory (p.block ∷ []) p.is_read,
      sentence-answered connection t u memory (o.block ∷ []) o.is_read,
      run-first c s p.block [] FIRST u memory,
      run-first (caller_of connection t) t o.block [] FIRST u memory,
    )
    (last-alike alike c (caller_of connection t) s t FIRST u memory))
