-- Of specs/StreamStates.antt: what rests on its other theorems. Assumes nothing.
use Rattle.std.specs.Prelude.{◌≡◌, ℕ, ◌≤◌, true, eqb}
use Rattle.std.proofs.Common.{sym, ap, ◌∙◌, arith, eqb-true}
use mathlib.Core.List.{List, [], ◌∷◌, append-nil, flatten}
use Rattle.std.proofs.lemmas.Bool.{eqb-false}
use Rattle.lists.specs.Truth.{test-cases}
use Rattle.stream.specs.declared.state.State.{State}
use Rattle.stream.specs.Stream.{carried}
use Rattle.stream.specs.State.{state_of, is_left}
use Rattle.stream.specs.StateLaws.{is-left-stopped}
use Rattle.claims.specs.StreamKept.{Bytes}
use Rattle.claims.proofs.StreamCut.{reader-in-one}
use Rattle.claims.specs.StreamCut.{no_pieces, one_more, stopped-words}
use Rattle.claims.specs.StreamStates.{LeftBySome, going-left, stopper, stopper-bytes, stopper-stops, zeros, zeros-room}

-- a state that a stream leaves passes the test
pub left-passes : (stream : List ℕ) → Bytes stream → is_left (state_of (carried stream).left) ≡ true
unfolding flatten
left-passes stream b =
    let s = reader-in-one (stream ∷ []) (one_more b no_pieces) zeros zeros-room in
    let one : flatten (stream ∷ []) ≡ stream = append-nil stream in
    ap (λ (l : List ℕ). is_left (state_of (carried l).left)) (sym one) ∙ ap is_left (sym s.state) ∙ s.test

pub stopped-left : (state : State) → is_left state ≡ true → (state.stopped ≡ 0 → ⊥) → LeftBySome state
unfolding state_of
stopped-left state left h =
    let w = is-left-stopped state left h in
    let low : 1 ≤ state.stopped = omega arith in
    record {
      stream = stopper state.stopped;
      bytes = stopper-bytes state.stopped low;
      leaves = rw (stopper-stops state.stopped low w.limit) (sym (stopped-words state w));
    }

-- a state that passes the test is left by some stream
pub passes-left : (state : State) → is_left state ≡ true → LeftBySome state
passes-left state left =
    test-cases (eqb state.stopped 0) (λ e. going-left state left (eqb-true state.stopped 0 e)) (λ e. stopped-left state left (eqb-false state.stopped 0 e))
