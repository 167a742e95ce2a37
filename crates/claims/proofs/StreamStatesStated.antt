-- Of specs/StreamStates.antt: what rests on its other theorems. Assumes nothing.
use Rattle.std.specs.Prelude.{◌≡◌, refl, ℕ, ◌≤◌, true, eqb}
use Rattle.std.proofs.Common.{eqb-true}
use mathlib.Core.List.{List, ◌++◌}
use Rattle.std.proofs.lemmas.Bool.{eqb-false}
use Rattle.lists.specs.Truth.{test-cases, fails}
use Rattle.stream.specs.declared.state.State.{State}
use Rattle.stream.specs.Reader.{NoMessage}
use Rattle.stream.specs.Stream.{first}
use Rattle.stream.specs.State.{pending, is_left}
use Rattle.stream.specs.Reader.{step_of, refused, read}
use Rattle.stream.specs.StateLaws.{is-left-stopped}
use Rattle.stream.specs.ReaderLaws.{read-not-left, read-stopped, read-going}
use Rattle.claims.proofs.StreamStates.{left-passes, passes-left}
use Rattle.claims.specs.StreamStates.{LeftBySome, number_by}

-- of any other state the answer is 5; nothing is taken, and neither state nor buffer changes
pub not-left-five : (state : State) → (LeftBySome state → ⊥) → (buffer piece : List ℕ)
    → read state buffer piece ≡ record { step = record { number = 5; taken = 0; event = NoMessage; state = state }; buffer = buffer }
unfolding refused step_of
not-left-five state h buffer piece = read-not-left state buffer piece (fails (is_left state) λ e. h (passes-left state e))

-- and 5 is the answer of no state that some stream leaves
pub left-not-five : (state : State) → LeftBySome state → (buffer piece : List ℕ) → (read state buffer piece).step.number ≤ 4
unfolding refused step_of
left-not-five state l buffer piece =
    let left : is_left state ≡ true = rw l.leaves at (left-passes l.stream l.bytes) in
    test-cases (eqb state.stopped 0)
    (λ e. rw (read-going state buffer piece left (eqb-true state.stopped 0 e)) (number_by state buffer piece (first (pending state buffer ++ piece)) refl))
    (λ e.
    let stop = eqb-false state.stopped 0 e in
    rw (read-stopped state buffer piece left stop) (is-left-stopped state left stop).limit)
