-- `gateway::byte_stream::gateway_stream_read` meets its contract: the reader's step on the state that the words hold, its words written where it is done. Assumes nothing.
use mathlib.Core.Path.{◌≡◌, sym, ap, ◌∙◌}
use native.Mathlib.Omega.{arith}
use Rattle.stream.specs.declared.state.State.{State}
use Rattle.stream.specs.declared.header.StreamRefusal.{StreamRefusal}
use Rattle.stream.specs.declared.header.StreamRefusal.TheVariants.{UnknownType, ReservedFlags, LongKeepAlive, LongMessage, NotLeft}
use Rattle.stream.specs.Reader.{Event, Step, read}
use Rattle.stream.specs.Told.{number_of, outcome_number, outcome_event}
use Rattle.boundary.specs.StreamWords.{words_of, step_words, piece_read}
use Rattle.boundary.specs.StreamWordsLaws.{step-stands, step_given}
use Rattle.gateway.proofs.byte_stream.gateway_stream_read.Goals as goal

some : (refusal : StreamRefusal) → number_of refusal ≡ 0 → ⊥
some UnknownType e = omega arith
some ReservedFlags e = omega arith
some LongKeepAlive e = omega arith
some LongMessage e = omega arith
some NotLeft e = omega arith

pub returns-in-Ok : goal.returns-in-Ok
unfolding piece_read
returns-in-Ok c =
    let args = c.args in
    let called = c.read_piece-s in
    let state = c.state_in-before.ensures.value in
    let own = c.state_in-before.ensures.words_value ∙ ap words_of state in
    let given = piece_read args.state.now args.buffer.now args.piece.now in
    let same = called.ensures.value ∙ ap (λ (s : State). (read s args.buffer.now args.piece.now).step) state in
    let bytes = called.ensures.buffer_after ∙ ap (λ (s : State). (read s args.buffer.now args.piece.now).buffer) state in
    let words = c.put_state.ensures ∙ ap (λ (s : Step). words_of s.state) same in
    let done = ap outcome_number (sym c.in-Ok.is) ∙ ap (λ (s : Step). s.number) same in
    let told = ap (λ (e : Event). step_words called.result.taken e) (ap outcome_event (sym c.in-Ok.is)) ∙ ap (λ (s : Step). step_words s.taken s.event) same in
    record { state_value = own; value = done; state_after = words; buffer_after = bytes; step_after = c.put_step.ensures ∙ told ∙ step_given args.step.now given.step (sym done) }

pub returns-in-Err : goal.returns-in-Err
unfolding piece_read
returns-in-Err c =
    let args = c.args in
    let called = c.read_piece-s in
    let state = c.state_in-before.ensures.value in
    let own = c.state_in-before.ensures.words_value ∙ ap words_of state in
    let given = piece_read args.state.now args.buffer.now args.piece.now in
    let same = called.ensures.value ∙ ap (λ (s : State). (read s args.buffer.now args.piece.now).step) state in
    let bytes = called.ensures.buffer_after ∙ ap (λ (s : State). (read s args.buffer.now args.piece.now).buffer) state in
    let words = c.put_state.ensures ∙ ap (λ (s : Step). words_of s.state) same in
    let number = ap outcome_number (sym c.in-Err.is) ∙ ap (λ (s : Step). s.number) same in
    record { state_value = own; value = c.number.ensures ∙ number; state_after = words; buffer_after = bytes; step_after = step-stands args.step.now given.step (λ z. some c.in-Err.refusal (number ∙ z)) }
