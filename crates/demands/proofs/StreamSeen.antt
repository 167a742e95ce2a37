-- Of specs/StreamSeen.antt: what rests on its other theorems. Assumes nothing.
use Rattle.std.specs.Prelude.{◌≡◌, ℕ, ◌+◌, ◌≤◌, true, List, ◌++◌, length, eqb, ltb}
use Rattle.std.proofs.Math.Path.{refl, sym, ap}
use Rattle.std.proofs.Common.{◌∙◌}
use native.Mathlib.Omega.{arith}
use borrow.Author.Tests.{eqb-true, eqb-false, ltb-true, ltb-false}
use Rattle.lists.specs.Truth.{test-cases, fails}
use Rattle.stream.specs.declared.state.State.{State}
use Rattle.stream.specs.Stream.{first}
use Rattle.stream.specs.State.{stopped_by, pending, is_left}
use Rattle.stream.specs.Reader.{Read, step_of, refused, read}
use Rattle.stream.specs.Writer.{write}
use Rattle.stream.specs.StateLaws.{is-left-stopped}
use Rattle.stream.specs.ReaderLaws.{read-not-left, read-stopped, read-going}
use Rattle.boundary.specs.StreamWords.{state_in, words_of, step_words, piece_read, step_after, written_after}
use Rattle.boundary.specs.StreamWordsLaws.{step_given, written_stands}
use Rattle.claims.specs.StreamCut.{stopped-words}
use Rattle.claims.proofs.StreamStates.{passes-left}
use Rattle.claims.proofs.StreamStatesStated.{left-not-five}
use Rattle.demands.specs.StreamSeen.{PieceSeen, Stopped, WrittenSeen, core, fits, left-test, over, same, some, state_read, step_kept, stops-by, under}

pub read-stops : (state : State) (buffer piece : List ℕ) → is_left state ≡ true → ((read state buffer piece).step.number ≡ 0 → ⊥) → Stopped buffer (read state buffer piece)
unfolding refused step_of
read-stops state buffer piece left =
    test-cases (eqb state.stopped 0)
    (λ e. rw (read-going state buffer piece left (eqb-true state.stopped 0 e)) (stops-by state buffer piece (first (pending state buffer ++ piece)) refl))
    (λ e.
    let stop = eqb-false state.stopped 0 e in
    let words = is-left-stopped state left stop in
    rw (read-stopped state buffer piece left stop)
    (λ n. record { low = some state.stopped stop; high = words.limit; words = stopped-words state words; kept = refl }))

module _ (w buffer piece step : List ℕ) (r : ℕ) (w' buffer' step' : List ℕ) (own : w ≡ words_of (state_in w))
    (number : r ≡ (piece_read w buffer piece).step.number) (words : w' ≡ words_of (piece_read w buffer piece).step.state) (bytes : buffer' ≡ (piece_read w buffer piece).buffer)
    (given : step' ≡ step_after step (piece_read w buffer piece).step) where
  pub is_number : r ≡ (core w buffer piece step r w' buffer' step' own number words bytes given).step.number
  is_number = number ∙ ap (λ (k : Read). k.step.number) (same w buffer piece step r w' buffer' step' own number words bytes given)

  pub is-words : w' ≡ words_of (core w buffer piece step r w' buffer' step' own number words bytes given).step.state
  is-words = words ∙ ap (λ (k : Read). words_of k.step.state) (same w buffer piece step r w' buffer' step' own number words bytes given)

  pub is_state : state_read w' ≡ (core w buffer piece step r w' buffer' step' own number words bytes given).step.state
  unfolding words_of
  is_state = ap state_read is-words

  pub is-bytes : buffer' ≡ (core w buffer piece step r w' buffer' step' own number words bytes given).buffer
  is-bytes = bytes ∙ ap (λ (k : Read). k.buffer) (same w buffer piece step r w' buffer' step' own number words bytes given)

  pub step-done : r ≡ 0 → step' ≡ step_words (core w buffer piece step r w' buffer' step' own number words bytes given).step.taken (core w buffer piece step r w' buffer' step' own number words bytes given).step.event
  step-done z =
      given
      ∙ sym (step_given step (piece_read w buffer piece).step (sym number ∙ z))
      ∙ ap (λ (k : Read). step_words k.step.taken k.step.event) (same w buffer piece step r w' buffer' step' own number words bytes given)

  -- words that hold the state before hold the words before
  pub back : (core w buffer piece step r w' buffer' step' own number words bytes given).step.state ≡ state_read w → w' ≡ w
  unfolding state_in
  back e = is-words ∙ ap words_of e ∙ sym own

  pub not-five-left : (r ≡ 5 → ⊥) → is_left (state_read w) ≡ true
  unfolding refused step_of
  not-five-left n =
      test-cases (is_left (state_read w)) (λ t. t)
      (λ f. absurd (n (is_number ∙ ap (λ (k : Read). k.step.number) (read-not-left (state_read w) buffer piece f))))

  pub five-refused : r ≡ 5 → (core w buffer piece step r w' buffer' step' own number words bytes given) ≡ refused 5 (state_read w) buffer
  five-refused e =
      read-not-left (state_read w) buffer piece
      (fails (is_left (state_read w)) λ t. let most = left-not-five (state_read w) (passes-left (state_read w) t) buffer piece in let five = is_number in omega arith)

  -- `gateway_stream_read`
  pub piece-seen : PieceSeen w buffer piece step r w' buffer' step'
  unfolding refused step_of step_words
  piece-seen =
      record {
        no-such-state = λ none. test-cases (is_left (state_read w)) (λ t. absurd (none (passes-left (state_read w) t)))
            (λ f. is_number ∙ ap (λ (k : Read). k.step.number) (read-not-left (state_read w) buffer piece f));
        only_then = λ five l. let most = left-not-five (state_read w) l buffer piece in let same_number = is_number in let no : ⊥ = omega arith in no;
        nothing_written = λ five.
            let k = five-refused five in
            (back (ap (λ (x : Read). x.step.state) k), is-bytes ∙ ap (λ (x : Read). x.buffer) k, (step_kept w buffer piece step r w' buffer' step' own number words bytes given) (λ z. let no : ⊥ = omega arith in no));
        stopped = λ n q.
            let s = read-stops (state_read w) buffer piece (not-five-left q) (λ z. n (is_number ∙ z)) in
            let low = s.low in
            let high = s.high in
            let r-is = is_number in
            ((let z : 1 ≤ r = omega arith in z), (let z : r ≤ 4 = omega arith in z), is_state ∙ s.words ∙ ap stopped_by (sym is_number), is-bytes ∙ s.kept, (step_kept w buffer piece step r w' buffer' step' own number words bytes given) n);
        still-stopped = λ l stop.
            let k = read-stopped (state_read w) buffer piece ((left-test w buffer piece step r w' buffer' step' own number words bytes given) l) stop in
            (is_number ∙ ap (λ (x : Read). x.step.number) k, back (ap (λ (x : Read). x.step.state) k));
        number = is_number;
        state = is_state;
        bytes = is-bytes;
        wanted = λ z e. step-done z ∙ ap (step_words (core w buffer piece step r w' buffer' step' own number words bytes given).step.taken) e;
        in-piece = λ z at size e. step-done z ∙ ap (step_words (core w buffer piece step r w' buffer' step' own number words bytes given).step.taken) e;
        in_buffer = λ z size e. step-done z ∙ ap (step_words (core w buffer piece step r w' buffer' step' own number words bytes given).step.taken) e;
      }

module _ (message room : List ℕ) (long r : ℕ) (room' : List ℕ) (long' : ℕ) (number : r ≡ (write message room).answer.number) (bytes : room' ≡ (write message room).room)
    (given : long' ≡ written_after long (write message room).answer) where
  pub room-kept : (r ≡ 0 → ⊥) → room' ≡ room
  room-kept n =
      test-cases (ltb 12292 (length message)) (λ t. ((over message room long r room' long' number bytes given) (ltb-true 12292 (length message) t)).1)
      (λ t.
      let short = ltb-false 12292 (length message) t in
      test-cases (ltb (length room) (length message + 4)) (λ u. ((under message room long r room' long' number bytes given) short (ltb-true (length room) (length message + 4) u)).1)
      (λ u. absurd (n ((fits message room long r room' long' number bytes given) short (ltb-false (length room) (length message + 4) u)).0)))

  -- `gateway_stream_write`
  pub written-seen : WrittenSeen message room long r room' long'
  written-seen =
      record {
        too_long = λ h. ((over message room long r room' long' number bytes given) h).0;
        no_room = λ h k. ((under message room long r room' long' number bytes given) h k).0;
        kept = λ n. (room-kept n, given ∙ sym (written_stands long (write message room).answer (λ z. n (number ∙ z))));
        done = (fits message room long r room' long' number bytes given);
      }
