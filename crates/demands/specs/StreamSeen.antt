-- What the host sees of the stream's exported functions, in the words of `stream`, from the equations of the contracts. Assumes nothing.
use Rattle.std.specs.Prelude.{◌≡◌, ℕ, ◌+◌, ◌≤◌, ◌<◌, true, List, [], ◌∷◌, ◌++◌, length, get_or, eqb}
use Rattle.std.proofs.Math.Path.{refl, sym}
use Rattle.std.proofs.Common.{◌∙◌}
use native.Mathlib.Omega.{arith}
use borrow.Author.Tests.{eqb-true, eqb-false, lt-ltb, le-ltb}
use Rattle.lists.specs.Put.{put}
use Rattle.lists.specs.Truth.{test-cases}
use Rattle.stream.specs.declared.state.State.{State}
use Rattle.stream.specs.Reader.{NoMessage, InPiece, InBuffer}
use Rattle.stream.specs.Stream.{First, wanted, stops, whole, first}
use Rattle.stream.specs.State.{stopped_by, pending, is_left}
use Rattle.stream.specs.Reader.{Read, step_of, handed, read_by, read}
use Rattle.stream.specs.Writer.{framed, written_of, write}
use Rattle.boundary.specs.StreamWords.{state_in, words_of, piece_read, step_after, written_after}
use Rattle.boundary.specs.OutParameter.{on_done}
use Rattle.boundary.specs.StreamWordsLaws.{step-stands}
use Rattle.claims.specs.StreamCut.{stops-number}
use Rattle.claims.specs.StreamStates.{LeftBySome}
use Rattle.claims.proofs.StreamStates.{left-passes}

-- ---- the plain words

-- the reader's state as the host reads it off its seven words, in the order of their names in the header
abbrev pub state_read : List ℕ → State
state_read w =
    record {
      stopped = get_or w 0 0;
      begun = get_or w 1 0;
      first = get_or w 2 0;
      second = get_or w 3 0;
      third = get_or w 4 0;
      length = get_or w 5 0;
      got = get_or w 6 0;
    }

-- a piece: the words of the state, the buffer and the words of the step, before the call and after it
pub record PieceSeen (w buffer piece step : List ℕ) (r : ℕ) (w' buffer' step' : List ℕ) : Type 0 where
  -- "A reader state that no stream leaves is 5, before these, and nothing changes": 5 exactly of those
  pub no-such-state : (LeftBySome (state_read w) → ⊥) → r ≡ 5
  pub only_then : r ≡ 5 → LeftBySome (state_read w) → ⊥
  pub nothing_written : r ≡ 5 → (w' ≡ w) × (buffer' ≡ buffer) × (step' ≡ step)
  -- "Refusals that stop the reader" are 1 to 4: the state says so and nothing else, and nothing else is written
  pub stopped : (r ≡ 0 → ⊥) → (r ≡ 5 → ⊥) → (1 ≤ r) × (r ≤ 4) × (state_read w' ≡ stopped_by r) × (buffer' ≡ buffer) × (step' ≡ step)
  -- "A stopped reader hands out nothing until reset and answers its number again"
  pub still-stopped : LeftBySome (state_read w) → (get_or w 0 0 ≡ 0 → ⊥) → (r ≡ get_or w 0 0) × (w' ≡ w)
  -- number, state and buffer are the reader's; done: so is the step, a message in the piece or in the buffer or none
  pub number : r ≡ (read (state_read w) buffer piece).step.number
  pub state : state_read w' ≡ (read (state_read w) buffer piece).step.state
  pub bytes : buffer' ≡ (read (state_read w) buffer piece).buffer
  pub wanted : r ≡ 0 → (read (state_read w) buffer piece).step.event ≡ NoMessage → step' ≡ (read (state_read w) buffer piece).step.taken ∷ 0 ∷ 0 ∷ 0 ∷ []
  pub in-piece : r ≡ 0 → (at size : ℕ) → (read (state_read w) buffer piece).step.event ≡ InPiece at size
      → step' ≡ (read (state_read w) buffer piece).step.taken ∷ 1 ∷ at ∷ size ∷ []
  pub in_buffer : r ≡ 0 → (size : ℕ) → (read (state_read w) buffer piece).step.event ≡ InBuffer size
      → step' ≡ (read (state_read w) buffer piece).step.taken ∷ 2 ∷ 0 ∷ size ∷ []

-- a message written: the room and the length's out-parameter, before the call and after it
pub record WrittenSeen (message room : List ℕ) (long r : ℕ) (room' : List ℕ) (long' : ℕ) : Type 0 where
  -- "Writer's, nothing written: 1 for a longer message, then 2 for too little room."
  pub too_long : 12292 < length message → r ≡ 1
  pub no_room : length message ≤ 12292 → length room < length message + 4 → r ≡ 2
  pub kept : (r ≡ 0 → ⊥) → (room' ≡ room) × (long' ≡ long)
  -- otherwise the message behind its header, over the front of the room
  pub done : length message ≤ 12292 → length message + 4 ≤ length room → (r ≡ 0) × (room' ≡ put room 0 (framed message)) × (long' ≡ length message + 4)

-- ---- a piece

-- a number other than 0, of a state that some stream leaves: the reader is stopped by it
pub record Stopped (buffer : List ℕ) (k : Read) : Type 0 where
  pub low : 1 ≤ k.step.number
  pub high : k.step.number ≤ 4
  pub words : k.step.state ≡ stopped_by k.step.number
  pub kept : k.buffer ≡ buffer

pub stops-by : (state : State) (buffer piece : List ℕ) (f : First) → first (pending state buffer ++ piece) ≡ f → ((read_by state buffer piece f).step.number ≡ 0 → ⊥)
    → Stopped buffer (read_by state buffer piece f)
unfolding read_by handed step_of
stops-by state buffer piece (wanted q) e n = absurd (n refl)
stops-by state buffer piece (stops k q) e n =
    let h = stops-number (pending state buffer ++ piece) k q e in record { low = h.0; high = h.1; words = refl; kept = refl }
stops-by state buffer piece (whole m q) e n = absurd (n (test-cases (eqb state.got 0) (λ t. rw t) (λ t. rw t)))

pub some : (n : ℕ) → (n ≡ 0 → ⊥) → 1 ≤ n
some n h = test-cases (eqb n 0) (λ e. absurd (h (eqb-true n 0 e))) (λ e. let k = eqb-false n 0 e in omega arith)

module _ (w buffer piece step : List ℕ) (r : ℕ) (w' buffer' step' : List ℕ) (own : w ≡ words_of (state_in w))
    (number : r ≡ (piece_read w buffer piece).step.number) (words : w' ≡ words_of (piece_read w buffer piece).step.state) (bytes : buffer' ≡ (piece_read w buffer piece).buffer)
    (given : step' ≡ step_after step (piece_read w buffer piece).step) where
  abbrev pub core : Read
  core = read (state_read w) buffer piece

  pub same : piece_read w buffer piece ≡ core
  unfolding piece_read state_in
  same = refl

  pub step_kept : (r ≡ 0 → ⊥) → step' ≡ step
  step_kept n = given ∙ sym (step-stands step (piece_read w buffer piece).step (λ z. n (number ∙ z)))

  pub left-test : LeftBySome (state_read w) → is_left (state_read w) ≡ true
  left-test l = rw l.leaves at (left-passes l.stream l.bytes)

-- ---- a message written

module _ (message room : List ℕ) (long r : ℕ) (room' : List ℕ) (long' : ℕ) (number : r ≡ (write message room).answer.number) (bytes : room' ≡ (write message room).room)
    (given : long' ≡ written_after long (write message room).answer) where
  pub over : 12292 < length message → (r ≡ 1) × (room' ≡ room)
  unfolding write written_of
  over h = let e = lt-ltb 12292 (length message) h in (rw e at number, rw e at bytes)

  pub under : length message ≤ 12292 → length room < length message + 4 → (r ≡ 2) × (room' ≡ room)
  unfolding write written_of
  under h k =
      let e = le-ltb 12292 (length message) h in
      let f = lt-ltb (length room) (length message + 4) k in
      (rw (e, f) at number, rw (e, f) at bytes)

  pub fits : length message ≤ 12292 → length message + 4 ≤ length room → (r ≡ 0) × (room' ≡ put room 0 (framed message)) × (long' ≡ length message + 4)
  unfolding write written_of written_after on_done
  fits h k =
      let e = le-ltb 12292 (length message) h in
      let f = le-ltb (length room) (length message + 4) k in
      (rw (e, f) at number, rw (e, f) at bytes, rw (e, f) at given)
