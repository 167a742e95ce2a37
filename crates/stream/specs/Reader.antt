-- What one call of the reader gives for a state, the lent buffer and a piece of the stream: said by the first thing in the bytes begun and the piece.
-- Assumes nothing.
use Rattle.std.specs.Prelude.{ℕ, ◌-◌, cond, List, ◌++◌, eqb, length, drop}
use Rattle.lists.specs.Put.{put}
use Rattle.stream.specs.declared.state.State.{State}
use Rattle.stream.specs.Stream.{First, wanted, stops, whole, first}
use Rattle.stream.specs.State.{none_begun, stopped_by, begun_state, pending, is_left}

-- no message became whole; or one did, as a part of the piece from a place on and of a length, or in the buffer from 0 on and of a length
pub data Event : Type 0 where
  NoMessage : Event
  InPiece : ℕ → ℕ → Event
  InBuffer : ℕ → Event

-- 0 or the number of a refusal, how many bytes of the piece were taken, whether a message became whole, and the state for the next call
pub record Step : Type 0 where
  pub number : ℕ
  pub taken : ℕ
  pub event : Event
  pub state : State

-- what a call returns, and the buffer after it
pub record Read : Type 0 where
  pub step : Step
  pub buffer : List ℕ

unfoldable pub step_of : ℕ → ℕ → Event → State → Step
step_of number taken event state = record { number = number; taken = taken; event = event; state = state }

-- nothing is taken and nothing changes
unfoldable pub refused : ℕ → State → List ℕ → Read
refused number state buffer = record { step = step_of number 0 NoMessage state; buffer = buffer }

-- a message that is whole where the piece is taken up to `end`: a part of the piece if no earlier call took a byte of it, else gathered in the buffer, from 0 on
unfoldable pub handed : State → List ℕ → List ℕ → ℕ → Read
handed state buffer m end =
    cond (eqb state.got 0)
    (record { step = step_of 0 end (InPiece (end - length m) (length m)) none_begun; buffer = buffer })
    (record { step = step_of 0 end (InBuffer (length m)) none_begun; buffer = put buffer 0 m })

-- more is wanted: the whole piece is taken, and the bytes of a begun message stand in the buffer. A header that stops the reader is the last
-- thing taken. Of a whole message the piece is taken up to its end.
unfoldable pub read_by : State → List ℕ → List ℕ → First → Read
read_by state buffer piece (wanted s) =
    record { step = step_of 0 (length piece) NoMessage (begun_state s); buffer = put buffer 0 (drop 4 s) }
read_by state buffer piece (stops n s) = record { step = step_of n (length piece - length s) NoMessage (stopped_by n); buffer = buffer }
read_by state buffer piece (whole m s) = handed state buffer m (length piece - length s)

-- "A reader state that no stream leaves is 5, before these, and nothing changes." "A stopped reader hands out nothing until reset and answers
-- its number again."
unfoldable pub read : State → List ℕ → List ℕ → Read
read state buffer piece =
    cond (is_left state)
    (cond (eqb state.stopped 0)
    (read_by state buffer piece (first (pending state buffer ++ piece)))
    (refused state.stopped state buffer))
    (refused 5 state buffer)
