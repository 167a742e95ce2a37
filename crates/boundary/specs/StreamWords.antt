-- The stream's calls as the host makes them: the reader's state is seven words that it lends, what a call of the reader gives is four. The numbers, the state,
-- the buffer and the room after a call are those of `stream`'s definitions. Assumes nothing.
use Rattle.std.specs.Prelude.{ℕ, List, [], ◌∷◌, get_or}
use Rattle.stream.specs.declared.state.State.{State}
use Rattle.stream.specs.Reader.{Event}
use Rattle.stream.specs.Reader.{NoMessage, InPiece, InBuffer}
use Rattle.stream.specs.Reader.{Step}
use Rattle.stream.specs.Writer.{Written}
use Rattle.stream.specs.Reader.{Read, read}
use Rattle.boundary.specs.OutParameter.{on_done}

-- the state that the words hold: any values are one
unfoldable pub state_in : List ℕ → State
state_in w =
    record {
      stopped = get_or w 0 0;
      begun = get_or w 1 0;
      first = get_or w 2 0;
      second = get_or w 3 0;
      third = get_or w 4 0;
      length = get_or w 5 0;
      got = get_or w 6 0;
    }

-- the words that hold a state
unfoldable pub words_of : State → List ℕ
words_of s = s.stopped ∷ s.begun ∷ s.first ∷ s.second ∷ s.third ∷ s.length ∷ s.got ∷ []

-- how many bytes were taken, then: 0 for no message; 1 for a message in the piece, its place and its length; 2 for one in the buffer, which stands from 0 on
unfoldable pub step_words : ℕ → Event → List ℕ
step_words taken NoMessage = taken ∷ 0 ∷ 0 ∷ 0 ∷ []
step_words taken (InPiece at size) = taken ∷ 1 ∷ at ∷ size ∷ []
step_words taken (InBuffer size) = taken ∷ 2 ∷ 0 ∷ size ∷ []

-- a piece read, on words
unfoldable pub piece_read : List ℕ → List ℕ → List ℕ → Read
piece_read w buffer piece = read (state_in w) buffer piece

-- the words of a call's step, written on 0 only
unfoldable pub step_after : List ℕ → Step → List ℕ
step_after before s = on_done s.number (step_words s.taken s.event) before

-- how many bytes the writer wrote, written on 0 only
unfoldable pub written_after : ℕ → Written → ℕ
written_after before a = on_done a.number a.length before
