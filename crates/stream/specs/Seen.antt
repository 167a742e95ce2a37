-- What the reader's inner functions answer: where a piece's first header that is no keep-alive ends, and what becomes of the bytes behind it.
-- Assumes nothing.
use Rattle.std.specs.Prelude.{ℕ, ◌+◌, ◌-◌, cond, List, eqb, leb, length, take, drop}
use Rattle.lists.specs.Put.{put}
use Rattle.stream.specs.declared.state.State.{State}
use Rattle.stream.specs.Stream.{Begins, short, bad, message}
use Rattle.stream.specs.State.{none_begun, header_begun, message_begun}
use Rattle.stream.specs.Reader.{NoMessage, InPiece, InBuffer, Read, step_of}

-- the state of a begun header; or a header that stops the reader or that is a message's, with the place behind it
pub data Seen : Type 0 where
  Short : State → Seen
  Bad : ℕ → ℕ → Seen
  Body : ℕ → ℕ → Seen

-- the state of a begun header, or the place behind the header in a piece of that length
unfoldable pub seen_of : Begins → ℕ → Seen
seen_of (short s) size = Short (header_begun s)
seen_of (bad n s) size = Bad n (size - length (drop 4 s))
seen_of (message n s) size = Body n (size - length (drop 4 s))

-- a message of which some bytes are in the buffer and the next stand in the piece from a place on
unfoldable pub gathered : ℕ → ℕ → List ℕ → List ℕ → ℕ → Read
gathered size got buffer piece at =
    cond (leb (size - got) (length piece - at))
    (cond (eqb got 0)
    (record { step = step_of 0 (at + size) (InPiece at size) none_begun; buffer = buffer })
    (record { step = step_of 0 (at + (size - got)) (InBuffer size) none_begun; buffer = put buffer got (take (size - got) (drop at piece)) }))
    (record { step = step_of 0 (length piece) NoMessage (message_begun size (got + (length piece - at))); buffer = put buffer got (drop at piece) })
