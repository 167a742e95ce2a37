-- The reader's state: what is left of a stream, in seven words and a buffer.
-- Assumes nothing.
use Rattle.std.specs.Prelude.{ℕ, ◌-◌, Bool, cond, ◌&&◌, List, [], ◌∷◌, ◌++◌, eqb, leb, ltb, length, take, get_or}
use Rattle.stream.specs.Stream.{length_of, header_of, Left, begun, stopped}
use Rattle.stream.specs.declared.state.State.{State}

-- nothing begun
unfoldable pub none_begun : State
none_begun = record { stopped = 0; begun = 0; first = 0; second = 0; third = 0; length = 0; got = 0 }

-- stopped by that number, and nothing else
unfoldable pub stopped_by : ℕ → State
stopped_by n = record { stopped = n; begun = 0; first = 0; second = 0; third = 0; length = 0; got = 0 }

-- so many bytes of a header and nothing else; 0 stands where a byte is not in
unfoldable pub header_words : ℕ → ℕ → ℕ → ℕ → State
header_words count a b c = record { stopped = 0; begun = count; first = a; second = b; third = c; length = 0; got = 0 }

-- the bytes of a begun header
unfoldable pub header_begun : List ℕ → State
header_begun s = header_words (length s) (get_or s 0 0) (get_or s 1 0) (get_or s 2 0)

-- a message of that length of which so many bytes are in
unfoldable pub message_begun : ℕ → ℕ → State
message_begun size got = record { stopped = 0; begun = 0; first = 0; second = 0; third = 0; length = size; got = got }

-- the state that says what is left
unfoldable pub begun_state : List ℕ → State
begun_state s =
    cond (ltb (length s) 4) (header_begun s) (message_begun (length_of (get_or s 1 0) (get_or s 2 0) (get_or s 3 0)) (length s - 4))

unfoldable pub state_of : Left → State
state_of (begun s) = begun_state s
state_of (stopped n) = stopped_by n

-- the bytes of a begun header, by the words
unfoldable pub begun_bytes : State → List ℕ
begun_bytes s = take s.begun (s.first ∷ s.second ∷ s.third ∷ [])

-- the bytes begun, by the words and the buffer
unfoldable pub pending : State → List ℕ → List ℕ
pending s buffer =
    cond (eqb s.length 0) (begun_bytes s) (header_of s.length ++ take s.got buffer)

-- what a state and the buffer say is left
unfoldable pub left_of : State → List ℕ → Left
left_of s buffer = cond (eqb s.stopped 0) (begun (pending s buffer)) (stopped s.stopped)

-- ---- a state that some stream leaves

-- no byte of a header is in
unfoldable pub no_header : State → Bool
no_header s = eqb s.begun 0 && (eqb s.first 0 && (eqb s.second 0 && eqb s.third 0))

-- no message is begun
unfoldable pub no_message : State → Bool
no_message s = eqb s.length 0 && eqb s.got 0

-- a byte where so many are in; 0 where it is not in yet
unfoldable pub byte_fits : ℕ → ℕ → ℕ → Bool
byte_fits place count b = cond (ltb place count) (ltb b 256) (eqb b 0)

-- fewer than four bytes of a header are in
unfoldable pub header_fits : State → Bool
header_fits s =
    leb s.begun 3 && (byte_fits 0 s.begun s.first && (byte_fits 1 s.begun s.second && byte_fits 2 s.begun s.third))

-- of a message of at most 8,192 bytes fewer are in
unfoldable pub message_fits : State → Bool
message_fits s = leb s.length 8192 && ltb s.got s.length

-- not stopped: fewer than four bytes of a header and nothing else, or a message with bytes to come and nothing else; stopped: by 1 to 4, and
-- nothing else
unfoldable pub is_left : State → Bool
is_left s =
    cond (eqb s.stopped 0)
    (cond (eqb s.length 0) (header_fits s && eqb s.got 0) (no_header s && message_fits s))
    (leb s.stopped 4 && (no_header s && no_message s))
