-- What a byte stream carries: messages, each behind the four-byte session header of RFC 1002 (document 02, CR 1), and what is left at its end.
-- Assumes nothing.
use Rattle.std.specs.Prelude.{ℕ, zero, suc, ◌+◌, ◌*◌, ◌/◌, ◌%◌, Bool, cond, not, ◌||◌, List, [], ◌∷◌, ◌++◌, eqb, leb, ltb, length, take, drop}

-- ---- a header

-- what a header says: the reader stops by that number, a keep-alive, or a message of that length
pub data Judged : Type 0 where
  Stop : ℕ → Judged
  KeepAlive : Judged
  Message : ℕ → Judged

-- "flags whose lowest bit extends the length to 17 bits, and a 16-bit length, high byte first"
unfoldable pub length_of : ℕ → ℕ → ℕ → ℕ
length_of flags high low = flags % 2 * 65536 + high * 256 + low

-- "Type 0x00 carries a message; 0x85 is a keep-alive"
unfoldable pub known : ℕ → Bool
known kind = eqb kind 0 || eqb kind 133

-- a header of a known type with no reserved flag: "3 a keep-alive with length, 4 a length above 8,192"
unfoldable pub judge_length : ℕ → ℕ → Judged
judge_length kind size =
    cond (eqb kind 133)
    (cond (eqb size 0) KeepAlive (Stop 3))
    (cond (ltb 8192 size) (Stop 4) (Message size))

-- "Refusals that stop the reader, in this order: 1 another type, 2 reserved flag bits", and the two above
unfoldable pub judge : ℕ → ℕ → ℕ → ℕ → Judged
judge kind flags high low =
    cond (not (known kind)) (Stop 1)
    (cond (ltb 1 flags) (Stop 2)
    (judge_length kind (length_of flags high low)))

-- the header of a message of that length, below 65,536: type and flags 0, and the length, high byte first
unfoldable pub header_of : ℕ → List ℕ
header_of size = 0 ∷ 0 ∷ size / 256 ∷ size % 256 ∷ []

-- ---- the first thing in a stream that begins with a header

-- keep-alives passed over: fewer than four bytes, a header that stops the reader, or the header of a message of that length. The bytes are
-- those from the header on, to the end of the stream.
pub data Begins : Type 0 where
  short : List ℕ → Begins
  bad : ℕ → List ℕ → Begins
  message : ℕ → List ℕ → Begins

unfoldable pub begins_by : Judged → List ℕ → Begins → Begins
begins_by (Stop n) s behind = bad n s
begins_by KeepAlive s behind = behind
begins_by (Message size) s behind = message size s

-- "A header is judged once its four bytes are in."
unfoldable pub begins : List ℕ → Begins
begins [] = short []
begins (a ∷ []) = short (a ∷ [])
begins (a ∷ b ∷ []) = short (a ∷ b ∷ [])
begins (a ∷ b ∷ c ∷ []) = short (a ∷ b ∷ c ∷ [])
begins (a ∷ b ∷ c ∷ d ∷ s) = begins_by (judge a b c d) (a ∷ b ∷ c ∷ d ∷ s) (begins s)

-- more bytes are wanted after these, which are begun; the reader stops by that number, with the bytes behind the header; or a whole message,
-- with the bytes behind it
pub data First : Type 0 where
  wanted : List ℕ → First
  stops : ℕ → List ℕ → First
  whole : List ℕ → List ℕ → First

unfoldable pub first_of : Begins → First
first_of (short s) = wanted s
first_of (bad n s) = stops n (drop 4 s)
first_of (message size s) =
    cond (leb (4 + size) (length s)) (whole (take size (drop 4 s)) (drop (4 + size) s)) (wanted s)

unfoldable pub first : List ℕ → First
first s = first_of (begins s)

-- ---- the whole stream

-- what is left at the end of a stream: the bytes of a begun header or message, its header included (none: nothing is begun); or the number
-- that stopped the reader
pub data Left : Type 0 where
  begun : List ℕ → Left
  stopped : ℕ → Left

-- the messages handed out, and what is left
pub record Carried : Type 0 where
  pub messages : List (List ℕ)
  pub left : Left

unfoldable pub with_message : List ℕ → Carried → Carried
with_message m c = record { messages = m ∷ c.messages; left = c.left }

unfoldable pub carried_by : First → (List ℕ → Carried) → Carried
carried_by (wanted s) rest = record { messages = []; left = begun s }
carried_by (stops n s) rest = record { messages = []; left = stopped n }
carried_by (whole m s) rest = with_message m (rest s)

-- each message takes four bytes at least, so one turn more than there are bytes is enough
unfoldable pub carried_within : ℕ → List ℕ → Carried
carried_within zero s = record { messages = []; left = begun s }
carried_within (suc turns) s = carried_by (first s) (λ t. carried_within turns t)

-- what a stream in one piece carries
unfoldable pub carried : List ℕ → Carried
carried s = carried_within (suc (length s)) s

-- ---- in pieces

-- "A stopped reader hands out nothing until reset and answers its number again."
unfoldable pub fed : Left → List ℕ → Carried
fed (begun s) piece = carried (s ++ piece)
fed (stopped n) piece = record { messages = []; left = stopped n }

unfoldable pub after : List (List ℕ) → Carried → Carried
after ms c = record { messages = ms ++ c.messages; left = c.left }

unfoldable pub fed_all : Left → List (List ℕ) → Carried
fed_all l [] = record { messages = []; left = l }
fed_all l (piece ∷ pieces) = after (fed l piece).messages (fed_all (fed l piece).left pieces)
