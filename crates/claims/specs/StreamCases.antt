-- The stream's definition, worked: headers that stop the reader and headers that do not, and one call of the reader. Assumes nothing.
use Rattle.std.specs.Prelude.{◌≡◌, refl, ℕ, List, [], ◌∷◌}
use Rattle.stream.specs.Reader.{NoMessage, InPiece}
use Rattle.stream.specs.Stream.{Stop}
use Rattle.stream.specs.Stream.{length_of, known, judge_length, judge, begins_by, begins, first_of, first, with_message, carried_by, carried_within, carried, begun, stopped}
use Rattle.stream.specs.State.{none_begun, stopped_by, begun_bytes, pending, byte_fits, header_fits, is_left}
use Rattle.stream.specs.Reader.{step_of, handed, read_by, read}

-- a message of one byte, a keep-alive, a message of none, and a header of another type with a byte behind it: "messages before stand"
two-then-bad : carried (0 ∷ 0 ∷ 0 ∷ 1 ∷ 7 ∷ 133 ∷ 0 ∷ 0 ∷ 0 ∷ 0 ∷ 0 ∷ 0 ∷ 0 ∷ 1 ∷ 0 ∷ 0 ∷ 0 ∷ 9 ∷ [])
    ≡ record { messages = (7 ∷ []) ∷ [] ∷ []; left = stopped 1 }
unfolding carried carried_within carried_by with_message first first_of begins begins_by judge judge_length known length_of
two-then-bad = refl

-- "A header is judged once its four bytes are in": three bytes of one that will stop the reader do not
three-bytes : carried (1 ∷ 0 ∷ 0 ∷ []) ≡ record { messages = []; left = begun (1 ∷ 0 ∷ 0 ∷ []) }
unfolding carried carried_within carried_by first first_of begins
three-bytes = refl

-- the order: another type before a reserved flag; a reserved flag before a keep-alive's length; the 17th bit of a keep-alive's length and of a message's
another-type-first : judge 1 2 0 0 ≡ Stop 1
unfolding judge judge_length known length_of
another-type-first = refl

reserved-before-length : (carried (133 ∷ 2 ∷ 0 ∷ 1 ∷ [])).left ≡ stopped 2
unfolding carried carried_within carried_by first first_of begins begins_by judge judge_length known length_of
reserved-before-length = refl

long-keep-alive : (carried (133 ∷ 1 ∷ 0 ∷ 0 ∷ [])).left ≡ stopped 3
unfolding carried carried_within carried_by first first_of begins begins_by judge judge_length known length_of
long-keep-alive = refl

long-message : (carried (0 ∷ 1 ∷ 0 ∷ 0 ∷ [])).left ≡ stopped 4
unfolding carried carried_within carried_by first first_of begins begins_by judge judge_length known length_of
long-message = refl

-- 8,192 bytes are read, 8,193 are not
longest : (carried (0 ∷ 0 ∷ 32 ∷ 0 ∷ [])).left ≡ begun (0 ∷ 0 ∷ 32 ∷ 0 ∷ [])
unfolding carried carried_within carried_by first first_of begins begins_by judge judge_length known length_of
longest = refl

one-longer : (carried (0 ∷ 0 ∷ 32 ∷ 1 ∷ [])).left ≡ stopped 4
unfolding carried carried_within carried_by first first_of begins begins_by judge judge_length known length_of
one-longer = refl

-- one call: a message whole in the piece is a part of it, and what stands behind it is left for the next call
in-the-piece : (buffer : List ℕ) → read none_begun buffer (0 ∷ 0 ∷ 0 ∷ 2 ∷ 7 ∷ 8 ∷ 9 ∷ [])
    ≡ record { step = step_of 0 6 (InPiece 4 2) none_begun; buffer = buffer }
unfolding read is_left none_begun header_fits byte_fits pending begun_bytes read_by handed first first_of begins begins_by judge judge_length known length_of
in-the-piece buffer = refl

-- a header that stops the reader is the last thing taken
stop-taken : (buffer : List ℕ) → read none_begun buffer (133 ∷ 0 ∷ 0 ∷ 0 ∷ 129 ∷ 0 ∷ 0 ∷ 0 ∷ 5 ∷ [])
    ≡ record { step = step_of 1 8 NoMessage (stopped_by 1); buffer = buffer }
unfolding read is_left none_begun header_fits byte_fits pending begun_bytes read_by first first_of begins begins_by judge judge_length known length_of
stop-taken buffer = refl
