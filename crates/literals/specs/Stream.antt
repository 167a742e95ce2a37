-- The session header of RFC 1002 (document 02, CR 1), its numbers a second time. Assumes nothing.
use Rattle.std.specs.Prelude.{◌≡◌, refl, ℕ, not, [], ◌∷◌, replicate, eqb}
use Rattle.lists.specs.Walk.{keep}
use Rattle.lists.specs.Put.{put}
use Rattle.stream.specs.Stream.{length_of, known, judge_length, judge, header_of}
use Rattle.stream.specs.Writer.{written_of, framed, write}
use Rattle.stream.specs.Stream.{Judged}
use Rattle.stream.specs.Stream.{Stop, KeepAlive, Message}
use Rattle.literals.specs.Counting.{count_from}

-- the number that a header stops the reader with, or 0
unfoldable pub stop_of : Judged → ℕ
stop_of (Stop n) = n
stop_of KeepAlive = 0
stop_of (Message size) = 0

-- "Type 0x00 carries a message; 0x85 is a keep-alive": of 256 types all others are 1
pub types : keep (λ kind. not (eqb (stop_of (judge kind 0 0 0)) 1)) (count_from 0 256) ≡ 0x00 ∷ 0x85 ∷ []
unfolding keep count_from stop_of judge judge_length known length_of
types = refl

-- "flags whose lowest bit extends the length to 17 bits", "2 reserved flag bits": of 256 bytes of flags two are not 2
pub flags : keep (λ f. not (eqb (stop_of (judge 0x00 f 0 0)) 2)) (count_from 0 256) ≡ 0x00 ∷ 0x01 ∷ []
unfolding keep count_from stop_of judge judge_length known length_of
flags = refl

-- "a 16-bit length, high byte first"; 4 above 8,192; 3 for a keep-alive with any length, the 17th bit too
pub lengths : (judge 0x00 0 0x01 0x02 ≡ Message 258) × (judge 0x00 0 0x20 0x00 ≡ Message 8192) × (judge 0x00 0 0x20 0x01 ≡ Stop 4) × (judge 0x00 1 0 0 ≡ Stop 4)
    × (judge 0x85 0 0 0 ≡ KeepAlive) × (judge 0x85 0 0 1 ≡ Stop 3) × (judge 0x85 1 0 0 ≡ Stop 3)
unfolding judge judge_length known length_of
lengths = (refl, refl, refl, refl, refl, refl, refl)

-- the order: 1 before 2, 2 before 3 and 4
pub orders : (judge 0x01 2 0xFF 0xFF ≡ Stop 1) × (judge 0x85 2 0 1 ≡ Stop 2) × (judge 0x00 3 0xFF 0xFF ≡ Stop 2)
unfolding judge judge_length known length_of
orders = (refl, refl, refl)

-- what the writer puts in front: type and flags 0, the length high byte first, up to 12,292 (00 00 30 04)
pub headers : (header_of 0 ≡ 0 ∷ 0 ∷ 0 ∷ 0 ∷ []) × (header_of 2 ≡ 0 ∷ 0 ∷ 0 ∷ 2 ∷ []) × (header_of 258 ≡ 0 ∷ 0 ∷ 1 ∷ 2 ∷ []) × (header_of 12292 ≡ 0 ∷ 0 ∷ 0x30 ∷ 0x04 ∷ [])
unfolding header_of
headers = (refl, refl, refl, refl)

-- a message of two bytes into rooms of 5, 6 and 7
pub rooms : (write (7 ∷ 8 ∷ []) (replicate 5 9) ≡ record { answer = record { number = 2; length = 0 }; room = replicate 5 9 })
    × (write (7 ∷ 8 ∷ []) (replicate 6 9) ≡ record { answer = record { number = 0; length = 6 }; room = 0 ∷ 0 ∷ 0 ∷ 2 ∷ 7 ∷ 8 ∷ [] })
    × (write (7 ∷ 8 ∷ []) (replicate 7 9) ≡ record { answer = record { number = 0; length = 6 }; room = 0 ∷ 0 ∷ 0 ∷ 2 ∷ 7 ∷ 8 ∷ 9 ∷ [] })
unfolding write written_of framed header_of put
rooms = (refl, refl, refl)
