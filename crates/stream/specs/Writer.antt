-- What the writer writes: a message behind its header, over the front of the room.
-- Assumes nothing.
use Rattle.std.specs.Prelude.{ℕ, ◌+◌, cond, List, ◌++◌, ltb, length}
use Rattle.lists.specs.Put.{put}
use Rattle.stream.specs.Stream.{header_of}

-- 0 or the number of a refusal, and how many bytes were written
pub record Written : Type 0 where
  pub number : ℕ
  pub length : ℕ

-- what a call returns, and the room after it
pub record Wrote : Type 0 where
  pub answer : Written
  pub room : List ℕ

unfoldable pub written_of : ℕ → ℕ → Written
written_of number size = record { number = number; length = size }

-- a message behind its header
unfoldable pub framed : List ℕ → List ℕ
framed message = header_of (length message) ++ message

-- "the writer takes up to 12,292"; "Writer's, nothing written: 1 for a longer message, then 2 for too little room."
unfoldable pub write : List ℕ → List ℕ → Wrote
write message room =
    cond (ltb 12292 (length message)) (record { answer = written_of 1 0; room = room })
    (cond (ltb (length room) (length message + 4)) (record { answer = written_of 2 0; room = room })
    (record { answer = written_of 0 (length message + 4); room = put room 0 (framed message) }))
