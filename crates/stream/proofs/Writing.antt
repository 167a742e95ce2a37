-- The three answers of the writer.
-- Assumes nothing.
use mathlib.Core.Path.{◌≡◌, ap, ◌∙◌}
use Prim.Native.Nat.{ℕ, ◌+◌, ◌-◌, ◌≤◌, ◌<◌}
use mathlib.Core.List.{List, ◌++◌}
use lib.ListN.{length, take, drop}
use native.Mathlib.Omega.{arith}
use borrow.Author.Tests.{lt-ltb, le-ltb}
use Rattle.lists.specs.Put.{put}
use Rattle.lists.specs.PutLaws.{put_then, put-part, length-put}
use Rattle.stream.specs.Stream.{header_of}
use Rattle.stream.specs.Writer.{written_of, framed, write}

module _ (message room : List ℕ) where
  pub write-long : 12292 < length message → write message room ≡ record { answer = written_of 1 0; room = room }
  unfolding write
  write-long h = rw (lt-ltb 12292 (length message) h)

  module _ (short : length message ≤ 12292) where
    pub write-cramped : length room < length message + 4 → write message room ≡ record { answer = written_of 2 0; room = room }
    unfolding write
    write-cramped h = rw (le-ltb 12292 (length message) short, lt-ltb (length room) (length message + 4) h)

    -- the header is put over the front, and the message over the part behind it
    pub write_done : length message + 4 ≤ length room → (headed part : List ℕ) → headed ≡ put room 0 (header_of (length message))
        → part ≡ put (take (length message + 4 - 4) (drop 4 headed)) 0 message
        → write message room ≡ record { answer = written_of 0 (length message + 4); room = take 4 headed ++ (part ++ drop (length message + 4 - 4) (drop 4 headed)) }
    unfolding write framed header_of
    write_done h headed part e f =
        let fits : 0 + length (header_of (length message)) ≤ length room = omega arith in
        let size : length headed ≡ length room = ap length e ∙ length-put room (header_of (length message)) 0 fits in
        let whole : take 4 headed ++ (part ++ drop (length message + 4 - 4) (drop 4 headed)) ≡ put room 0 (header_of (length message) ++ message) =
        put-part headed message part 4 (length message + 4) (omega arith) (omega arith) f
        ∙ ap (λ (q : List ℕ). put q 4 message) e
        ∙ put_then room (header_of (length message)) message 0 fits in
        rw (le-ltb 12292 (length message) short, le-ltb (length room) (length message + 4) h, whole)
