-- The line of a call: its number, the number given out or the reply's length, the reply in hex, the digest, and the holder. A space is 32,
-- a newline 10. Assumes nothing.
use Rattle.std.specs.Prelude.{ℕ, List, [], ◌∷◌, ◌++◌, None as Nobody, Some as held_by}
use Rattle.text.specs.Digits.{decimal, number_text, hex_bytes}
use Rattle.message.specs.HeldBy.{HeldBy}

-- FID, process, place in the list as it then stood, offset and length of the lock in the way (document 02, CR 2); nothing where there is none
unfoldable pub holder_text : HeldBy → List ℕ
holder_text Nobody = []
holder_text (held_by h) =
    number_text h.lock.fid ++ (number_text h.lock.process ++ (number_text h.place ++ (number_text h.lock.offset ++ number_text h.lock.length)))

unfoldable pub call_line : ℕ → ℕ → List ℕ → ℕ → HeldBy → List ℕ
call_line number value reply digest who =
    decimal number ++ (number_text value ++ ((32 ∷ []) ++ (hex_bytes reply ++ (number_text digest ++ (holder_text who ++ (10 ∷ []))))))
