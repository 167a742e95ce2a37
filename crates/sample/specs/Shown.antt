-- What the case programs print. A newline is 10, a space 32, a slash 47. Assumes nothing.
use Rattle.std.specs.Prelude.{ℕ, List, [], ◌∷◌, ◌++◌, take}
use Rattle.wire.specs.LittleEndian.{byte_at, le16_at}
use Rattle.text.specs.Digits.{decimal, hex_bytes}

-- `number N`, `length N` and `reply HEX`, a line each
unfoldable pub answer_text : ℕ → ℕ → List ℕ → List ℕ
answer_text number size room =
    (110 ∷ 117 ∷ 109 ∷ 98 ∷ 101 ∷ 114 ∷ 32 ∷ []) ++ (decimal number
    ++ ((10 ∷ 108 ∷ 101 ∷ 110 ∷ 103 ∷ 116 ∷ 104 ∷ 32 ∷ []) ++ (decimal size
    ++ ((10 ∷ 114 ∷ 101 ∷ 112 ∷ 108 ∷ 121 ∷ 32 ∷ []) ++ (hex_bytes (take size room) ++ (10 ∷ []))))))

-- a name, and class/code
unfoldable pub status_text : List ℕ → List ℕ → List ℕ
status_text name reply = name ++ ((32 ∷ []) ++ (decimal (byte_at reply 5) ++ ((47 ∷ []) ++ (decimal (le16_at reply 7) ++ (10 ∷ [])))))
