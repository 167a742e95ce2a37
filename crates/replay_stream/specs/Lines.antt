-- The lines of a replayed stream. A space is 32, a newline 10. Assumes nothing.
use Rattle.std.specs.Prelude.{ℕ, List, [], ◌∷◌, ◌++◌}
use Rattle.text.specs.Digits.{number_text}

-- "message", its length, its number, its reply's length, the digest of the reply behind its header
unfoldable pub message_line : ℕ → ℕ → ℕ → ℕ → List ℕ
message_line size number length digest =
    (109 ∷ 101 ∷ 115 ∷ 115 ∷ 97 ∷ 103 ∷ 101 ∷ []) ++ (number_text size ++ (number_text number ++ (number_text length ++ (number_text digest ++ (10 ∷ [])))))

-- "reader", its last number, the digest of its words, the digest of the tables and the file memory
unfoldable pub end_line : ℕ → ℕ → ℕ → List ℕ
end_line number reader tables =
    (114 ∷ 101 ∷ 97 ∷ 100 ∷ 101 ∷ 114 ∷ []) ++ (number_text number ++ (number_text reader ++ (number_text tables ++ (10 ∷ []))))
