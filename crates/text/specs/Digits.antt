-- Numbers as text: in decimal, and a byte in hex. Assumes nothing.
use Rattle.std.specs.Prelude.{ℕ, zero, suc, ◌+◌, ◌/◌, ◌%◌, cond, List, [], ◌∷◌, ◌++◌, ltb}

-- a number in decimal: its last digit behind those before it. As many turns as the number, and one more, are enough.
unfoldable pub digits_within : ℕ → ℕ → List ℕ
digits_within zero n = []
digits_within (suc turns) n = cond (ltb n 10) ((48 + n) ∷ []) (digits_within turns (n / 10) ++ ((48 + n % 10) ∷ []))

unfoldable pub decimal : ℕ → List ℕ
decimal n = digits_within (suc n) n

-- a space and a number
unfoldable pub number_text : ℕ → List ℕ
number_text n = (32 ∷ []) ++ decimal n

-- a digit in hex, in upper case, and a byte as two of them
unfoldable pub hex_digit : ℕ → ℕ
hex_digit d = cond (ltb d 10) (48 + d) (55 + d)

unfoldable pub hex_byte : ℕ → List ℕ
hex_byte b = hex_digit (b / 16) ∷ hex_digit (b % 16) ∷ []

-- bytes, each as two digits in hex
unfoldable pub hex_bytes : List ℕ → List ℕ
hex_bytes [] = []
hex_bytes (b ∷ bs) = hex_byte b ++ hex_bytes bs
