-- The text of the chain lister (document 01, "A listing, whole"): "for each block its place, command in hex, offset and
-- length, then `end`; else only `not a chain`, for an unserved command too, or `dropped` by row 1". Each line ends with a
-- newline (10); a space is 32. Assumes nothing.
use Rattle.std.specs.Prelude.{ℕ, suc, cond, List, [], ◌∷◌, ◌++◌, Option, None, Some}
use Rattle.text.specs.Digits.{decimal, hex_byte}
use Rattle.chain.specs.Header.{dropped}
use Rattle.chain.specs.Chain.{blocks}
use Rattle.chain.specs.declared.block.Block.{Block}

-- the line of a block that stands k-th
unfoldable pub line : ℕ → Block → List ℕ
line k b = decimal k ++ (32 ∷ (hex_byte b.command ++ (32 ∷ (decimal b.at ++ (32 ∷ (decimal b.length ++ (10 ∷ [])))))))

-- `end` and a newline
unfoldable pub end_line : List ℕ
end_line = 101 ∷ 110 ∷ 100 ∷ 10 ∷ []

-- the lines of the blocks from the k-th on, then `end`
unfoldable pub lines_from : ℕ → List Block → List ℕ
lines_from k [] = end_line
lines_from k (b ∷ bs) = line k b ++ lines_from (suc k) bs

-- `not a chain` and a newline
unfoldable pub not_chain : List ℕ
not_chain = 110 ∷ 111 ∷ 116 ∷ 32 ∷ 97 ∷ 32 ∷ 99 ∷ 104 ∷ 97 ∷ 105 ∷ 110 ∷ 10 ∷ []

-- `dropped` and a newline
unfoldable pub dropped_line : List ℕ
dropped_line = 100 ∷ 114 ∷ 111 ∷ 112 ∷ 112 ∷ 101 ∷ 100 ∷ 10 ∷ []

unfoldable pub listed : Option (List Block) → List ℕ
listed None = not_chain
listed (Some bs) = lines_from 1 bs

-- what is printed for a message
unfoldable pub listing : List ℕ → List ℕ
listing s = cond (dropped s) dropped_line (listed (blocks s))
