-- What is left of an answer where nothing is taken apart: of a block's, what follows it; of a chain's, whether there is a reading.
-- Assumes nothing.
use Rattle.std.specs.Prelude.{◌≡◌, refl, ℕ, Bool, true, false, List, Option, None, Some, Some as Whole, None as Malformed, Some as Fits, None as NotFit}
use Rattle.std.proofs.Common.{arith}
use Rattle.std.proofs.lemmas.Bool.{false≢true}
use Rattle.chain.specs.declared.block.Block.{Block}
use Rattle.chain.specs.Next.{Next, Parsed, Judged}

unfoldable pub judged : Parsed → Judged
judged (Whole b) = Fits b.next
judged Malformed = NotFit

-- a block stands there
unfoldable pub is_whole : Parsed → Bool
is_whole (Whole b) = true
is_whole Malformed = false

-- there is a reading
unfoldable pub readable : Option (List Block) → Bool
readable None = false
readable (Some bs) = true

-- a block that is judged malformed is
pub judged-malformed : (p : Parsed) → judged p ≡ NotFit → p ≡ Malformed
unfolding judged
judged-malformed (Whole b) e = let never : ◌≡◌ {A = ℕ} 0 1 = cc in absurd (omega arith)
judged-malformed Malformed e = refl

-- the block that is judged to stand there
pub record Stood (p : Parsed) (n : Next) : Type 0 where
  pub block : Block
  pub whole : p ≡ Whole block
  pub follows : block.next ≡ n

pub judged-stands : (p : Parsed) (n : Next) → judged p ≡ Fits n → Stood p n
unfolding judged
judged-stands (Whole b) n e = record { block = b; whole = refl; follows = cc }
judged-stands Malformed n e = let never : ◌≡◌ {A = ℕ} 0 1 = cc in absurd (omega arith)

pub whole-block : (p : Parsed) → is_whole p ≡ true → (b : Block) × (p ≡ Whole b)
unfolding is_whole
whole-block (Whole b) e = (b, refl)
whole-block Malformed e = absurd (false≢true e)

-- a reading that is there
pub readable-blocks : (o : Option (List Block)) → readable o ≡ true → (bs : List Block) × (o ≡ Some bs)
unfolding readable
readable-blocks None e = absurd (false≢true e)
readable-blocks (Some bs) e = (bs, refl)
