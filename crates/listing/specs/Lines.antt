-- A chain that has a reading, and the lines of its blocks.
-- Assumes nothing.
use Rattle.std.specs.Prelude.{◌≡◌, ℕ, List, [], Option, None, Some}
use Rattle.chain.specs.Chain.{blocks_from}
use Rattle.chain.specs.declared.block.Block.{Block}
use Rattle.listing.specs.Text.{lines_from}

-- the chain that begins with that command at that place has a reading
pub record SentenceFrom (s : List ℕ) (command place : ℕ) : Type 0 where
  pub blocks : List Block
  pub read : blocks_from s command place ≡ Some blocks

-- the lines of a chain's blocks, the first standing k-th
unfoldable pub lines_of : ℕ → Option (List Block) → List ℕ
lines_of k None = []
lines_of k (Some bs) = lines_from k bs
