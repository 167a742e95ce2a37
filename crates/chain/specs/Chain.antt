-- What the reader of a chain answers: the blocks from a place on, or that there is no reading.
-- Assumes nothing.
use Rattle.std.specs.Prelude.{ℕ, zero, suc, ◌-◌, List, [], ◌∷◌, length, Option, None, Some, None as End, Some as Whole, None as Malformed}
use Rattle.chain.specs.Layout.{header_command, FIRST}
use Rattle.chain.specs.Parse.{parse}
use Rattle.chain.specs.declared.block.Block.{Block}
use Rattle.chain.specs.Next.{Next, Parsed}

-- a block in front of what follows it, if that has a reading
unfoldable pub before : Block → Option (List Block) → Option (List Block)
before b None = None
before b (Some bs) = Some (b ∷ bs)

-- what follows a block: nothing, or a chain again
unfoldable pub after_block : Block → Next → (ℕ → ℕ → Option (List Block)) → Option (List Block)
after_block b End chain = Some (b ∷ [])
after_block b (Some follower) chain = before b (chain follower.command follower.at)

unfoldable pub after_parse : Parsed → (ℕ → ℕ → Option (List Block)) → Option (List Block)
after_parse Malformed chain = None
after_parse (Whole b) chain = after_block b b.next chain

-- "The rest of the chain is a chain again": each block takes three bytes at least, so one turn more than there are bytes is enough
unfoldable pub blocks_within : ℕ → List ℕ → ℕ → ℕ → Option (List Block)
blocks_within zero s command at = None
blocks_within (suc turns) s command at = after_parse (parse s command at) (λ c a. blocks_within turns s c a)

unfoldable pub blocks_from : List ℕ → ℕ → ℕ → Option (List Block)
blocks_from s command at = blocks_within (suc (length s - at)) s command at

-- the blocks of a message
unfoldable pub blocks : List ℕ → Option (List Block)
blocks s = blocks_from s (header_command s) FIRST
