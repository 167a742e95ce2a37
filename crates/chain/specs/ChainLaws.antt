-- The laws of a chain's reading that hide its count of turns: a block that is refused, one that ends the chain, and one that is followed.
-- Assumes nothing.
use Rattle.std.specs.Prelude.{◌≡◌, refl, ℕ, List, [], ◌∷◌, Option, None, Some, None as End, Some as Whole, None as Malformed}
use Rattle.std.proofs.Math.Path.{ap}
use Rattle.chain.specs.Parse.{parse}
use Rattle.chain.specs.Chain.{before, after_block, after_parse, blocks_within, blocks_from}
use Rattle.chain.specs.declared.block.Block.{Block}
use Rattle.chain.specs.Next.{Next, Follow, Parsed}

-- what follows a block depends only on the reading at its follower
next-same : (b : Block) (n : Next) (f g : ℕ → ℕ → Option (List Block)) → ((c a : ℕ) → n ≡ Follow c a → f c a ≡ g c a) → after_block b n f ≡ after_block b n g
unfolding after_block
next-same b End f g h = refl
next-same b (Some next) f g h = ap (before b) (h next.command next.at refl)

pub parse-same : (p : Parsed) (f g : ℕ → ℕ → Option (List Block)) → ((b : Block) (c a : ℕ) → p ≡ Whole b → b.next ≡ Follow c a → f c a ≡ g c a)
    → after_parse p f ≡ after_parse p g
unfolding after_parse
parse-same Malformed f g h = refl
parse-same (Whole b) f g h = next-same b b.next f g (λ c a e. h b c a refl e)

module _ (s : List ℕ) (command at : ℕ) where
  -- a block that is refused: there is no reading
  pub chain-refused : parse s command at ≡ Malformed → blocks_from s command at ≡ None
  unfolding blocks_from blocks_within after_parse
  chain-refused e = rw e

  module _ (b : Block) (e : parse s command at ≡ Whole b) where
    -- a block that nothing follows is the whole reading
    pub chain-end : b.next ≡ End → blocks_from s command at ≡ Some (b ∷ [])
    unfolding blocks_from blocks_within after_parse after_block
    chain-end f = rw (e, f)
