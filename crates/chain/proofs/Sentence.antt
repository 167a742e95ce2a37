-- Whether a chain has a reading, block by block: where a block is refused, ends the chain or is followed; and that what is left of the message
-- falls from a block to its follower.
-- Assumes nothing.
use mathlib.Core.Path.{◌≡◌, refl, ap, ◌∙◌}
use Prim.Native.Nat.{ℕ, ◌-◌, ◌≤◌, ◌<◌}
use native.Mathlib.Omega.{arith}
use mathlib.Core.Bool.{true, false}
use mathlib.Core.List.{List}
use Rattle.std.specs.Prelude.{Option, None, Some, None as End, Some as Fits, None as NotFit}
use lib.ListN.{length}
use Rattle.chain.specs.Layout.{block_end}
use Rattle.chain.specs.Parse.{parse}
use Rattle.chain.proofs.ParseLaws.{placed}
use Rattle.chain.specs.Chain.{before, blocks_from}
use Rattle.chain.specs.ChainLaws.{chain-refused, chain-end}
use Rattle.chain.proofs.ChainLaws.{chain_more}
use Rattle.chain.specs.Judged.{judged, readable, judged-malformed, judged-stands, Stood}
use Rattle.chain.specs.declared.block.Block.{Block}
use Rattle.chain.specs.Next.{Follow}

-- a block in front changes nothing
readable-before : (b : Block) (o : Option (List Block)) → readable (before b o) ≡ readable o
unfolding readable before
readable-before b None = refl
readable-before b (Some bs) = refl

module _ (s : List ℕ) (command at : ℕ) where
  -- a block that is refused
  pub sentence-refused : judged (parse s command at) ≡ NotFit → readable (blocks_from s command at) ≡ false
  unfolding readable
  sentence-refused e = ap readable (chain-refused s command at (judged-malformed (parse s command at) e))

  -- a block that nothing follows
  pub sentence-end : judged (parse s command at) ≡ Fits End → readable (blocks_from s command at) ≡ true
  unfolding readable
  sentence-end e =
      let b = judged-stands (parse s command at) End e in
      ap readable (chain-end s command at b.block b.whole b.follows)

  module _ (c a : ℕ) (e : judged (parse s command at) ≡ Fits (Follow c a)) where
    stood : Stood (parse s command at) (Follow c a)
    stood = judged-stands (parse s command at) (Follow c a) e

    -- one that is followed leaves it to its follower
    pub sentence-more : readable (blocks_from s command at) ≡ readable (blocks_from s c a)
    sentence-more = ap readable (chain_more s command at stood.block stood.whole c a stood.follows) ∙ readable-before stood.block (blocks_from s c a)

    -- fewer bytes are left at the follower
    pub left-falls : length s - a < length s - at
    left-falls =
        let inside : block_end s at ≤ length s = (placed s at stood.block command stood.whole).inside in
        let ahead : block_end s at ≤ a = (placed s at stood.block command stood.whole).ahead c a stood.follows in
        omega arith
