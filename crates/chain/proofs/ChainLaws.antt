-- Of specs/ChainLaws.antt: what rests on its other theorems. Assumes nothing.
use Rattle.std.specs.Prelude.{◌≡◌, ℕ, zero, suc, ◌-◌, ◌≤◌, ◌<◌, List, Some as Whole}
use Rattle.std.proofs.Math.Path.{ap}
use Rattle.std.proofs.Common.{◌∙◌, arith}
use Rattle.std.proofs.Math.ListN.{length}
use Rattle.chain.specs.Layout.{block_end}
use Rattle.chain.specs.Parse.{parse}
use Rattle.chain.proofs.ParseLaws.{placed}
use Rattle.chain.specs.Chain.{before, after_block, after_parse, blocks_within, blocks_from}
use Rattle.chain.specs.declared.block.Block.{Block}
use Rattle.chain.specs.Next.{Next, Follow, Parsed}
use Rattle.chain.specs.ChainLaws.{parse-same}

-- turns enough give the same reading, however many they are
pub turns_same : (n m : ℕ) (s : List ℕ) (command at : ℕ) → length s - at < n → length s - at < m → blocks_within n s command at ≡ blocks_within m s command at
unfolding blocks_within
turns_same zero m s command at h k = absurd (omega arith)
turns_same (suc n) zero s command at h k = absurd (omega arith)
turns_same (suc n) (suc m) s command at h k =
    parse-same (parse s command at) (λ c a. blocks_within n s c a) (λ c a. blocks_within m s c a)
    (λ b c a e f.
    let inside : block_end s at ≤ length s = (placed s at b command e).inside in
    let ahead : block_end s at ≤ a = (placed s at b command e).ahead c a f in
    turns_same n m s c a (omega arith) (omega arith))

module _ (s : List ℕ) (command at : ℕ) where
  module _ (b : Block) (e : parse s command at ≡ Whole b) where
    -- a block that is followed stands before the reading there
    pub chain_more : (c a : ℕ) → b.next ≡ Follow c a → blocks_from s command at ≡ before b (blocks_from s c a)
    unfolding blocks_from blocks_within after_parse after_block
    chain_more c a f =
        let inside : block_end s at ≤ length s = (placed s at b command e).inside in
        let ahead : block_end s at ≤ a = (placed s at b command e).ahead c a f in
        let same : blocks_within (length s - at) s c a ≡ blocks_within (suc (length s - a)) s c a = turns_same (length s - at) (suc (length s - a)) s c a (omega arith) (omega arith) in
        ap (λ (p : Parsed). after_parse p (λ i j. blocks_within (length s - at) s i j)) e
        ∙ ap (λ (n : Next). after_block b n (λ i j. blocks_within (length s - at) s i j)) f
        ∙ ap (before b) same
