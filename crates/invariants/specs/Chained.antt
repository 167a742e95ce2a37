-- The blocks that the reader answers, block by block: for a proof by the list of blocks of a chain.
-- Assumes nothing.
use Rattle.std.specs.Prelude.{◌≡◌, refl, ◌↔◌, ℕ, List, [], ◌∷◌, Some, None as End}
use Rattle.std.proofs.Common.{◌∙◌, ap}
use Rattle.chain.specs.Layout.{andx_command, andx_offset}
use Rattle.chain.specs.Grammar.{IsBlock, Span, ReadingFrom, plain_end, andx-end, andx-next}
use Rattle.chain.specs.Chain.{before, blocks_from}
use Rattle.chain.specs.Next.{Follow}
use Rattle.chain.specs.declared.block.Block.{Block}
use Rattle.invariants.specs.BlockParse.{block_at, Linked, link-plain, link-end, link-next, parse-complete}
use Rattle.chain.specs.ChainLaws.{chain-end}
use Rattle.chain.proofs.ChainLaws.{chain_more}
use Rattle.invariants.specs.ReaderSound.{reader-sound-from}

-- a reading with the fields of its blocks: each is one of the table, linked to the next by the rules
pub data Chained (s : List ℕ) : ℕ → ℕ → List Block → Type 0 where
  chained-end : {command at : ℕ} → IsBlock s at command → Linked s command at End → Chained s command at (block_at s command at End ∷ [])
  chained_more : {command at c a : ℕ} {rest : List Block} → IsBlock s at command → Linked s command at (Follow c a) → Chained s c a rest
      → Chained s command at (block_at s command at (Follow c a) ∷ rest)

-- each is what the reader answers
pub chained-read : {s : List ℕ} {command at : ℕ} {bs : List Block} → Chained s command at bs → blocks_from s command at ≡ Some bs
unfolding block_at before
chained-read {s} (chained-end {command} {at} h l) = chain-end s command at (block_at s command at End) (parse-complete s at h l) refl
chained-read {s} (chained_more {command} {at} {c} {a} h l r) =
    chain_more s command at (block_at s command at (Follow c a)) (parse-complete s at h l) c a refl
    ∙ ap (before (block_at s command at (Follow c a))) (chained-read r)

-- every reading has its blocks' fields
pub reading-chained : {s : List ℕ} {command at : ℕ} {spans : List Span} → ReadingFrom s command at spans
    → (bs : List Block) × Chained s command at bs
reading-chained {s} (plain_end {command} {at} h p) = (block_at s command at End ∷ [], chained-end h (link-plain p))
reading-chained {s} (andx-end {command} {at} h a e) = (block_at s command at End ∷ [], chained-end h (link-end a e))
reading-chained {s} (andx-next {command} {at} h m g r) =
    let behind = reading-chained r in
    (block_at s command at (Follow (andx_command s at) (andx_offset s at)) ∷ behind.0, chained_more h (link-next m g) behind.1)

-- "after each with an AndXCommand other than 0xFF, the block at its AndXOffset with that command": what the reader answers is such a list
pub read-chained : (s : List ℕ) (command at : ℕ) (bs : List Block) → blocks_from s command at ≡ Some bs → Chained s command at bs
read-chained s command at bs e =
    let c = reading-chained (reader-sound-from s command at bs e) in
    let f : blocks_from s command at ≡ Some c.0 = chained-read c.1 in
    let g : bs ≡ c.0 = cc in
    rw g c.1

-- so the reader answers exactly these
pub chained-exact : (s : List ℕ) (command at : ℕ) (bs : List Block) → (blocks_from s command at ≡ Some bs) ↔ Chained s command at bs
chained-exact s command at bs = (read-chained s command at bs, chained-read)
