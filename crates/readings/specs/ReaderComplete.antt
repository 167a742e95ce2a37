-- The reader of a chain answers every reading, and refuses exactly what is no sentence.
-- Assumes nothing.
use Rattle.std.specs.Prelude.{◌≡◌, refl, ◌↔◌, ℕ, List, [], ◌∷◌, map, Option, None, Some, None as End}
use Rattle.std.proofs.Common.{◌∙◌, ap, arith}
use Rattle.chain.specs.Layout.{header_command, FIRST, andx_command, andx_offset}
use Rattle.chain.specs.Grammar.{IsBlock, Span, span_at, ReadingFrom, plain_end, andx-end, andx-next, Reading, Sentence}
use Rattle.chain.specs.Chain.{before, blocks_from, blocks}
use Rattle.chain.specs.Next.{Follow}
use Rattle.chain.specs.declared.block.Block.{Block}
use Rattle.invariants.specs.BlockParse.{block_at, Linked, link-plain, link-end, link-next, parse-complete}
use Rattle.chain.specs.ChainLaws.{chain-end}
use Rattle.chain.proofs.ChainLaws.{chain_more}
use Rattle.invariants.specs.ReaderSound.{span_of, span-of-block, reader-sound-from}

-- the reader's answer with those blocks
pub record Answered (s : List ℕ) (command at : ℕ) (spans : List Span) : Type 0 where
  pub bs : List Block
  pub answer : blocks_from s command at ≡ Some bs
  pub same : map span_of bs ≡ spans

-- a block alone
answered-end : (s : List ℕ) (command at : ℕ) → IsBlock s at command → Linked s command at End → Answered s command at (span_at s command at ∷ [])
unfolding block_at
answered-end s command at h l =
    record {
      bs = block_at s command at End ∷ [];
      answer = chain-end s command at (block_at s command at End) (parse-complete s at h l) refl;
      same = rw (span-of-block s command at End);
    }

-- a block with others behind it
answered-more : (s : List ℕ) (command at c a : ℕ) (rest : List Span) → IsBlock s at command → Linked s command at (Follow c a) → Answered s c a rest
    → Answered s command at (span_at s command at ∷ rest)
unfolding block_at before
answered-more s command at c a rest h l behind =
    record {
      bs = block_at s command at (Follow c a) ∷ behind.bs;
      answer = chain_more s command at (block_at s command at (Follow c a)) (parse-complete s at h l) c a refl
          ∙ ap (before (block_at s command at (Follow c a))) behind.answer;
      same = rw (span-of-block s command at (Follow c a), behind.same);
    }

-- "A reading is a list of blocks inside the message, each by the rules above": every reading from a place on is what the reader answers
pub reader-complete-from : {s : List ℕ} {command at : ℕ} {spans : List Span} → ReadingFrom s command at spans → Answered s command at spans
reader-complete-from {s} (plain_end {command} {at} h p) = answered-end s command at h (link-plain p)
reader-complete-from {s} (andx-end {command} {at} h a e) = answered-end s command at h (link-end a e)
reader-complete-from {s} (andx-next {command} {at} {rest} h m g r) =
    answered-more s command at (andx_command s at) (andx_offset s at) rest h (link-next m g) (reader-complete-from r)

-- "first the block at 32 with the header's command": every reading of a message is what the reader answers
pub reader-complete : {s : List ℕ} {spans : List Span} → Reading s spans → (bs : List Block) × (blocks s ≡ Some bs) × (map span_of bs ≡ spans)
unfolding blocks
reader-complete r = let a = reader-complete-from r in (a.bs, a.answer, a.same)

-- a chain is refused exactly if nothing is read from there on
refused-by : (s : List ℕ) (command at : ℕ) (o : Option (List Block)) → blocks_from s command at ≡ o
    → ((spans : List Span) × ReadingFrom s command at spans → ⊥) → o ≡ None
refused-by s command at None e h = refl
refused-by s command at (Some bs) e h = absurd (h (map span_of bs, reader-sound-from s command at bs e))

-- "either yields the block or ends the chain's reading at once with 2/1": at any place
pub no-reading-from : (s : List ℕ) (command at : ℕ) → (blocks_from s command at ≡ None) ↔ ((spans : List Span) × ReadingFrom s command at spans → ⊥)
no-reading-from s command at = (
  λ e r. let a = reader-complete-from r.1 in
      let f = a.answer in
      let no : ◌≡◌ {A = ℕ} 0 1 = cc in
      omega arith,
  λ h. refused-by s command at (blocks_from s command at) refl h,
)

-- "A sentence is a message with a reading": the reader refuses exactly the messages that are none
pub no-sentence : (s : List ℕ) → (blocks s ≡ None) ↔ (Sentence s → ⊥)
unfolding blocks
no-sentence s = no-reading-from s (header_command s) FIRST
