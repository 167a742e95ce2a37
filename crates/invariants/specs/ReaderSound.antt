-- What the reader of a chain answers is a reading.
-- Assumes nothing.
use Rattle.std.proofs.Math.Path.{◌≡◌}
use Rattle.std.specs.Prelude.{refl, ℕ, ◌-◌, zero, suc, length, Option, None, Some, Some as Whole, None as Malformed}
use Rattle.std.proofs.Common.{sym, ◌∙◌, ap, arith}
use mathlib.Core.List.{List, [], ◌∷◌, map}
use Rattle.chain.specs.Layout.{header_command, FIRST, andx_command, andx_offset}
use Rattle.chain.specs.Grammar.{IsBlock, Span, span_at, ReadingFrom, plain_end, andx-end, andx-next, Reading}
use Rattle.chain.specs.Parse.{parse}
use Rattle.chain.specs.Chain.{before, after_block, after_parse, blocks_within, blocks_from, blocks}
use Rattle.chain.specs.Next.{Next, Parsed}
use Rattle.chain.specs.declared.block.Block.{Block}
use Rattle.invariants.specs.BlockParse.{block_at, Linked, link-plain, link-end, link-next, parse-sound}

-- a block of the reader's answer as one of a reading
unfoldable pub span_of : Block → Span
span_of b = record { command = b.command; place = b.at; size = b.length }

-- the block at a place has that place, its command and its length
pub span-of-block : (s : List ℕ) (command at : ℕ) (next : Next) → span_of (block_at s command at next) ≡ span_at s command at
unfolding span_of block_at span_at
span-of-block s command at next = refl

-- a block in front of a chain that is read
before-some : (b : Block) (o : Option (List Block)) (bs : List Block) → before b o ≡ Some bs
    → (rest : List Block) × (o ≡ Some rest) × (b ∷ rest ≡ bs)
unfolding before
before-some b None bs e = let no : ◌≡◌ {A = ℕ} 0 1 = cc in absurd (omega arith)
before-some b (Some rest) bs e = (rest, refl, (cc))

module _ (s : List ℕ) (chain : ℕ → ℕ → Option (List Block))
    (sound : (c a : ℕ) (rest : List Block) → chain c a ≡ Some rest → ReadingFrom s c a (map span_of rest)) where
  -- a block by the rules with what follows it
  sound-link : {command at : ℕ} {next : Next} → IsBlock s at command → Linked s command at next → (b : Block) → span_at s command at ≡ span_of b
      → (bs : List Block) → after_block b next chain ≡ Some bs → ReadingFrom s command at (map span_of bs)
  unfolding after_block
  sound-link h (link-plain p) b e bs f = let g : b ∷ [] ≡ bs = cc in rw (← g, ← e) (plain_end h p)
  sound-link h (link-end a p) b e bs f = let g : b ∷ [] ≡ bs = cc in rw (← g, ← e) (andx-end h a p)
  sound-link {at = at} h (link-next m g) b e bs f =
      let r = before-some b (chain (andx_command s at) (andx_offset s at)) bs f in
      rw (← r.2, ← e) (andx-next h m g (sound (andx_command s at) (andx_offset s at) r.0 r.1))

  -- what one block's reader answers, with what follows it
  sound-parse : (command at : ℕ) (p : Parsed) → parse s command at ≡ p → (bs : List Block) → after_parse p chain ≡ Some bs
      → ReadingFrom s command at (map span_of bs)
  unfolding after_parse
  sound-parse command at Malformed e bs f = let no : ◌≡◌ {A = ℕ} 0 1 = cc in absurd (omega arith)
  sound-parse command at (Whole b) e bs f =
      let h = parse-sound s at command b e in
      sound-link h.block h.link b (sym (ap span_of h.same ∙ span-of-block s command at b.next)) bs f

-- with any number of turns
within-sound : (turns : ℕ) (s : List ℕ) (command at : ℕ) (bs : List Block) → blocks_within turns s command at ≡ Some bs
    → ReadingFrom s command at (map span_of bs)
unfolding blocks_within
within-sound zero s command at bs e = let no : ◌≡◌ {A = ℕ} 0 1 = cc in absurd (omega arith)
within-sound (suc turns) s command at bs e =
    sound-parse s (λ c a. blocks_within turns s c a) (λ c a rest f. within-sound turns s c a rest f) command at (parse s command at) refl bs e

-- "A reading is a list of blocks inside the message, each by the rules above": the chain read at any place is one from there on
pub reader-sound-from : (s : List ℕ) (command at : ℕ) (bs : List Block) → blocks_from s command at ≡ Some bs → ReadingFrom s command at (map span_of bs)
unfolding blocks_from
reader-sound-from s command at bs e = within-sound (suc (length s - at)) s command at bs e

-- "first the block at 32 with the header's command": what the reader answers for a message is a reading of it
pub reader-sound : (s : List ℕ) (bs : List Block) → blocks s ≡ Some bs → Reading s (map span_of bs)
unfolding blocks
reader-sound s bs e = reader-sound-from s (header_command s) FIRST bs e
