-- The lines of a chain's blocks, block by block, and what is printed for a message.
-- Assumes nothing.
use mathlib.Core.Path.{◌≡◌, refl, sym, ◌∙◌}
use Prim.Native.Nat.{ℕ, suc, ◌+◌, ◌-◌, ◌≤◌, ◌<◌}
use native.Mathlib.Numerals.{add-one}
use native.Mathlib.Omega.{arith}
use mathlib.Core.Bool.{true, false, false≢true}
use mathlib.Core.List.{List, ◌++◌}
use Rattle.std.specs.Prelude.{Option, None, Some, None as End, Some as Whole, None as Malformed}
use lib.ListN.{length}
use Rattle.wire.specs.LittleEndian.{byte_at}
use Rattle.chain.specs.Layout.{block_end}
use Rattle.chain.specs.Header.{dropped}
use Rattle.chain.specs.Parse.{parse}
use Rattle.chain.proofs.ParseLaws.{placed}
use Rattle.chain.specs.Chain.{before, blocks, blocks_from}
use Rattle.chain.specs.ChainLaws.{chain-refused, chain-end}
use Rattle.chain.proofs.ChainLaws.{chain_more}
use Rattle.chain.specs.Judged.{is_whole, readable, readable-blocks}
use Rattle.chain.specs.declared.block.Block.{Block}
use Rattle.chain.specs.Next.{Follow, Parsed}
use Rattle.listing.specs.Text.{line, end_line, lines_from, not_chain, dropped_line, listed, listing}
use Rattle.listing.specs.Lines.{SentenceFrom, lines_of}

-- a chain that has a reading has a block where it begins: one that is refused leaves none
stands : {s : List ℕ} {command place : ℕ} → SentenceFrom s command place → (p : Parsed) → parse s command place ≡ p → is_whole p ≡ true
unfolding is_whole
stands h (Whole b) e = refl
stands {s} {command} {place} h Malformed e =
    let refused = sym (chain-refused s command place e) ∙ h.read in
    let never : ◌≡◌ {A = ℕ} 0 1 = cc in
    absurd (omega arith)

pub sentence-stands : {s : List ℕ} {command place : ℕ} → SentenceFrom s command place → is_whole (parse s command place) ≡ true
sentence-stands {s} {command} {place} h = stands h (parse s command place) refl

-- the lines of a block that nothing follows
pub lines_end : (s : List ℕ) (command place k : ℕ) (b : Block) → parse s command place ≡ Whole b → b.next ≡ End → lines_of k (blocks_from s command place) ≡ line k b ++ end_line
unfolding lines_of lines_from
lines_end s command place k b e f = rw (chain-end s command place b e f)

-- what a chain that has a reading begins with leaves a reading
sentence-after : (b : Block) (o : Option (List Block)) (bs : List Block) → before b o ≡ Some bs → (r : List Block) × (o ≡ Some r)
unfolding before
sentence-after b None bs e = let never : ◌≡◌ {A = ℕ} 0 1 = cc in absurd (omega arith)
sentence-after b (Some r) bs e = (r, refl)

lines-before : (k : ℕ) (b : Block) (o : Option (List Block)) (r : List Block) → o ≡ Some r → lines_of k (before b o) ≡ line k b ++ lines_of (suc k) o
unfolding before lines_of lines_from
lines-before k b o r e = rw e

-- the block b at a place of a chain that has a reading, followed by one with the command c at the place a
pub record Followed (s : List ℕ) (command place : ℕ) (b : Block) (c a : ℕ) : Type 0 where
  pub chained : SentenceFrom s command place
  pub whole : parse s command place ≡ Whole b
  pub follows : b.next ≡ Follow c a

module _ {s : List ℕ} {command place : ℕ} {b : Block} {c a : ℕ} (h : Followed s command place b c a) where
  more : blocks_from s command place ≡ before b (blocks_from s c a)
  more = chain_more s command place b h.whole c a h.follows

  -- the rest has a reading
  pub sentence-more : SentenceFrom s c a
  sentence-more =
      let rest = sentence-after b (blocks_from s c a) h.chained.blocks (sym more ∙ h.chained.read) in
      record { blocks = rest.0; read = rest.1 }

  -- the block's line stands before those of the rest
  pub lines_more : (k : ℕ) → lines_of k (blocks_from s command place) ≡ line k b ++ lines_of (k + 1) (blocks_from s c a)
  lines_more k = rw (more, add-one k) (lines-before k b (blocks_from s c a) sentence-more.blocks sentence-more.read)

  -- fewer bytes are left at the follower
  pub left-falls : length s - a < length s - place
  left-falls =
      let inside : block_end s place ≤ length s = (placed s place b command h.whole).inside in
      let ahead : block_end s place ≤ a = (placed s place b command h.whole).ahead c a h.follows in
      omega arith

  -- a count that is not past the place of the block is not past that of its follower with one more
  pub count-more : (k : ℕ) → k ≤ place → k + 1 ≤ a
  count-more k q =
      let ahead : block_end s place ≤ a = (placed s place b command h.whole).ahead c a h.follows in
      omega arith

  -- nor past the message's end
  pub count-inside : (k : ℕ) → k ≤ place → k + 1 ≤ length s
  count-inside k q =
      let inside : block_end s place ≤ length s = (placed s place b command h.whole).inside in
      omega arith

-- a message that is dropped
pub listing-dropped : (s : List ℕ) → dropped s ≡ true → listing s ≡ dropped_line
unfolding listing
listing-dropped s e = rw e

unread-listed : (o : Option (List Block)) → readable o ≡ false → listed o ≡ not_chain
unfolding readable listed
unread-listed None e = refl
unread-listed (Some bs) e = absurd (false≢true (sym e))

listed-some : (o : Option (List Block)) (bs : List Block) → o ≡ Some bs → listed o ≡ lines_of 1 o
unfolding listed lines_of
listed-some o bs e = rw e

module _ (s : List ℕ) (command : ℕ) (q : command ≡ byte_at s 4) where
  -- one that has no reading
  pub listing_none : dropped s ≡ false → readable (blocks_from s command 32) ≡ false → listing s ≡ not_chain
  unfolding listing blocks
  listing_none d e = rw (d, ← q) (unread-listed (blocks_from s command 32) e)

  module _ (e : readable (blocks_from s command 32) ≡ true) where
    -- one that has a reading
    pub sentence-read : SentenceFrom s command 32
    sentence-read =
        let r = readable-blocks (blocks_from s command 32) e in
        record { blocks = r.0; read = r.1 }

    pub listing-lines : dropped s ≡ false → listing s ≡ lines_of 1 (blocks_from s command 32)
    unfolding listing blocks
    listing-lines d = rw (d, ← q) (listed-some (blocks_from s command 32) sentence-read.blocks sentence-read.read)
