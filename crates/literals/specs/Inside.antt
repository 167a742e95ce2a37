-- "Otherwise the command must be in the last column and the offset, from the header's start, at least the end of this block" (document 01, "The grammar
-- of a chain"): a whole READ_ANDX block that stands inside the bytes of the block before it is no next block. Assumes nothing.
use Rattle.std.specs.Prelude.{◌≡◌, refl, ℕ, List, [], ◌∷◌, ◌++◌, replicate, Some, None as End}
use Rattle.wire.specs.LittleEndian.{le16_at, le32_at}
use Rattle.chain.specs.Grammar.{Sentence}
use Rattle.chain.specs.Parse.{shaped, bare, read_fits, data_inside, write_fits, may_follow, link_fits, link_at, answer, wide_offset, parse_read, parse_write, parse}
use Rattle.chain.specs.Chain.{before, after_block, after_parse, blocks_within, blocks_from, blocks}
use Rattle.chain.specs.declared.block.Block.{Block}
use Rattle.chain.specs.declared.block.Body.TheVariants.{Read, Write}
use Rattle.chain.specs.Next.{Follow}
use Rattle.readings.specs.ReaderComplete.{no-sentence}

-- a READ_ANDX block of 23 bytes that ends its chain: FID 4, offset and max as given
unfoldable pub read_block : ℕ → ℕ → List ℕ
read_block offset most = 10 ∷ 0xFF ∷ 0 ∷ 0 ∷ 0 ∷ 4 ∷ 0 ∷ offset ∷ 0 ∷ 0 ∷ 0 ∷ most ∷ replicate 11 0

-- A WRITE_ANDX of 12 words at 32, its bytes from 59 to 82: they are its data, and just such a block. Behind it, at 82, stands another. The next block is a
-- READ_ANDX at the place given.
unfoldable pub write_then_read : ℕ → List ℕ
write_then_read offset =
    (0xFF ∷ 0x53 ∷ 0x4D ∷ 0x42 ∷ 0x2F ∷ replicate 27 0)
    ++ ((12 ∷ 0x2E ∷ 0 ∷ offset ∷ 0 ∷ 4 ∷ 0 ∷ replicate 14 0) ++ ((23 ∷ 0 ∷ 59 ∷ 0 ∷ 23 ∷ 0 ∷ []) ++ (read_block 1 2 ++ read_block 5 6)))

-- the READ_ANDX of FID 4 at a place
unfoldable pub read_at : ℕ → ℕ → ℕ → Block
read_at at offset most = record { command = 0x2E; at = at; length = 23; body = Read (record { fid = 4; offset = offset; max = most }); next = End }

-- at 59 a READ_ANDX block does stand, whole and with its chain's end, whatever the WRITE_ANDX names
pub read-inside : (offset : ℕ) → blocks_from (write_then_read offset) 0x2E 59 ≡ Some (read_at 59 1 2 ∷ [])
unfolding read_at write_then_read read_block blocks_from blocks_within after_parse after_block parse parse_read answer read_fits link_fits link_at bare shaped wide_offset le16_at le32_at
read-inside offset = refl

-- and yet the message whose AndXOffset names it is no sentence
pub inside-none : Sentence (write_then_read 59) → ⊥
unfolding write_then_read read_block blocks blocks_from blocks_within after_parse after_block before parse parse_write parse_read answer write_fits data_inside read_fits link_fits link_at may_follow bare shaped wide_offset le16_at le32_at
inside-none = (no-sentence (write_then_read 59)).0 refl

-- the same bytes with the block's end, 82, there are a sentence: the WRITE_ANDX, and the READ_ANDX behind it
pub read_behind : blocks (write_then_read 82)
    ≡ Some (record { command = 0x2F; at = 32; length = 50; body = Write (record { fid = 4; offset = 0; count = 23; from = 59 }); next = Follow 0x2E 82 } ∷ read_at 82 5 6 ∷ [])
unfolding read_at write_then_read read_block blocks blocks_from blocks_within after_parse after_block before parse parse_write parse_read answer write_fits data_inside read_fits link_fits link_at may_follow bare shaped wide_offset le16_at le32_at
read_behind = refl
