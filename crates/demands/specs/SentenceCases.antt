-- Cases 1 to 3 of document 01, said of the grammar and not of the reader: the rows of the table of cases (claims, `Cases.antt`) by the reader's laws.
-- Assumes nothing.
use Rattle.std.specs.Prelude.{◌≡◌, refl, ℕ, List, [], ◌∷◌, map, length, get_or, Option, None, Some}
use Rattle.std.proofs.Common.{ap, sym, ◌∙◌, arith}
use Rattle.locks.specs.Wire.{range_size}
use Rattle.wire.specs.LittleEndian.{le16_at}
use Rattle.chain.specs.Grammar.{Sentence}
use Rattle.chain.specs.Parse.{shaped, bare, is_large, locking_fits, read_fits, may_follow, link_fits, link_at, answer, parse_locking, parse_read, parse}
use Rattle.chain.specs.Chain.{before, after_block, after_parse, blocks_within, blocks_from, blocks}
use Rattle.chain.specs.declared.block.Block.{Block}
use Rattle.invariants.specs.ReaderSound.{span_of, reader-sound}
use Rattle.readings.specs.ReaderComplete.{no-sentence}
use Rattle.message.specs.Refusal.{status}
use Rattle.message.specs.declared.refusal.Status.{Status}
use Rattle.claims.specs.Cases.{message, reading, table, cases}

-- 0/0 is not 2/1
done-malformed : status 0 0 ≡ status 2 1 → ⊥
unfolding status
done-malformed e = let n : ◌≡◌ {A = ℕ} 0 1 = ap (λ (x : Status). x.code) e in omega arith

-- what the table says of the reader's answer, said of the grammar
read-sentence : (s : List ℕ) (o : Option (List Block)) → blocks s ≡ o → reading o ≡ status 0 0 → Sentence s
unfolding reading
read-sentence s None e f = absurd (done-malformed (sym f))
read-sentence s (Some bs) e f = (map span_of bs, reader-sound s bs e)

read_none : (s : List ℕ) (o : Option (List Block)) → blocks s ≡ o → reading o ≡ status 2 1 → Sentence s → ⊥
unfolding reading
read_none s None e f = (no-sentence s).0 e
read_none s (Some bs) e f = absurd (done-malformed f)

-- a row of the table: what is given is what is said
row : (k : ℕ) → get_or (map (λ c. c.given) table) k (status 0 0) ≡ get_or (map (λ c. c.said) table) k (status 0 0)
row k = ap (λ (l : List Status). get_or l k (status 0 0)) cases

-- "1* the message above is a sentence"
pub message-61-sentence : Sentence (message 61 [])
unfolding table
message-61-sentence = read-sentence (message 61 []) (blocks (message 61 [])) refl (row 0)

-- "2* with AndXOffset 60 it isn't"
pub message-60-none : Sentence (message 60 []) → ⊥
unfolding table
message-60-none = read_none (message 60 []) (blocks (message 60 [])) refl (row 1)

-- "3* with 62 and 85 bytes it is (one free byte)": whatever that byte is, the reader answers as in the table's row, where it is 0
free-byte : (x : ℕ) → reading (blocks (message 62 (x ∷ []))) ≡ reading (blocks (message 62 (0 ∷ [])))
unfolding message reading blocks blocks_from blocks_within after_parse after_block before parse parse_locking parse_read answer locking_fits read_fits link_fits link_at may_follow shaped bare is_large le16_at range_size
free-byte x = refl

pub message-62-length : (x : ℕ) → length (message 62 (x ∷ [])) ≡ 85
unfolding message
message-62-length x = refl

pub message-62-sentence : (x : ℕ) → Sentence (message 62 (x ∷ []))
unfolding table
message-62-sentence x = read-sentence (message 62 (x ∷ [])) (blocks (message 62 (x ∷ []))) refl (free-byte x ∙ row 2)
