-- Document 01's header and which messages are dropped, a second time, as numbers. Assumes nothing.
use Rattle.std.specs.Prelude.{◌≡◌, refl, ℕ, true, false, not, List, [], ◌∷◌, ◌++◌, length, replicate, Some, None as End}
use Rattle.wire.specs.LittleEndian.{le16_at}
use Rattle.lists.specs.Walk.{keep}
use Rattle.chain.specs.Header.{starts_smb, is_reply, dropped}
use Rattle.chain.specs.Parse.{shaped, bare, answer, parse_bare, parse}
use Rattle.chain.specs.Chain.{after_block, after_parse, blocks_within, blocks_from, blocks}
use Rattle.chain.specs.declared.block.Body.TheVariants.{Close}
use Rattle.message.specs.Caller.{caller_of}
use Rattle.literals.specs.Counting.{count_from}

-- "32 bytes, little-endian: Protocol 0, Command 4, .. PIDHigh 12, .. TID 24, PIDLow 26, UID 28, MID 30": each byte behind Protocol is its own place, in hex. Command
-- is then 0x04, a CLOSE, whose block stands at 32.
unfoldable pub own_places : List ℕ
own_places =
    (0xFF ∷ 0x53 ∷ 0x4D ∷ 0x42 ∷ 0x04 ∷ 0x05 ∷ 0x06 ∷ 0x07 ∷ 0x08 ∷ 0x09 ∷ 0x0A ∷ 0x0B ∷ 0x0C ∷ 0x0D ∷ 0x0E ∷ 0x0F ∷ [])
    ++ ((0x10 ∷ 0x11 ∷ 0x12 ∷ 0x13 ∷ 0x14 ∷ 0x15 ∷ 0x16 ∷ 0x17 ∷ 0x18 ∷ 0x19 ∷ 0x1A ∷ 0x1B ∷ 0x1C ∷ 0x1D ∷ 0x1E ∷ 0x1F ∷ [])
    ++ (0x03 ∷ 0x21 ∷ 0x22 ∷ 0x23 ∷ 0x24 ∷ 0x25 ∷ 0x26 ∷ 0x00 ∷ 0x00 ∷ []))

-- Document 02, CR 4: "a request's process is PIDHigh × 65,536 + PIDLow". The connection is not in the message.
pub caller-places : caller_of 5 own_places ≡ record { connection = 5; uid = 0x1D1C; tid = 0x1918; process = 0x0D0C1B1A }
unfolding caller_of own_places le16_at
caller-places = refl

-- "The first is at 32 and belongs to the header's command."
pub first_block : blocks own_places ≡ Some (record { command = 0x04; at = 32; length = 9; body = Close 0x2221; next = End } ∷ [])
unfolding own_places blocks blocks_from blocks_within after_parse after_block parse parse_bare answer bare shaped le16_at
first_block = refl

-- a message of those four first bytes and that Flags, with so many bytes behind it: 10 more in all
unfoldable pub starting : List ℕ → ℕ → ℕ → List ℕ
starting four flags rest = four ++ (replicate 5 0 ++ (flags ∷ replicate rest 0))

unfoldable pub smb : List ℕ
smb = 0xFF ∷ 0x53 ∷ 0x4D ∷ 0x42 ∷ []

-- "message dropped: under 35 or over 8,192 bytes"
pub dropped-lengths : (length (starting smb 0 24) ≡ 34)
    × (dropped (starting smb 0 24) ≡ true)
    × (dropped (starting smb 0 25) ≡ false)
    × (dropped (starting smb 0 8182) ≡ false)
    × (dropped (starting smb 0 8183) ≡ true)
unfolding starting smb dropped starts_smb is_reply
dropped-lengths = (refl, refl, refl, refl, refl)

-- "not starting FF 53 4D 42": of 256 values of each of the four bytes, the others as they are to be, the one that is not dropped
unfoldable pub served : (ℕ → List ℕ) → List ℕ
served four = keep (λ x. not (dropped (starting (four x) 0 25))) (count_from 0 256)

pub dropped-starts : (served (λ x. x ∷ 0x53 ∷ 0x4D ∷ 0x42 ∷ []) ≡ 0xFF ∷ [])
    × (served (λ x. 0xFF ∷ x ∷ 0x4D ∷ 0x42 ∷ []) ≡ 0x53 ∷ [])
    × (served (λ x. 0xFF ∷ 0x53 ∷ x ∷ 0x42 ∷ []) ≡ 0x4D ∷ [])
    × (served (λ x. 0xFF ∷ 0x53 ∷ 0x4D ∷ x ∷ []) ≡ 0x42 ∷ [])
unfolding served keep count_from starting dropped starts_smb is_reply
dropped-starts = (refl, refl, refl, refl)

-- "or Flags bit 0x80 set": Flags stands at 9, and of its 256 values those from 0x80 on have the bit
pub dropped-flags : keep (λ flags. dropped (starting smb flags 25)) (count_from 0 256) ≡ count_from 0x80 128
unfolding keep count_from starting smb dropped starts_smb is_reply
dropped-flags = refl
