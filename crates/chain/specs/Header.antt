-- When a message is dropped (document 01, "What a call returns", row 1): "under 35 or over 8,192 bytes, not starting
-- FF 53 4D 42, or Flags bit 0x80 set". Assumes nothing.
use Rattle.std.specs.Prelude.{ℕ, Bool, not, ◌&&◌, ◌||◌, List, length, leb, ltb, eqb}
use Rattle.wire.specs.LittleEndian.{byte_at}

unfoldable pub starts_smb : List ℕ → Bool
starts_smb s = eqb (byte_at s 0) 0xFF && (eqb (byte_at s 1) 0x53 && (eqb (byte_at s 2) 0x4D && eqb (byte_at s 3) 0x42))

-- Flags stands at 9, and 0x80 is its highest bit
unfoldable pub is_reply : List ℕ → Bool
is_reply s = leb 128 (byte_at s 9)

unfoldable pub dropped : List ℕ → Bool
dropped s = ltb (length s) 35 || (ltb 8192 (length s) || (not (starts_smb s) || is_reply s))
