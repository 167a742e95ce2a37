-- Numbers as SMB1 puts them on the wire: little-endian (document 01, "Header"). Bytes past the end count as 0, so that
-- each reading is defined at every place.
-- Assumes nothing.
use Rattle.std.specs.Prelude.{◌≡◌, ℕ, ◌+◌, ◌*◌, ◌≤◌, ◌<◌, List, get_or, length}
use Rattle.std.proofs.Math.ListN.{get_or-eq_default}
use Rattle.std.proofs.Common.{arith}

-- the byte at a place
abbrev pub byte_at : List ℕ → ℕ → ℕ
byte_at s at = get_or s at 0

-- two bytes, the lower first
unfoldable pub le16_at : List ℕ → ℕ → ℕ
le16_at s at = byte_at s at + 256 * byte_at s (at + 1)

-- four bytes, the lowest first
unfoldable pub le32_at : List ℕ → ℕ → ℕ
unfolding le16_at
le32_at s at = le16_at s at + 65536 * le16_at s (at + 2)

-- two bytes make 16 bits
pub le16-below : (s : List ℕ) → ((i : ℕ) → byte_at s i < 256) → (at : ℕ) → le16_at s at < 65536
unfolding le16_at
le16-below s b at =
    let low = b at in
    let high = b (at + 1) in
    omega arith

-- past the end stands 0
pub le16-past : (s : List ℕ) (at : ℕ) → length s ≤ at → le16_at s at ≡ 0
unfolding le16_at
le16-past s at h =
    let b0 : byte_at s at ≡ 0 = get_or-eq_default s 0 h in
    let past : length s ≤ at + 1 = omega arith in
    let b1 : byte_at s (at + 1) ≡ 0 = get_or-eq_default s 0 past in
    omega arith

-- nothing of the second byte is left where the first is the last
pub le16-last : (s : List ℕ) (at : ℕ) → length s ≤ at + 1 → le16_at s at ≡ byte_at s at
unfolding le16_at
le16-last s at h =
    let b1 : byte_at s (at + 1) ≡ 0 = get_or-eq_default s 0 h in
    omega arith

pub le32-past : (s : List ℕ) (at : ℕ) → length s ≤ at → le32_at s at ≡ 0
unfolding le32_at
le32-past s at h =
    let b0 : le16_at s at ≡ 0 = le16-past s at h in
    let b1 : le16_at s (at + 2) ≡ 0 = le16-past s (at + 2) (omega arith) in
    omega arith

-- four bytes, two by two
pub le32-bytes : (s : List ℕ) (at low high : ℕ) → low ≡ byte_at s at + 256 * byte_at s (at + 1) → high ≡ byte_at s (at + 2) + 256 * byte_at s (at + 3) → low + 65536 * high ≡ le32_at s at
unfolding le32_at le16_at
le32-bytes s at low high l h =
    let fourth : at + 2 + 1 ≡ at + 3 = omega arith in
    rw (l, h, fourth)
