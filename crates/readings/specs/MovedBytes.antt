-- The ranges of a block that stands at another place are the same, a WRITE block's data is the same part of a message, and so are a core WRITE's data block and an OPEN's name.
-- Assumes nothing.
use Rattle.std.specs.Prelude.{◌≡◌, ℕ, ◌+◌, ◌*◌, ◌≤◌, ◌<◌, Bool, true, false, List, length, take, drop}
use Rattle.std.proofs.Common.{sym, ◌∙◌, arith, length-drop, length-take-le, get_or-take, get_or-drop, ext_get_or}
use Rattle.wire.specs.LittleEndian.{byte_at}
use Rattle.locks.specs.Wire.{range_size}
use Rattle.chain.specs.Layout.{byte_area, byte_count}

-- a part of that many bytes from a place on
abbrev pub part : List ℕ → ℕ → ℕ → List ℕ
part s from size = take size (drop from s)

-- its length
pub length_part : (s : List ℕ) (from size : ℕ) → from + size ≤ length s → length (part s from size) ≡ size
length_part s from size h = length-take-le size (drop from s) (rw (length-drop from s) (omega arith))

-- its bytes
pub byte-part : (s : List ℕ) (from size k : ℕ) → k < size → byte_at (part s from size) k ≡ byte_at s (from + k)
byte-part s from size k h = get_or-take size (drop from s) k 0 h ∙ get_or-drop from s k 0

-- two parts with the same bytes are the same
pub part_same : (s t : List ℕ) (from to size : ℕ) → from + size ≤ length s → to + size ≤ length t
    → ((k : ℕ) → k < size → byte_at t (to + k) ≡ byte_at s (from + k)) → part t to size ≡ part s from size
part_same s t from to size h g same =
    let n : length (part t to size) ≡ size = length_part t to size g in
    let l : length (part s from size) ≡ size = length_part s from size h in
    ext_get_or 0 (part t to size) (part s from size) (n ∙ sym l)
    (λ k b. let c : k < size = rw n at b in byte-part t to size k c ∙ same k c ∙ sym (byte-part s from size k c))

-- a byte of one of n ranges stands among their bytes
pub within : (large : Bool) (i j n count : ℕ) → count ≡ n * range_size large → i < n → j < range_size large → i * range_size large + j < count
unfolding range_size
within true i j n count e l h = omega arith
within false i j n count e l h = omega arith

-- "The byte area of a block is handed on as a part of the message"
abbrev pub area_at : List ℕ → ℕ → List ℕ
area_at s at = part s (byte_area s at) (byte_count s at)
