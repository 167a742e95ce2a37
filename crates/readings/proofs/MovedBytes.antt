-- Of specs/MovedBytes.antt: what rests on its other theorems. Assumes nothing.
use Rattle.std.specs.Prelude.{◌≡◌, refl, ℕ, ◌+◌, ◌-◌, ◌*◌, ◌≤◌, ◌<◌, Bool, List, length}
use Rattle.std.proofs.Common.{sym, ◌∙◌, ap, arith, ext_get_or}
use Rattle.wire.specs.LittleEndian.{byte_at}
use Rattle.locks.specs.Wire.{range_size, ranges_at}
use Rattle.chain.specs.Layout.{LOCKING, WRITE, CORE-WRITE, OPEN, word_count, byte_area, byte_count, block_end, lock_type, unlock_count, lock_count, data_length, data_offset}
use Rattle.chain.specs.Grammar.{IsBlock, Ranges, Data}
use Rattle.chain.specs.Parse.{is_large}
use Rattle.invariants.specs.BlockParse.{block_inside, write-words, block_size}
use Rattle.readings.specs.Unread.{Unread}
use Rattle.readings.proofs.UnreadLaws.{range-looked, marked-looked, name-looked, data-looked}
use Rattle.readings.specs.RangeBytes.{ranges-same}
use Rattle.readings.specs.Moved.{Moved}
use Rattle.readings.proofs.Moved.{moved-bytes, moved-count, moved-end, moved-area, moved_length}
use Rattle.readings.specs.MovedBytes.{area_at, byte-part, length_part, part, part_same, within}

module _ {s : List ℕ} {at : ℕ} {t : List ℕ} {to : ℕ} {command : ℕ} (m : Moved s at t to command) (h : IsBlock s at command) where
  -- the part ends inside the other message
  pub area-inside : byte_area t to + byte_count s at ≤ length t
  area-inside =
      let e : block_end t to ≡ to + block_size s at = moved-end m h in
      let i : to + block_size s at ≤ length t = m.inside in
      let c : byte_count t to ≡ byte_count s at = moved-count m h in
      omega arith

  -- the byte area has the same length
  pub moved-area-length : length (area_at t to) ≡ length (area_at s at)
  moved-area-length =
      let c : byte_count t to ≡ byte_count s at = moved-count m h in
      ap (λ (n : ℕ). length (part t (byte_area t to) n)) c
      ∙ length_part t (byte_area t to) (byte_count s at) area-inside
      ∙ sym (length_part s (byte_area s at) (byte_count s at) (block_inside h))

  -- and the same bytes where they are looked at
  pub moved-area-byte : (k : ℕ) → k < byte_count s at → (Unread s at command (3 + 2 * word_count s at + k) → ⊥) → byte_at (area_at t to) k ≡ byte_at (area_at s at) k
  moved-area-byte k l n =
      let c : byte_count t to ≡ byte_count s at = moved-count m h in
      byte-part t (byte_area t to) (byte_count t to) k (omega arith)
      ∙ moved-bytes m h k l n
      ∙ sym (byte-part s (byte_area s at) (byte_count s at) k l)

  -- so it has the same ranges
  pub moved-range-list : command ≡ LOCKING → (large : Bool) → is_large (lock_type s at) ≡ large → Ranges s at (range_size large)
      → (k n : ℕ) → k + n ≤ unlock_count s at + lock_count s at → ranges_at large (area_at t to) k n ≡ ranges_at large (area_at s at) k n
  moved-range-list c large b r k n few =
      ranges-same large (area_at s at) (area_at t to) k n
      (λ i p q j l pad.
      let w : word_count s at ≡ 8 = r.shape.counted in
      let u : byte_count s at ≡ (unlock_count s at + lock_count s at) * range_size large = r.announced in
      moved-area-byte (i * range_size large + j) (within large i j (unlock_count s at + lock_count s at) (byte_count s at) u (omega arith) l)
      (range-looked large i j w b l pad (omega arith) c))

  -- a byte area that is looked at whole is the same
  pub whole-area : ((k : ℕ) → Unread s at command (3 + 2 * word_count s at + k) → ⊥) → area_at t to ≡ area_at s at
  whole-area looked =
      let n : length (area_at s at) ≡ byte_count s at = length_part s (byte_area s at) (byte_count s at) (block_inside h) in
      ext_get_or 0 (area_at t to) (area_at s at) moved-area-length
      (λ k b. let l : k < byte_count s at = rw (moved-area-length ∙ n) at b in moved-area-byte k l (looked k))

  -- a core WRITE's data block, and an OPEN's name with its zero byte
  pub moved-marked-area : command ≡ CORE-WRITE → word_count s at ≡ 5 → area_at t to ≡ area_at s at
  moved-marked-area c w = whole-area (λ k. marked-looked c (omega arith))

  pub moved-name-area : command ≡ OPEN → word_count s at ≡ 15 → area_at t to ≡ area_at s at
  moved-name-area c w = whole-area (λ k. name-looked c (omega arith))

module _ {s : List ℕ} {at : ℕ} {t : List ℕ} {to words : ℕ} (m : Moved s at t to WRITE) (h : IsBlock s at WRITE) (d : Data s at words) where
  -- "For a write, DataOffset is not before the byte area": its data's bytes, one by one
  pub moved-data-bytes : (k : ℕ) → k < data_length s at → byte_at t (data_offset t to + k) ≡ byte_at s (data_offset s at + k)
  moved-data-bytes k l =
      let w : 12 ≤ word_count s at = write-words h refl in
      let o : data_offset t to + at ≡ data_offset s at + to = m.data-moved refl in
      let a : byte_area t to + at ≡ byte_area s at + to = moved-area m h in
      let b : byte_area s at ≤ data_offset s at = d.starts in
      let f : data_offset s at + data_length s at ≤ block_end s at = d.ends in
      let e : data_offset t to + k ≡ byte_area t to + (data_offset s at - byte_area s at + k) = omega arith in
      let g : data_offset s at + k ≡ byte_area s at + (data_offset s at - byte_area s at + k) = omega arith in
      ap (byte_at t) e
      ∙ moved-bytes m h (data_offset s at - byte_area s at + k) (omega arith) (data-looked refl w b (omega arith) (omega arith))
      ∙ sym (ap (byte_at s) g)

  -- the data to be written is the same part
  pub moved-data-part : part t (data_offset t to) (data_length t to) ≡ part s (data_offset s at) (data_length s at)
  moved-data-part =
      let w : 12 ≤ word_count s at = write-words h refl in
      let inside : block_end s at ≤ length s = block_inside h in
      let e : block_end t to ≡ to + block_size s at = moved-end m h in
      let i : to + block_size s at ≤ length t = m.inside in
      let c : data_length t to ≡ data_length s at = moved_length m refl (omega arith) in
      let o : data_offset t to + at ≡ data_offset s at + to = m.data-moved refl in
      let b : byte_area s at ≤ data_offset s at = d.starts in
      let f : data_offset s at + data_length s at ≤ block_end s at = d.ends in
      let room : data_offset t to + data_length s at ≤ length t = omega arith in
      let whole : data_offset s at + data_length s at ≤ length s = omega arith in
      ap (part t (data_offset t to)) c ∙ part_same s t (data_offset s at) (data_offset t to) (data_length s at) whole room moved-data-bytes
