-- Of specs/Moved.antt: what rests on its other theorems. Assumes nothing.
use Rattle.std.specs.Prelude.{◌≡◌, refl, ℕ, ◌+◌, ◌-◌, ◌*◌, ◌≤◌, ◌<◌, List, eqb}
use Rattle.std.proofs.Common.{ap, ◌∙◌, add-zero, arith, eqb-true}
use Rattle.wire.specs.LittleEndian.{byte_at, le16_at, le32_at}
use Rattle.chain.specs.Layout.{CLOSE, PROCESS_EXIT, LOCKING, READ, WRITE, CORE-READ, CORE-WRITE, LOCK_BYTE_RANGE, UNLOCK_BYTE_RANGE, OPEN, word_count, byte_area, byte_count, block_end, area_byte, fid_after_andx, lock_type, unlock_count, lock_count, offset_low, read_max, read_offset_high, data_length, data_offset, write_offset_high, first_fid, core_count, core_offset, data_mark, marked_length, range_length, range_offset, open_flags, access_mode, open_mode}
use Rattle.chain.specs.Grammar.{Shape, Bare, Ranges, Data, MarkedData, Name, IsBlock, locking-10, locking-20, read-10, read-12, write-12, write-14, close, logoff, tree-disconnect, process-exit, core-read, core-write, lock-byte-range, unlock-byte-range, open-15, NamedAndx, locking-andx, read-andx, write-andx, Plain, close-plain, core-read-plain, core-write-plain, lock-byte-range-plain, unlock-byte-range-plain}
use Rattle.chain.specs.Parse.{wide_offset, range_fields}
use Rattle.chain.specs.declared.block.Body.TheVariants.{LockByteRange, UnlockByteRange}
use Rattle.invariants.specs.BlockParse.{body_at, plain-not-andx, andx-words, block_size}
use Rattle.readings.specs.SameNumbers.{same-16, same-32}
use Rattle.readings.specs.Unread.{UnreadWord, Unread}
use Rattle.readings.specs.UnreadLaws.{in_words, unread-locking, unread-read, unread-write, unread-core, range-read, unread-front, unread-fid, open-looked}
use Rattle.readings.proofs.UnreadLaws.{unread-before-count, marked-looked, name-looked}
use Rattle.readings.specs.Moved.{KeptRead, Moved, bytes-kept, kept-bytes, moved_body, wide-same}
use Rattle.readings.specs.Moved.{kept-behind}
use Rattle.readings.specs.Moved.{kept-count}
use Rattle.readings.specs.Moved.{kept-front}
use Rattle.readings.specs.Moved.{kept-not-write}
use Rattle.readings.specs.Moved.{kept-plain}

module _ {s : List ℕ} {at : ℕ} {t : List ℕ} {to : ℕ} {command : ℕ} (m : Moved s at t to command) where
  -- a number of two bytes that are kept, and one of four
  pub kept-16 : (k : ℕ) → k + 2 ≤ block_size s at → ((i : ℕ) → k ≤ i → i < k + 2 → KeptRead s at command i) → le16_at t (to + k) ≡ le16_at s (at + k)
  kept-16 k h p = same-16 s (at + k) t (to + k) ((kept-bytes m) k 2 h p)

  pub kept-32 : (k : ℕ) → k + 4 ≤ block_size s at → ((i : ℕ) → k ≤ i → i < k + 4 → KeptRead s at command i) → le32_at t (to + k) ≡ le32_at s (at + k)
  kept-32 k h p = same-32 s (at + k) t (to + k) ((kept-bytes m) k 4 h p)

  -- a byte of the words that is looked at, behind the AndX words and before the DataOffset
  pub front_kept : (k : ℕ) → 5 ≤ k → k < 23 → at + k < byte_area s at → (UnreadWord command k → ⊥) → KeptRead s at command k
  front_kept k a b h n = (kept-front a b, λ u. n (in_words (λ _ _. a) h u))

  -- a number of two bytes, and one of four, there
  pub front-16 : (k : ℕ) → 5 ≤ k → k + 1 < 23 → at + k + 1 < byte_area s at → ((i : ℕ) → k ≤ i → i < k + 2 → UnreadWord command i → ⊥)
      → le16_at t (to + k) ≡ le16_at s (at + k)
  front-16 k a b h n = kept-16 k (omega arith) (λ i p q. front_kept i (omega arith) (omega arith) (omega arith) (n i p q))

  pub front-32 : (k : ℕ) → 5 ≤ k → k + 3 < 23 → at + k + 3 < byte_area s at → ((i : ℕ) → k ≤ i → i < k + 4 → UnreadWord command i → ⊥)
      → le32_at t (to + k) ≡ le32_at s (at + k)
  front-32 k a b h n = kept-32 k (omega arith) (λ i p q. front_kept i (omega arith) (omega arith) (omega arith) (n i p q))

  -- the number of words
  pub moved-words : word_count t to ≡ word_count s at
  moved-words =
      let z : byte_at t (to + 0) ≡ byte_at s (at + 0) =
      m.kept 0 (omega arith) (kept-count, λ u. let w = unread-front (in_words (λ _ l. omega arith) (omega arith) u) in omega arith) in
      rw (add-zero to, add-zero at) at z

  -- the fields of the words, where there are so many words
  pub moved-fid : NamedAndx command → (command ≡ OPEN → ⊥) → 2 ≤ word_count s at → fid_after_andx t to ≡ fid_after_andx s at
  moved-fid a n h = front-16 5 (omega arith) (omega arith) (omega arith) (λ i p q u. let w = unread-fid a n u in omega arith)

  pub moved-kind : command ≡ LOCKING → 3 ≤ word_count s at → lock_type t to ≡ lock_type s at
  moved-kind c h = m.kept 7 (omega arith) (front_kept 7 (omega arith) (omega arith) (omega arith) (λ u. let w = unread-locking c u in omega arith))

  pub moved-unlocks : command ≡ LOCKING → 6 ≤ word_count s at → unlock_count t to ≡ unlock_count s at
  moved-unlocks c h = front-16 13 (omega arith) (omega arith) (omega arith) (λ i p q u. let w = unread-locking c u in omega arith)

  pub moved-locks : command ≡ LOCKING → 7 ≤ word_count s at → lock_count t to ≡ lock_count s at
  moved-locks c h = front-16 15 (omega arith) (omega arith) (omega arith) (λ i p q u. let w = unread-locking c u in omega arith)

  pub moved-low : ((i : ℕ) → i < 11 → UnreadWord command i → ⊥) → 4 ≤ word_count s at → offset_low t to ≡ offset_low s at
  moved-low n h = front-32 7 (omega arith) (omega arith) (omega arith) (λ i p q. n i q)

  pub moved-max : command ≡ READ → 5 ≤ word_count s at → read_max t to ≡ read_max s at
  moved-max c h = front-16 11 (omega arith) (omega arith) (omega arith) (λ i p q u. let w = unread-read c u in omega arith)

  pub moved_length : command ≡ WRITE → 10 ≤ word_count s at → data_length t to ≡ data_length s at
  moved_length c h = front-16 21 (omega arith) (omega arith) (omega arith) (λ i p q u. let w = unread-write c u in omega arith)

  pub moved-flags : command ≡ OPEN → 15 ≤ word_count s at → open_flags t to ≡ open_flags s at
  moved-flags c h = m.kept 5 (omega arith) (front_kept 5 (omega arith) (omega arith) (omega arith) (λ u. (open-looked c u).0 refl))

  pub moved-access : command ≡ OPEN → 15 ≤ word_count s at → access_mode t to ≡ access_mode s at
  moved-access c h = m.kept 7 (omega arith) (front_kept 7 (omega arith) (omega arith) (omega arith) (λ u. (open-looked c u).1 refl))

  pub moved-mode : command ≡ OPEN → 15 ≤ word_count s at → open_mode t to ≡ open_mode s at
  moved-mode c h = front-16 17 (omega arith) (omega arith) (omega arith) (λ i p q u. let a = (open-looked c u).2 in let b = (open-looked c u).3 in omega (arith, a, b))

  -- a byte of the words that is looked at, of a request not named ANDX
  pub plain-kept : Plain command → (k : ℕ) → at + k < byte_area s at → (UnreadWord command k → ⊥) → KeptRead s at command k
  plain-kept p k h n = (kept-plain p, λ u. n (in_words (λ a _. absurd (plain-not-andx p a)) h u))

  pub moved-first-fid : Plain command → first_fid t to ≡ first_fid s at
  moved-first-fid p = kept-16 1 (omega arith) (λ i _ q. plain-kept p i (omega arith) (λ u. let w = unread-front u in omega arith))

  module _ (p : Plain command) (a : CORE-READ ≤ command) (b : command < PROCESS_EXIT) (w : word_count s at ≡ 5) where
    pub core-kept : (k : ℕ) → k < 9 → KeptRead s at command k
    core-kept k l = plain-kept p k (omega arith) (λ u. let v = unread-core a b u in omega arith)

    pub moved-core-count : core_count t to ≡ core_count s at
    moved-core-count = kept-16 3 (omega arith) (λ i _ q. core-kept i (omega arith))

    pub moved-core-offset : core_offset t to ≡ core_offset s at
    moved-core-offset = kept-32 5 (omega arith) (λ i _ q. core-kept i (omega arith))

    pub moved-range-count : range_length t to ≡ range_length s at
    moved-range-count = kept-32 3 (omega arith) (λ i _ q. core-kept i (omega arith))

    pub moved-range-offset : ((k : ℕ) → UnreadWord command k → ⊥) → range_offset t to ≡ range_offset s at
    moved-range-offset n = kept-32 7 (omega arith) (λ i _ q. plain-kept p i (omega arith) (n i))

  -- the whole offset of a READ block
  pub moved-read-offset : command ≡ READ → 4 ≤ word_count s at
      → wide_offset (offset_low t to) (read_offset_high t to) (eqb (word_count t to) 12)
      ≡ wide_offset (offset_low s at) (read_offset_high s at) (eqb (word_count s at) 12)
  moved-read-offset c h =
      rw moved-words
      (wide-same (offset_low t to) (offset_low s at) (read_offset_high t to) (read_offset_high s at) (eqb (word_count s at) 12)
      (moved-low (λ i l u. let w = unread-read c u in omega arith) h)
      (λ e. let w : word_count s at ≡ 12 = eqb-true (word_count s at) 12 e in
      kept-32 21 (omega arith)
      (λ i p q. (kept-not-write {k = i} (λ f. omega arith) (omega arith), λ u. let v = unread-read c (in_words (λ _ _. omega arith) (omega arith) u) in omega arith))))

  -- the whole offset of a WRITE block
  pub moved-write-offset : command ≡ WRITE → 4 ≤ word_count s at
      → wide_offset (offset_low t to) (write_offset_high t to) (eqb (word_count t to) 14)
      ≡ wide_offset (offset_low s at) (write_offset_high s at) (eqb (word_count s at) 14)
  moved-write-offset c h =
      rw moved-words
      (wide-same (offset_low t to) (offset_low s at) (write_offset_high t to) (write_offset_high s at) (eqb (word_count s at) 14)
      (moved-low (λ i l u. let w = unread-write c u in omega arith) h)
      (λ e. let w : word_count s at ≡ 14 = eqb-true (word_count s at) 14 e in
      kept-32 25 (omega arith)
      (λ i p q. (kept-behind {k = i} (omega arith), λ u. let v = unread-write c (in_words (λ _ _. omega arith) (omega arith) u) in omega arith))))

  module _ (h : IsBlock s at command) where
    -- ByteCount
    pub count_kept : (k : ℕ) → 1 + 2 * word_count s at ≤ k → k < 3 + 2 * word_count s at → KeptRead s at command k
    count_kept k p q = (
      bytes-kept h k p,
      λ u. let w = unread-before-count h (in_words (λ a _. let n = andx-words h a in omega arith) (omega arith) u) in omega arith,
    )

    -- the number of bytes
    pub moved-count : byte_count t to ≡ byte_count s at
    moved-count =
        let e : to + 1 + 2 * word_count s at ≡ to + (1 + 2 * word_count s at) = omega arith in
        let f : at + 1 + 2 * word_count s at ≡ at + (1 + 2 * word_count s at) = omega arith in
        let g : le16_at t (to + (1 + 2 * word_count s at)) ≡ le16_at s (at + (1 + 2 * word_count s at)) =
        kept-16 (1 + 2 * word_count s at) (omega arith) (λ i p q. count_kept i p (omega arith)) in
        rw (moved-words, e, g, f)

    -- where its bytes start
    pub moved-area : byte_area t to + at ≡ byte_area s at + to
    moved-area = let e = moved-words in omega arith

    -- where the block ends
    pub moved-end : block_end t to ≡ to + block_size s at
    moved-end = let e = moved-words in let f = moved-count in omega arith

    -- the same length
    pub moved-size : block_size t to ≡ block_size s at
    moved-size = let e = moved-end in omega arith

    -- its bytes that are looked at, one by one
    pub moved-bytes : (k : ℕ) → k < byte_count s at → (Unread s at command (3 + 2 * word_count s at + k) → ⊥) → byte_at t (byte_area t to + k) ≡ byte_at s (byte_area s at + k)
    moved-bytes k l n =
        let e : to + 3 + 2 * word_count s at + k ≡ to + (3 + 2 * word_count s at + k) = omega arith in
        let f : at + 3 + 2 * word_count s at + k ≡ at + (3 + 2 * word_count s at + k) = omega arith in
        let g : byte_at t (to + (3 + 2 * word_count s at + k)) ≡ byte_at s (at + (3 + 2 * word_count s at + k)) =
        m.kept (3 + 2 * word_count s at + k) (omega arith) (bytes-kept h (3 + 2 * word_count s at + k) (omega arith), n) in
        rw (moved-words, e, g, f)

    -- the same shape, inside the other message
    pub moved-shape : {words : ℕ} → Shape s at words → Shape t to words
    moved-shape shape =
        let e = moved-end in
        let i = m.inside in
        record { counted = moved-words ∙ shape.counted; inside = omega arith }

    pub moved-bare : {words : ℕ} → Bare s at words → Bare t to words
    moved-bare b = record { shape = moved-shape b.shape; empty = moved-count ∙ b.empty }

    -- the same ranges
    pub moved-ranges : {size : ℕ} → command ≡ LOCKING → Ranges s at size → Ranges t to size
    moved-ranges {size} c r =
        let w : word_count s at ≡ 8 = r.shape.counted in
        let u : unlock_count t to ≡ unlock_count s at = moved-unlocks c (omega arith) in
        let l : lock_count t to ≡ lock_count s at = moved-locks c (omega arith) in
        record { shape = moved-shape r.shape; announced = moved-count ∙ rw (u, l) r.announced }

    -- the data inside the bytes again
    pub moved-data : {words : ℕ} → command ≡ WRITE → 10 ≤ words → Data s at words → Data t to words
    moved-data c w d =
        let n : 10 ≤ word_count s at = rw d.shape.counted w in
        let l : data_length t to ≡ data_length s at = moved_length c n in
        let o : data_offset t to + at ≡ data_offset s at + to = m.data-moved c in
        let a : byte_area t to + at ≡ byte_area s at + to = moved-area in
        let e : block_end t to ≡ to + block_size s at = moved-end in
        let b : byte_area s at ≤ data_offset s at = d.starts in
        let f : data_offset s at + data_length s at ≤ block_end s at = d.ends in
        record { shape = moved-shape d.shape; starts = omega arith; ends = omega arith }

    -- the data block again
    pub moved-marked : command ≡ CORE-WRITE → MarkedData s at → MarkedData t to
    moved-marked c d =
        let w : word_count s at ≡ 5 = d.shape.counted in
        let n : core_count t to ≡ core_count s at = moved-core-count (rw c core-write-plain) (omega arith) (omega arith) w in
        let f : byte_count s at ≡ 3 + core_count s at = d.filled in
        let look : (k : ℕ) → k < 3 → byte_at t (byte_area t to + k) ≡ byte_at s (byte_area s at + k) =
        λ k l. moved-bytes k (omega arith) (marked-looked c (omega arith)) in
        let mark : data_mark t to ≡ data_mark s at = rw (add-zero (byte_area t to), add-zero (byte_area s at)) at (look 0 (omega arith)) in
        let long : marked_length t to ≡ marked_length s at =
        same-16 s (byte_area s at + 1) t (byte_area t to + 1)
        (λ j l.
        let e : byte_area t to + 1 + j ≡ byte_area t to + (1 + j) = omega arith in
        let g : byte_area s at + 1 + j ≡ byte_area s at + (1 + j) = omega arith in
        rw (e, g) (look (1 + j) (omega arith))) in
        record { shape = moved-shape d.shape; marked = mark ∙ d.marked; agreed = rw (long, n) d.agreed; filled = rw (moved-count, n) d.filled }

    -- the name and its zero byte again
    pub moved-name : command ≡ OPEN → Name s at → Name t to
    moved-name c d =
        let w : word_count s at ≡ 15 = d.shape.counted in
        let look : (k : ℕ) → k < byte_count s at → area_byte t to k ≡ area_byte s at k =
        λ k l. moved-bytes k l (name-looked c (omega arith)) in
        let some = d.some in
        record {
          shape = moved-shape d.shape;
          some = rw moved-count d.some;
          ends = rw moved-count (look (byte_count s at - 1) (omega arith) ∙ d.ends);
          only = λ k l z. let i : k + 1 < byte_count s at = rw moved-count at l in d.only k i (rw (look k (omega arith)) at z);
        }

-- "each block in turn makes a message ..., then the block at 32": a block that moved is a block by the same row of the table
pub moved-block : {s : List ℕ} {at : ℕ} {t : List ℕ} {to command : ℕ} → IsBlock s at command → Moved s at t to command → IsBlock t to command
moved-block {s} {at} (locking-10 p h) m =
    let w : 3 ≤ word_count s at = omega arith in
    locking-10 (rw (moved-kind m refl w) p) (moved-ranges m (locking-10 p h) refl h)
moved-block {s} {at} (locking-20 p h) m =
    let w : 3 ≤ word_count s at = omega arith in
    locking-20 (rw (moved-kind m refl w) p) (moved-ranges m (locking-20 p h) refl h)
moved-block (read-10 h) m = read-10 (moved-bare m (read-10 h) h)
moved-block (read-12 h) m = read-12 (moved-bare m (read-12 h) h)
moved-block (write-12 h) m = write-12 (moved-data m (write-12 h) refl (omega arith) h)
moved-block (write-14 h) m = write-14 (moved-data m (write-14 h) refl (omega arith) h)
moved-block (close h) m = close (moved-bare m (close h) h)
moved-block (logoff h) m = logoff (moved-bare m (logoff h) h)
moved-block (tree-disconnect h) m = tree-disconnect (moved-bare m (tree-disconnect h) h)
moved-block (process-exit h) m = process-exit (moved-bare m (process-exit h) h)
moved-block (core-read h) m = core-read (moved-bare m (core-read h) h)
moved-block (core-write h) m = core-write (moved-marked m (core-write h) refl h)
moved-block (lock-byte-range h) m = lock-byte-range (moved-bare m (lock-byte-range h) h)
moved-block (unlock-byte-range h) m = unlock-byte-range (moved-bare m (unlock-byte-range h) h)
moved-block (open-15 h) m = open-15 (moved-name m (open-15 h) refl h)

-- a LOCKING block's fields
pub moved-locking-body : {s : List ℕ} {at : ℕ} {t : List ℕ} {to : ℕ} → word_count s at ≡ 8 → Moved s at t to LOCKING
    → body_at t LOCKING to ≡ moved_body at to (body_at s LOCKING at)
unfolding body_at moved_body
moved-locking-body w m =
    rw (moved-fid m locking-andx (λ e. omega arith) (omega arith), moved-kind m refl (omega arith), moved-unlocks m refl (omega arith), moved-locks m refl (omega arith))

-- a READ block's
pub moved-read-body : {s : List ℕ} {at : ℕ} {t : List ℕ} {to : ℕ} → 10 ≤ word_count s at → Moved s at t to READ
    → body_at t READ to ≡ moved_body at to (body_at s READ at)
unfolding body_at moved_body
moved-read-body w m = rw (moved-fid m read-andx (λ e. omega arith) (omega arith), moved-read-offset m refl (omega arith), moved-max m refl (omega arith))

-- a WRITE block's, with the data's place moved
pub moved-write-body : {s : List ℕ} {at : ℕ} {t : List ℕ} {to words : ℕ} → 12 ≤ word_count s at → Data s at words → Moved s at t to WRITE
    → body_at t WRITE to ≡ moved_body at to (body_at s WRITE at)
unfolding body_at moved_body
moved-write-body {s} {at} {t} {to} w d m =
    let o : data_offset t to + at ≡ data_offset s at + to = m.data-moved refl in
    let b : byte_area s at ≤ data_offset s at = d.starts in
    let e : data_offset t to ≡ data_offset s at + to - at = omega arith in
    rw (moved-fid m write-andx (λ e. omega arith) (omega arith), moved-write-offset m refl (omega arith), moved_length m refl (omega arith), e)

-- a CLOSE block's
pub moved-close-body : {s : List ℕ} {at : ℕ} {t : List ℕ} {to : ℕ} → Moved s at t to CLOSE → body_at t CLOSE to ≡ moved_body at to (body_at s CLOSE at)
unfolding body_at moved_body
moved-close-body m = rw (moved-first-fid m close-plain)

-- a core READ's and WRITE's, with the data's place moved
pub moved-core-read-body : {s : List ℕ} {at : ℕ} {t : List ℕ} {to : ℕ} → word_count s at ≡ 5 → Moved s at t to CORE-READ
    → body_at t CORE-READ to ≡ moved_body at to (body_at s CORE-READ at)
unfolding body_at moved_body
moved-core-read-body w m =
    rw (moved-first-fid m core-read-plain, moved-core-offset m core-read-plain (omega arith) (omega arith) w, moved-core-count m core-read-plain (omega arith) (omega arith) w)

pub moved-core-write-body : {s : List ℕ} {at : ℕ} {t : List ℕ} {to : ℕ} → word_count s at ≡ 5 → Moved s at t to CORE-WRITE
    → body_at t CORE-WRITE to ≡ moved_body at to (body_at s CORE-WRITE at)
unfolding body_at moved_body
moved-core-write-body {s} {at} {t} {to} w m =
    let n = moved-words m in
    let e : to + 3 + 2 * word_count t to + 3 ≡ at + 3 + 2 * word_count s at + 3 + to - at = omega arith in
    rw (e, moved-first-fid m core-write-plain, moved-core-offset m core-write-plain (omega arith) (omega arith) w, moved-core-count m core-write-plain (omega arith) (omega arith) w)

-- the one range of a LOCK_BYTE_RANGE or UNLOCK_BYTE_RANGE
pub moved-range : {s : List ℕ} {at : ℕ} {t : List ℕ} {to command : ℕ} → Plain command → LOCK_BYTE_RANGE ≤ command → command ≤ UNLOCK_BYTE_RANGE → word_count s at ≡ 5
    → Moved s at t to command → range_fields t to ≡ range_fields s at
moved-range p a b w m =
    rw (moved-first-fid m p, moved-range-offset m p (omega arith) (omega arith) w (λ k u. range-read a b u), moved-range-count m p (omega arith) (omega arith) w)

-- an OPEN block's
pub moved-open-body : {s : List ℕ} {at : ℕ} {t : List ℕ} {to : ℕ} → word_count s at ≡ 15 → Moved s at t to OPEN → body_at t OPEN to ≡ moved_body at to (body_at s OPEN at)
unfolding body_at moved_body
moved-open-body w m = rw (moved-flags m refl (omega arith), moved-access m refl (omega arith), moved-mode m refl (omega arith))

-- the fields that the reader yields are the same, and those of a WRITE block with the data's place moved
pub moved-body : {s : List ℕ} {at : ℕ} {t : List ℕ} {to command : ℕ} → IsBlock s at command → Moved s at t to command
    → body_at t command to ≡ moved_body at to (body_at s command at)
unfolding body_at moved_body
moved-body (locking-10 p h) m = moved-locking-body h.shape.counted m
moved-body (locking-20 p h) m = moved-locking-body h.shape.counted m
moved-body (read-10 h) m = moved-read-body (omega arith) m
moved-body (read-12 h) m = moved-read-body (omega arith) m
moved-body (write-12 h) m = moved-write-body (omega arith) h m
moved-body (write-14 h) m = moved-write-body (omega arith) h m
moved-body (close h) m = moved-close-body m
moved-body (logoff h) m = refl
moved-body (tree-disconnect h) m = refl
moved-body (process-exit h) m = refl
moved-body (core-read h) m = moved-core-read-body h.shape.counted m
moved-body (core-write h) m = moved-core-write-body h.shape.counted m
moved-body (lock-byte-range h) m = ap LockByteRange (moved-range lock-byte-range-plain (omega arith) (omega arith) h.shape.counted m)
moved-body (unlock-byte-range h) m = ap UnlockByteRange (moved-range unlock-byte-range-plain (omega arith) (omega arith) h.shape.counted m)
moved-body (open-15 h) m = moved-open-body h.shape.counted m
