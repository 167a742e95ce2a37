-- The reader's tests of a block are the rows of the table.
-- Assumes nothing.
use Rattle.std.specs.Prelude.{◌≡◌, ◌↔◌, ℕ, zero, suc, ◌+◌, ◌-◌, ◌*◌, ◌/◌, ◌%◌, ◌≤◌, ◌<◌, Bool, cond, ◌||◌, List, [], ◌∷◌, drop, leb, eqb}
use Rattle.std.proofs.Common.{◌∙◌, arith, length-drop, length-take-le, get_or-take, get_or-drop}
use Rattle.std.proofs.Math.Bool.{true, false}
use Rattle.std.proofs.lemmas.Bool.{false≢true}
use Rattle.std.proofs.Math.ListN.{length, get_or}
use borrow.Author.Tests.{eqb-true, eqb-false, leb-true, eq-eqb, le-leb, ne_eqb}
use Rattle.lists.specs.Truth.{both_hold, hold-both, holds-first, holds-second, test-cases, either-cases, choice-cases}
use Rattle.locks.specs.Wire.{range_size}
use Rattle.chain.specs.Layout.{CLOSE, LOCKING, READ, WRITE, LOGOFF, CORE-READ, CORE-WRITE, LOCK_BYTE_RANGE, UNLOCK_BYTE_RANGE, OPEN, word_count, byte_area, byte_count, block_end, area_byte, lock_type, unlock_count, lock_count, data_length, data_offset, core_count, data_mark, marked_length}
use Rattle.chain.specs.Grammar.{Shape, Bare, Ranges, Data, MarkedData, Name, IsBlock, locking-10, locking-20, read-10, read-12, write-12, write-14, close, logoff, tree-disconnect, process-exit, core-read, core-write, lock-byte-range, unlock-byte-range, open-15, NamedAndx, locking-andx, read-andx, write-andx, logoff-andx, open-andx, Plain, close-plain, tree-disconnect-plain, process-exit-plain, core-read-plain, core-write-plain, lock-byte-range-plain, unlock-byte-range-plain}
use Rattle.chain.specs.Parse.{shaped, bare, is_large, locking_fits, read_fits, data_inside, write_fits, core_write_fits, terminated, bytes_at, open_fits}

-- the requests served: those named ANDX and the others
pub data Served : ℕ → Type 0 where
  plain : {command : ℕ} → Plain command → Served command
  andx : {command : ℕ} → NamedAndx command → Served command

-- the test of a block by its command; that of the AndX words stands apart
unfoldable pub fits : List ℕ → ℕ → ℕ → Bool
fits s command at =
    cond (eqb command LOCKING) (locking_fits s at)
    (cond (eqb command READ) (read_fits s at)
    (cond (eqb command WRITE) (write_fits s at)
    (cond (eqb command CLOSE) (bare s at 3)
    (cond (eqb command LOGOFF) (bare s at 2)
    (cond (eqb command CORE-READ) (bare s at 5)
    (cond (eqb command CORE-WRITE) (core_write_fits s at)
    (cond (eqb command LOCK_BYTE_RANGE) (bare s at 5)
    (cond (eqb command UNLOCK_BYTE_RANGE) (bare s at 5)
    (cond (eqb command OPEN) (open_fits s at)
    (bare s at 0))))))))))

-- ---- bytes that end with their first zero byte

pub record Ended (bytes : List ℕ) : Type 0 where
  pub some : 1 ≤ length bytes
  pub last : get_or bytes (length bytes - 1) 0 ≡ 0
  pub before : (k : ℕ) → k + 1 < length bytes → get_or bytes k 0 ≡ 0 → ⊥

ended_here : (x : ℕ) (xs : List ℕ) → x ≡ 0 → length xs ≡ 0 → Ended (x ∷ xs)
ended_here x [] e n = record { some = omega arith; last = e; before = λ k h z. omega arith }
ended_here x (y ∷ ys) e n = absurd (omega arith)

ended-more : (x : ℕ) (xs : List ℕ) → (x ≡ 0 → ⊥) → Ended xs → Ended (x ∷ xs)
ended-more x [] n e = let z : 1 ≤ 0 = e.some in absurd (omega arith)
ended-more x (y ∷ ys) n e =
    let i : length (x ∷ y ∷ ys) - 1 ≡ suc (length (y ∷ ys) - 1) = omega arith in
    record { some = omega arith; last = rw i e.last; before = each }
  where
    each : (k : ℕ) → k + 1 < length (x ∷ y ∷ ys) → get_or (x ∷ y ∷ ys) k 0 ≡ 0 → ⊥
    each zero h z = n z
    each (suc k) h z = e.before k (omega arith) z

pub terminated-sound : (bytes : List ℕ) → terminated bytes ≡ true → Ended bytes
unfolding terminated
terminated-sound [] e = absurd (false≢true e)
terminated-sound (x ∷ xs) e =
    choice-cases (eqb x 0) (eqb (length xs) 0) (terminated xs) true e
    (λ p q. ended_here x xs (eqb-true x 0 p) (eqb-true (length xs) 0 q))
    (λ p q. ended-more x xs (eqb-false x 0 p) (terminated-sound xs q))

pub terminated-complete : (bytes : List ℕ) → Ended bytes → terminated bytes ≡ true
unfolding terminated
terminated-complete [] e = let z : 1 ≤ 0 = e.some in absurd (omega arith)
terminated-complete (x ∷ []) e = let z : x ≡ 0 = e.last in rw (eq-eqb x 0 z)
terminated-complete (x ∷ (y ∷ ys)) e =
    let n : x ≡ 0 → ⊥ = e.before 0 (omega arith) in
    let i : length (x ∷ y ∷ ys) - 1 ≡ suc (length (y ∷ ys) - 1) = omega arith in
    rw (ne_eqb x 0 n)
    (terminated-complete (y ∷ ys) (record { some = omega arith; last = rw i at e.last; before = λ k h z. e.before (suc k) (omega arith) z }))

module _ (s : List ℕ) (at : ℕ) where
  -- "A block is WordCount, the words, ByteCount, the bytes, all inside the message"
  pub shaped-sound : (words : ℕ) → shaped s at words ≡ true → Shape s at words
  unfolding shaped
  shaped-sound words e =
      let h = both_hold (eqb (word_count s at) words) (leb (block_end s at) (length s)) e in
      record { counted = eqb-true (word_count s at) words h.0; inside = leb-true (block_end s at) (length s) h.1 }

  pub shaped-complete : (words : ℕ) → Shape s at words → shaped s at words ≡ true
  unfolding shaped
  shaped-complete words h =
      hold-both (eqb (word_count s at) words) (leb (block_end s at) (length s)) (eq-eqb (word_count s at) words h.counted)
      (le-leb (block_end s at) (length s) h.inside)

  -- the rows with 0 bytes, over their word count
  pub bare-sound : (words : ℕ) → bare s at words ≡ true → Bare s at words
  unfolding bare
  bare-sound words e =
      let h = both_hold (shaped s at words) (eqb (byte_count s at) 0) e in
      record { shape = shaped-sound words h.0; empty = eqb-true (byte_count s at) 0 h.1 }

  pub bare-complete : (words : ℕ) → Bare s at words → bare s at words ≡ true
  unfolding bare
  bare-complete words h =
      hold-both (shaped s at words) (eqb (byte_count s at) 0) (shaped-complete words h.shape) (eq-eqb (byte_count s at) 0 h.empty)

  -- "(unlocks + locks) × 10, or × 20 with type bit 0x10"
  ranges-sound : (large : Bool) → shaped s at 8 ≡ true
      → eqb (byte_count s at) ((unlock_count s at + lock_count s at) * range_size large) ≡ true → Ranges s at (range_size large)
  ranges-sound large p q =
      record {
        shape = shaped-sound 8 p;
        announced = eqb-true (byte_count s at) ((unlock_count s at + lock_count s at) * range_size large) q;
      }

  ranges-complete : (large : Bool) → is_large (lock_type s at) ≡ large → Ranges s at (range_size large) → locking_fits s at ≡ true
  unfolding locking_fits
  ranges-complete large p h =
      rw p
      (hold-both (shaped s at 8) (eqb (byte_count s at) ((unlock_count s at + lock_count s at) * range_size large)) (shaped-complete 8 h.shape)
      (eq-eqb (byte_count s at) ((unlock_count s at + lock_count s at) * range_size large) h.announced))

  -- a lock type without bit 0x10
  small-bit : is_large (lock_type s at) ≡ false → lock_type s at / 16 % 2 ≡ 0
  unfolding is_large
  small-bit e =
      let other : lock_type s at / 16 % 2 ≡ 1 → ⊥ = eqb-false (lock_type s at / 16 % 2) 1 e in
      omega (arith, other)

  pub locking-sound : locking_fits s at ≡ true → IsBlock s at LOCKING
  unfolding locking_fits is_large range_size
  locking-sound e =
      let h = both_hold (shaped s at 8) (eqb (byte_count s at) ((unlock_count s at + lock_count s at) * range_size (is_large (lock_type s at)))) e in
      test-cases (is_large (lock_type s at))
      (λ p. locking-20 (eqb-true (lock_type s at / 16 % 2) 1 p) (ranges-sound true h.0 (rw p at h.1)))
      (λ p. locking-10 (small-bit p) (ranges-sound false h.0 (rw p at h.1)))

  -- READ: 10 or 12 words
  pub read-sound : read_fits s at ≡ true → IsBlock s at READ
  unfolding read_fits
  read-sound e = either-cases (bare s at 10) (bare s at 12) e (λ p. read-10 (bare-sound 10 p)) (λ p. read-12 (bare-sound 12 p))

  -- "DataOffset is not before the byte area and DataOffset + DataLength not past its end"
  data-sound : (words : ℕ) → shaped s at words ≡ true → data_inside s at ≡ true → Data s at words
  unfolding data_inside
  data-sound words p q =
      let h = both_hold (leb (byte_area s at) (data_offset s at)) (leb (data_offset s at + data_length s at) (block_end s at)) q in
      record {
        shape = shaped-sound words p;
        starts = leb-true (byte_area s at) (data_offset s at) h.0;
        ends = leb-true (data_offset s at + data_length s at) (block_end s at) h.1;
      }

  data-inside : {words : ℕ} → Data s at words → data_inside s at ≡ true
  unfolding data_inside
  data-inside h =
      hold-both (leb (byte_area s at) (data_offset s at)) (leb (data_offset s at + data_length s at) (block_end s at))
      (le-leb (byte_area s at) (data_offset s at) h.starts) (le-leb (data_offset s at + data_length s at) (block_end s at) h.ends)

  -- WRITE: 12 or 14 words
  pub write-sound : write_fits s at ≡ true → IsBlock s at WRITE
  unfolding write_fits
  write-sound e =
      let h = both_hold (shaped s at 12 || shaped s at 14) (data_inside s at) e in
      either-cases (shaped s at 12) (shaped s at 14) h.0 (λ p. write-12 (data-sound 12 p h.1)) (λ p. write-14 (data-sound 14 p h.1))

  -- the core WRITE: "a data block not marked 0x01 or whose lengths disagree is 2/1"
  marked-sound : core_write_fits s at ≡ true → MarkedData s at
  unfolding core_write_fits
  marked-sound e =
      let h = both_hold (shaped s at 5) _ e in
      let m = both_hold (eqb (data_mark s at) 1) _ h.1 in
      let l = both_hold (eqb (marked_length s at) (core_count s at)) (eqb (byte_count s at) (3 + core_count s at)) m.1 in
      record {
        shape = shaped-sound 5 h.0;
        marked = eqb-true (data_mark s at) 1 m.0;
        agreed = eqb-true (marked_length s at) (core_count s at) l.0;
        filled = eqb-true (byte_count s at) (3 + core_count s at) l.1;
      }

  marked-complete : MarkedData s at → core_write_fits s at ≡ true
  unfolding core_write_fits
  marked-complete h =
      rw (shaped-complete 5 h.shape, eq-eqb (data_mark s at) 1 h.marked, eq-eqb (marked_length s at) (core_count s at) h.agreed, eq-eqb (byte_count s at) (3 + core_count s at) h.filled)

  -- OPEN_ANDX: "a name of any length, even none, without zero bytes, then one zero byte"
  length-bytes : block_end s at ≤ length s → length (bytes_at s at) ≡ byte_count s at
  length-bytes inside = length-take-le (byte_count s at) (drop (byte_area s at) s) (rw (length-drop (byte_area s at) s) (omega arith))

  byte-at : (k : ℕ) → k < byte_count s at → get_or (bytes_at s at) k 0 ≡ area_byte s at k
  byte-at k h = get_or-take (byte_count s at) (drop (byte_area s at) s) k 0 h ∙ get_or-drop (byte_area s at) s k 0

  pub name-sound : open_fits s at ≡ true → Name s at
  unfolding open_fits
  name-sound e =
      let h = both_hold (shaped s at 15) (terminated (bytes_at s at)) e in
      let sh = shaped-sound 15 h.0 in
      let n : length (bytes_at s at) ≡ byte_count s at = length-bytes sh.inside in
      let t = terminated-sound (bytes_at s at) h.1 in
      let some : 1 ≤ byte_count s at = rw n at t.some in
      record {
        shape = sh;
        some = some;
        ends = let z : get_or (bytes_at s at) (byte_count s at - 1) 0 ≡ 0 = rw n at t.last in rw (byte-at (byte_count s at - 1) (omega arith)) at z;
        only = λ k i z. t.before k (rw n i) (byte-at k (omega arith) ∙ z);
      }

  pub name-complete : Name s at → open_fits s at ≡ true
  unfolding open_fits
  name-complete h =
      let n : length (bytes_at s at) ≡ byte_count s at = length-bytes h.shape.inside in
      hold-both (shaped s at 15) (terminated (bytes_at s at)) (shaped-complete 15 h.shape)
      (terminated-complete (bytes_at s at)
      (record {
        some = rw n h.some;
        last = rw n (let some = h.some in byte-at (byte_count s at - 1) (omega arith) ∙ h.ends);
        before = λ k i z. let j : k + 1 < byte_count s at = rw n at i in h.only k j (rw (byte-at k (omega arith)) at z);
      }))

  -- the test of a request served finds a block of the table
  pub fits-sound : {command : ℕ} → Served command → fits s command at ≡ true → IsBlock s at command
  unfolding fits
  fits-sound (plain close-plain) e = close (bare-sound 3 e)
  fits-sound (plain tree-disconnect-plain) e = tree-disconnect (bare-sound 0 e)
  fits-sound (plain process-exit-plain) e = process-exit (bare-sound 0 e)
  fits-sound (plain core-read-plain) e = core-read (bare-sound 5 e)
  fits-sound (plain core-write-plain) e = core-write (marked-sound e)
  fits-sound (plain lock-byte-range-plain) e = lock-byte-range (bare-sound 5 e)
  fits-sound (plain unlock-byte-range-plain) e = unlock-byte-range (bare-sound 5 e)
  fits-sound (andx locking-andx) e = locking-sound e
  fits-sound (andx read-andx) e = read-sound e
  fits-sound (andx write-andx) e = write-sound e
  fits-sound (andx logoff-andx) e = logoff (bare-sound 2 e)
  fits-sound (andx open-andx) e = open-15 (name-sound e)

  -- and every block of the table passes it
  pub fits-complete : {command : ℕ} → IsBlock s at command → fits s command at ≡ true
  unfolding fits locking_fits is_large read_fits write_fits range_size
  fits-complete (locking-10 p h) = ranges-complete false (ne_eqb (lock_type s at / 16 % 2) 1 (omega arith)) h
  fits-complete (locking-20 p h) = ranges-complete true (eq-eqb (lock_type s at / 16 % 2) 1 p) h
  fits-complete (read-10 h) = holds-first (bare s at 10) (bare s at 12) (bare-complete 10 h)
  fits-complete (read-12 h) = holds-second (bare s at 10) (bare s at 12) (bare-complete 12 h)
  fits-complete (write-12 h) =
      hold-both (shaped s at 12 || shaped s at 14) (data_inside s at)
      (holds-first (shaped s at 12) (shaped s at 14) (shaped-complete 12 h.shape)) (data-inside h)
  fits-complete (write-14 h) =
      hold-both (shaped s at 12 || shaped s at 14) (data_inside s at)
      (holds-second (shaped s at 12) (shaped s at 14) (shaped-complete 14 h.shape)) (data-inside h)
  fits-complete (close h) = bare-complete 3 h
  fits-complete (logoff h) = bare-complete 2 h
  fits-complete (tree-disconnect h) = bare-complete 0 h
  fits-complete (process-exit h) = bare-complete 0 h
  fits-complete (core-read h) = bare-complete 5 h
  fits-complete (core-write h) = marked-complete h
  fits-complete (lock-byte-range h) = bare-complete 5 h
  fits-complete (unlock-byte-range h) = bare-complete 5 h
  fits-complete (open-15 h) = name-complete h

  -- so each test is its rows of the table, no more and no less
  pub bare-exact : (words : ℕ) → (bare s at words ≡ true) ↔ Bare s at words
  bare-exact words = (bare-sound words, bare-complete words)

  pub locking-exact : (locking_fits s at ≡ true) ↔ IsBlock s at LOCKING
  unfolding fits
  locking-exact = (locking-sound, fits-complete)

  pub read-exact : (read_fits s at ≡ true) ↔ IsBlock s at READ
  unfolding fits
  read-exact = (read-sound, fits-complete)

  pub write-exact : (write_fits s at ≡ true) ↔ IsBlock s at WRITE
  unfolding fits
  write-exact = (write-sound, fits-complete)

  pub core-write-exact : (core_write_fits s at ≡ true) ↔ MarkedData s at
  core-write-exact = (marked-sound, marked-complete)

  pub open-exact : (open_fits s at ≡ true) ↔ Name s at
  open-exact = (name-sound, name-complete)

  pub fits-exact : {command : ℕ} → Served command → (fits s command at ≡ true) ↔ IsBlock s at command
  fits-exact served = (fits-sound served, fits-complete)
