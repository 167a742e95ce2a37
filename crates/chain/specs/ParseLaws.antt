-- Laws of the reader of one block: a block that it yields stands inside the message, and its follower not before its end.
-- Assumes nothing.
use Rattle.std.specs.Prelude.{◌≡◌, refl, ℕ, ◌+◌, ◌*◌, ◌≤◌, ◌<◌, Bool, true, false, cond, ◌&&◌, ◌||◌, List, leb, None as End, Some as Whole, None as Malformed}
use native.Mathlib.Omega.{arith}
use Rattle.std.proofs.Math.Bool.{and-false}
use Rattle.std.proofs.Math.ListN.{length}
use Rattle.std.proofs.Math.Dec.{eqb}
use borrow.Author.Tests.{leb-true, eqb-true, lt-leb}
use Rattle.lists.specs.Truth.{both_hold, either-cases}
use Rattle.wire.specs.LittleEndian.{byte_at, le16_at}
use Rattle.locks.specs.Wire.{range_size}
use Rattle.chain.specs.Layout.{CORE-WRITE, NO_COMMAND, word_count, byte_count, block_end, andx_command, andx_offset, lock_type, unlock_count, lock_count, core_count, data_mark, marked_length}
use Rattle.chain.specs.Parse.{shaped, bare, is_large, locking_fits, read_fits, data_inside, write_fits, may_follow, link_fits, link_at, answer, core_write_fits, terminated, bytes_at, open_fits, parse_bare, parse_core_write}
use Rattle.chain.specs.declared.block.Body.{Body}
use Rattle.chain.specs.Next.{Next, Follow, same-place}
use Rattle.chain.specs.declared.block.Block.{Block}

module _ (s : List ℕ) (at : ℕ) where
  -- past the end stands no block
  pub shaped-past : (words : ℕ) → length s ≤ at → shaped s at words ≡ false
  unfolding shaped
  shaped-past words h =
      let past : length s < block_end s at = omega arith in
      rw (lt-leb (block_end s at) (length s) past, and-false)

  pub shaped-words : (words : ℕ) → shaped s at words ≡ true → word_count s at ≡ words
  unfolding shaped
  shaped-words words e = eqb-true (word_count s at) words (both_hold (eqb (word_count s at) words) (leb (block_end s at) (length s)) e).0

  -- a block that fits ends inside the message
  pub shaped-inside : (words : ℕ) → shaped s at words ≡ true → block_end s at ≤ length s
  unfolding shaped
  shaped-inside words e = leb-true (block_end s at) (length s) (both_hold (eqb (word_count s at) words) (leb (block_end s at) (length s)) e).1

  pub bare-inside : (words : ℕ) → bare s at words ≡ true → block_end s at ≤ length s
  unfolding bare
  bare-inside words e = shaped-inside words (both_hold (shaped s at words) (eqb (byte_count s at) 0) e).0

  pub bare-words : (words : ℕ) → bare s at words ≡ true → word_count s at ≡ words
  unfolding bare
  bare-words words e = shaped-words words (both_hold (shaped s at words) (eqb (byte_count s at) 0) e).0

  pub locking-inside : locking_fits s at ≡ true → block_end s at ≤ length s
  unfolding locking_fits
  locking-inside e =
      shaped-inside 8
      (both_hold (shaped s at 8) (eqb (byte_count s at) ((unlock_count s at + lock_count s at) * range_size (is_large (lock_type s at)))) e).0

  pub read-inside : read_fits s at ≡ true → block_end s at ≤ length s
  unfolding read_fits
  read-inside e = either-cases (bare s at 10) (bare s at 12) e (bare-inside 10) (bare-inside 12)

  pub write-inside : write_fits s at ≡ true → block_end s at ≤ length s
  unfolding write_fits
  write-inside e =
      either-cases (shaped s at 12) (shaped s at 14) (both_hold (shaped s at 12 || shaped s at 14) (data_inside s at) e).0 (shaped-inside 12) (shaped-inside 14)

  pub core-write-shaped : core_write_fits s at ≡ true → shaped s at 5 ≡ true
  unfolding core_write_fits
  core-write-shaped e =
      (both_hold (shaped s at 5) (eqb (data_mark s at) 1 && (eqb (marked_length s at) (core_count s at) && eqb (byte_count s at) (3 + core_count s at))) e).0

  -- in a block of 5 words each number has its place
  pub core-write-tests : shaped s at 5 ≡ true
      → core_write_fits s at ≡ (eqb (byte_at s (at + 13)) 1 && (eqb (le16_at s (at + 14)) (core_count s at) && eqb (le16_at s (at + 11)) (3 + core_count s at)))
  unfolding core_write_fits
  core-write-tests e =
      let words : word_count s at ≡ 5 = shaped-words 5 e in
      let length : at + 3 + 2 * word_count s at + 1 ≡ at + 14 = omega arith in
      let mark : at + 3 + 2 * word_count s at ≡ at + 13 = omega arith in
      let bytes : at + 1 + 2 * word_count s at ≡ at + 11 = omega arith in
      rw (e, length, mark, bytes)

  pub core-write-inside : core_write_fits s at ≡ true → block_end s at ≤ length s
  core-write-inside e = shaped-inside 5 (core-write-shaped e)

  pub open-inside : open_fits s at ≡ true → block_end s at ≤ length s
  unfolding open_fits
  open-inside e = shaped-inside 15 (both_hold (shaped s at 15) (terminated (bytes_at s at)) e).0

-- a follower that the AndX words name stands not before the block's end
link-case : (stop may : Bool) (end command at c a : ℕ) → (stop || (may && leb end at)) ≡ true → cond stop End (Follow command at) ≡ Follow c a → end ≤ a
link-case true may end command at c a e f = let never : ◌≡◌ {A = ℕ} 0 1 = cc in omega arith
link-case false may end command at c a e f =
    let same : at ≡ a = same-place f in
    let below : end ≤ at = leb-true end at (both_hold may (leb end at) e).1 in
    omega arith

pub link-ahead : (s : List ℕ) (command at c a : ℕ) → link_fits s command at ≡ true → link_at s at ≡ Follow c a → block_end s at ≤ a
unfolding link_fits link_at
link-ahead s command at c a e f =
    link-case (eqb (andx_command s at) NO_COMMAND) (may_follow command (andx_command s at)) (block_end s at) (andx_command s at) (andx_offset s at) c a e f

-- The block that the reader yields at a place: it ends inside the message, and what follows it does not start before its end.
pub record Placed (s : List ℕ) (at : ℕ) (b : Block) : Type 0 where
  pub inside : block_end s at ≤ length s
  pub ahead : (c a : ℕ) → b.next ≡ Follow c a → block_end s at ≤ a

-- a block is yielded only where it fits, with the follower given
pub answer-whole : (s : List ℕ) (command at : ℕ) (fits : Bool) (body : Body) (next : Next) (b : Block) → answer s command at fits body next ≡ Whole b
    → (fits ≡ true) × (b.next ≡ next)
unfolding answer
answer-whole s command at true body next b e = (refl, cc)
answer-whole s command at false body next b e = let never : ◌≡◌ {A = ℕ} 0 1 = cc in absurd (omega arith)

module _ (s : List ℕ) (command at : ℕ) (fits : Bool) (body : Body) (b : Block) (inside : fits ≡ true → block_end s at ≤ length s) where
  -- one that nothing follows
  placed_end : answer s command at fits body End ≡ Whole b → Placed s at b
  placed_end e =
      let told = answer-whole s command at fits body End b e in
      record { inside = inside told.0; ahead = λ c a f. let never : ◌≡◌ {A = ℕ} 0 1 = cc told.1 in absurd (omega arith) }

module _ (s : List ℕ) (at : ℕ) (b : Block) where
  pub placed-bare : (command words : ℕ) (body : Body) → parse_bare s command at words body ≡ Whole b → Placed s at b
  unfolding parse_bare
  placed-bare command words body e = placed_end s command at (bare s at words) body b (bare-inside s at words) e

  pub placed-core-write : parse_core_write s at ≡ Whole b → Placed s at b
  unfolding parse_core_write
  placed-core-write e = placed_end s CORE-WRITE at (core_write_fits s at) _ b (core-write-inside s at) e

  pub unserved : Malformed ≡ Whole b → Placed s at b
  unserved e = let never : ◌≡◌ {A = ℕ} 0 1 = cc in absurd (omega arith)
