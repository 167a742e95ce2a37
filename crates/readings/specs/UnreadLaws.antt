-- What is looked at of a block: the fields that the reader yields, the ranges and the data stand where `Unread` names nothing.
-- Assumes nothing.
use Rattle.std.specs.Prelude.{◌≡◌, ℕ, ◌+◌, ◌≤◌, ◌<◌, List}
use Rattle.std.proofs.Common.{arith}
use Rattle.chain.specs.Layout.{CLOSE, PROCESS_EXIT, LOCKING, READ, WRITE, CORE-READ, LOCK_BYTE_RANGE, UNLOCK_BYTE_RANGE, OPEN, byte_area}
use Rattle.chain.specs.Grammar.{NamedAndx, close-plain, core-read-plain, core-write-plain}
use Rattle.invariants.specs.BlockParse.{plain-not-andx}
use Rattle.readings.specs.Unread.{UnreadWord, locking-word, read_word, write_word, close-word, core-read-word, core-write-word, open-flags-word, open-access-word, open-size-word, Unread, unread-word, unread-reserved, unread-offset, unread-pad, unread-before, unread-behind}

-- before the bytes, and but for the AndX words, only the words of the table are not looked at
pub in_words : {s : List ℕ} {at command k : ℕ} → (NamedAndx command → 2 ≤ k → 5 ≤ k) → at + k < byte_area s at → Unread s at command k → UnreadWord command k
in_words a h (unread-word u) = u
in_words a h (unread-reserved n e) = let l = a n (omega arith) in absurd (omega arith)
in_words a h (unread-offset n e f g) = let l = a n (omega arith) in absurd (omega arith)
in_words a h (unread-pad e p i f g) = absurd (omega arith)
in_words a h (unread-before e f g) = absurd (omega arith)
in_words a h (unread-behind e f g) = absurd (omega arith)

-- where these stand, by the request
pub unread-locking : {command k : ℕ} → command ≡ LOCKING → UnreadWord command k → (8 ≤ k) × (k < 13)
unread-locking c (locking-word e f g) = (f, g)
unread-locking c (read_word e f g) = absurd (omega arith)
unread-locking c (write_word e f g) = absurd (omega arith)
unread-locking c (close-word e f g) = absurd (omega arith)
unread-locking c (core-read-word e f g) = absurd (omega arith)
unread-locking c (core-write-word e f g) = absurd (omega arith)
unread-locking c (open-flags-word e f) = absurd (omega arith)
unread-locking c (open-access-word e f g) = absurd (omega arith)
unread-locking c (open-size-word e f g) = absurd (omega arith)

pub unread-read : {command k : ℕ} → command ≡ READ → UnreadWord command k → (13 ≤ k) × (k < 21)
unread-read c (locking-word e f g) = absurd (omega arith)
unread-read c (read_word e f g) = (f, g)
unread-read c (write_word e f g) = absurd (omega arith)
unread-read c (close-word e f g) = absurd (omega arith)
unread-read c (core-read-word e f g) = absurd (omega arith)
unread-read c (core-write-word e f g) = absurd (omega arith)
unread-read c (open-flags-word e f) = absurd (omega arith)
unread-read c (open-access-word e f g) = absurd (omega arith)
unread-read c (open-size-word e f g) = absurd (omega arith)

pub unread-write : {command k : ℕ} → command ≡ WRITE → UnreadWord command k → (11 ≤ k) × (k < 21)
unread-write c (locking-word e f g) = absurd (omega arith)
unread-write c (read_word e f g) = absurd (omega arith)
unread-write c (write_word e f g) = (f, g)
unread-write c (close-word e f g) = absurd (omega arith)
unread-write c (core-read-word e f g) = absurd (omega arith)
unread-write c (core-write-word e f g) = absurd (omega arith)
unread-write c (open-flags-word e f) = absurd (omega arith)
unread-write c (open-access-word e f g) = absurd (omega arith)
unread-write c (open-size-word e f g) = absurd (omega arith)

pub unread-close : {command k : ℕ} → command ≡ CLOSE → UnreadWord command k → (3 ≤ k) × (k < 7)
unread-close c (locking-word e f g) = absurd (omega arith)
unread-close c (read_word e f g) = absurd (omega arith)
unread-close c (write_word e f g) = absurd (omega arith)
unread-close c (close-word e f g) = (f, g)
unread-close c (core-read-word e f g) = absurd (omega arith)
unread-close c (core-write-word e f g) = absurd (omega arith)
unread-close c (open-flags-word e f) = absurd (omega arith)
unread-close c (open-access-word e f g) = absurd (omega arith)
unread-close c (open-size-word e f g) = absurd (omega arith)

-- those of a core READ or WRITE, 0x0A and 0x0B, behind the offset
pub unread-core : {command k : ℕ} → CORE-READ ≤ command → command < PROCESS_EXIT → UnreadWord command k → (9 ≤ k) × (k < 11)
unread-core a b (locking-word e f g) = absurd (omega arith)
unread-core a b (read_word e f g) = absurd (omega arith)
unread-core a b (write_word e f g) = absurd (omega arith)
unread-core a b (close-word e f g) = absurd (omega arith)
unread-core a b (core-read-word e f g) = (f, g)
unread-core a b (core-write-word e f g) = (f, g)
unread-core a b (open-flags-word e f) = absurd (omega arith)
unread-core a b (open-access-word e f g) = absurd (omega arith)
unread-core a b (open-size-word e f g) = absurd (omega arith)

-- a LOCK_BYTE_RANGE and an UNLOCK_BYTE_RANGE have none
pub range-read : {command k : ℕ} → LOCK_BYTE_RANGE ≤ command → command ≤ UNLOCK_BYTE_RANGE → UnreadWord command k → ⊥
range-read a b (locking-word e f g) = omega arith
range-read a b (read_word e f g) = omega arith
range-read a b (write_word e f g) = omega arith
range-read a b (close-word e f g) = omega arith
range-read a b (core-read-word e f g) = omega arith
range-read a b (core-write-word e f g) = omega arith
range-read a b (open-flags-word e f) = omega arith
range-read a b (open-access-word e f g) = omega arith
range-read a b (open-size-word e f g) = omega arith

-- the other requests have none
pub unread-named : {command k : ℕ} → UnreadWord command k → (command ≤ WRITE) × (command ≡ PROCESS_EXIT → ⊥)
unread-named (locking-word e f g) = (omega arith, λ c. omega arith)
unread-named (read_word e f g) = (omega arith, λ c. omega arith)
unread-named (write_word e f g) = (omega arith, λ c. omega arith)
unread-named (close-word e f g) = (omega arith, λ c. omega arith)
unread-named (core-read-word e f g) = (omega arith, λ c. omega arith)
unread-named (core-write-word e f g) = (omega arith, λ c. omega arith)
unread-named (open-flags-word e f) = (omega arith, λ c. omega arith)
unread-named (open-access-word e f g) = (omega arith, λ c. omega arith)
unread-named (open-size-word e f g) = (omega arith, λ c. omega arith)

-- WordCount is looked at, and what stands just behind it
pub unread-front : {command k : ℕ} → UnreadWord command k → 3 ≤ k
unread-front (locking-word e f g) = omega arith
unread-front (read_word e f g) = omega arith
unread-front (write_word e f g) = omega arith
unread-front (close-word e f g) = f
unread-front (core-read-word e f g) = omega arith
unread-front (core-write-word e f g) = omega arith
unread-front (open-flags-word e f) = omega arith
unread-front (open-access-word e f g) = omega arith
unread-front (open-size-word e f g) = omega arith

-- so are the AndX words
pub unread-andx : {command k : ℕ} → NamedAndx command → UnreadWord command k → 6 ≤ k
unread-andx a (locking-word e f g) = omega arith
unread-andx a (read_word e f g) = omega arith
unread-andx a (write_word e f g) = omega arith
unread-andx a (close-word e f g) = absurd (plain-not-andx close-plain (rw e at a))
unread-andx a (core-read-word e f g) = absurd (plain-not-andx core-read-plain (rw e at a))
unread-andx a (core-write-word e f g) = absurd (plain-not-andx core-write-plain (rw e at a))
unread-andx a (open-flags-word e f) = omega arith
unread-andx a (open-access-word e f g) = omega arith
unread-andx a (open-size-word e f g) = omega arith

-- and a FID behind them
pub unread-fid : {command k : ℕ} → NamedAndx command → (command ≡ OPEN → ⊥) → UnreadWord command k → 8 ≤ k
unread-fid a n (locking-word e f g) = f
unread-fid a n (read_word e f g) = omega arith
unread-fid a n (write_word e f g) = omega arith
unread-fid a n (close-word e f g) = absurd (plain-not-andx close-plain (rw e at a))
unread-fid a n (core-read-word e f g) = absurd (plain-not-andx core-read-plain (rw e at a))
unread-fid a n (core-write-word e f g) = absurd (plain-not-andx core-write-plain (rw e at a))
unread-fid a n (open-flags-word e f) = absurd (n e)
unread-fid a n (open-access-word e f g) = f
unread-fid a n (open-size-word e f g) = omega arith

-- an OPEN's bit 0 of Flags, its codes and its OpenMode
pub open-looked : {command k : ℕ} → command ≡ OPEN → UnreadWord command k → (k ≡ 5 → ⊥) × (k ≡ 7 → ⊥) × (k ≡ 17 → ⊥) × (k ≡ 18 → ⊥) × (k < 31)
open-looked c (locking-word e f g) = absurd (omega arith)
open-looked c (read_word e f g) = absurd (omega arith)
open-looked c (write_word e f g) = absurd (omega arith)
open-looked c (close-word e f g) = absurd (omega arith)
open-looked c (core-read-word e f g) = absurd (omega arith)
open-looked c (core-write-word e f g) = absurd (omega arith)
open-looked c (open-flags-word e f) = (λ h. omega arith, λ h. omega arith, λ h. omega arith, λ h. omega arith, omega arith)
open-looked c (open-access-word e f g) = (λ h. omega arith, λ h. omega arith, λ h. omega arith, λ h. omega arith, omega arith)
open-looked c (open-size-word e f g) = (λ h. omega arith, λ h. omega arith, λ h. omega arith, λ h. omega arith, g)
