-- Of specs/UnreadLaws.antt: what rests on its other theorems. Assumes nothing.
use Rattle.std.specs.Prelude.{◌≡◌, refl, ℕ, ◌+◌, ◌*◌, ◌/◌, ◌%◌, ◌≤◌, ◌<◌, Bool, true, false, List}
use Rattle.std.proofs.Common.{arith}
use Rattle.std.proofs.lemmas.Bool.{eqb-false}
use Rattle.locks.specs.Wire.{range_size}
use Rattle.chain.specs.Layout.{LOCKING, WRITE, CORE-WRITE, OPEN, NO_COMMAND, word_count, byte_area, andx_command, lock_type, data_length, data_offset}
use Rattle.chain.specs.Grammar.{IsBlock, locking-10, locking-20, read-10, read-12, write-12, write-14, close, logoff, tree-disconnect, process-exit, core-read, core-write, lock-byte-range, unlock-byte-range, open-15, NamedAndx}
use Rattle.chain.specs.Parse.{is_large}
use Rattle.readings.specs.Unread.{UnreadWord, Unread, unread-word, unread-reserved, unread-offset, unread-pad, unread-before, unread-behind}
use Rattle.readings.specs.UnreadLaws.{open-looked, unread-andx, unread-close, unread-core, unread-locking, unread-named, unread-read, unread-write}

-- and ByteCount, behind the words
pub unread-before-count : {s : List ℕ} {at command k : ℕ} → IsBlock s at command → UnreadWord command k → k < 1 + 2 * word_count s at
unread-before-count (locking-10 p h) u = let w = unread-locking refl u in omega arith
unread-before-count (locking-20 p h) u = let w = unread-locking refl u in omega arith
unread-before-count (read-10 h) u = let w = unread-read refl u in omega arith
unread-before-count (read-12 h) u = let w = unread-read refl u in omega arith
unread-before-count (write-12 h) u = let w = unread-write refl u in omega arith
unread-before-count (write-14 h) u = let w = unread-write refl u in omega arith
unread-before-count (close h) u = let w = unread-close refl u in omega arith
unread-before-count (logoff h) u = let w = unread-named u in absurd (omega arith)
unread-before-count (tree-disconnect h) u = let w = unread-named u in absurd (omega arith)
unread-before-count (process-exit h) u = absurd ((unread-named u).1 refl)
unread-before-count (core-read h) u = let w = unread-core (omega arith) (omega arith) u in omega arith
unread-before-count (core-write h) u = let w = unread-core (omega arith) (omega arith) u in omega arith
unread-before-count (lock-byte-range h) u = let w = unread-core (omega arith) (omega arith) u in omega arith
unread-before-count (unlock-byte-range h) u = let w = unread-core (omega arith) (omega arith) u in omega arith
unread-before-count (open-15 h) u = let w = (open-looked refl u).4 in omega arith

-- an AndXOffset is looked at where AndXCommand is another than 0xFF
pub offset-looked : {s : List ℕ} {at command k : ℕ} → NamedAndx command → (andx_command s at ≡ NO_COMMAND → ⊥) → 2 ≤ word_count s at → 3 ≤ k → k < 5
    → Unread s at command k → ⊥
offset-looked a n w f g (unread-word u) = let e = unread-andx a u in omega arith
offset-looked a n w f g (unread-reserved b e) = omega arith
offset-looked a n w f g (unread-offset b e p q) = n e
offset-looked a n w f g (unread-pad e p i q r) = omega arith
offset-looked a n w f g (unread-before e p q) = omega arith
offset-looked a n w f g (unread-behind e p q) = omega arith

-- a byte of a range is looked at, but for the pad of the longer form
pub range-looked : {s : List ℕ} {at command k : ℕ} (large : Bool) (i j : ℕ) → word_count s at ≡ 8 → is_large (lock_type s at) ≡ large → j < range_size large
    → (large ≡ true → 2 ≤ j → j < 4 → ⊥) → k ≡ 19 + (i * range_size large + j) → command ≡ LOCKING → Unread s at command k → ⊥
unfolding is_large range_size
range-looked large i j w b l n e c (unread-word u) = let v = unread-locking c u in omega arith
range-looked large i j w b l n e c (unread-reserved a f) = omega arith
range-looked large i j w b l n e c (unread-offset a f p q) = omega arith
range-looked true i j w b l n e c (unread-pad f g m p q) = n refl (omega arith) (omega arith)
range-looked {s} {at} false i j w b l n e c (unread-pad f g m p q) = eqb-false (lock_type s at / 16 % 2) 1 b g
range-looked large i j w b l n e c (unread-before f p q) = omega arith
range-looked large i j w b l n e c (unread-behind f p q) = omega arith

-- a byte of a core WRITE's data block is looked at
pub marked-looked : {s : List ℕ} {at command k : ℕ} → command ≡ CORE-WRITE → 11 ≤ k → Unread s at command k → ⊥
marked-looked c l (unread-word u) = let w = unread-core (omega arith) (omega arith) u in omega arith
marked-looked c l (unread-reserved n e) = omega arith
marked-looked c l (unread-offset n e f g) = omega arith
marked-looked c l (unread-pad e p i f g) = omega arith
marked-looked c l (unread-before e f g) = omega arith
marked-looked c l (unread-behind e f g) = omega arith

-- a byte of an OPEN's name, and the zero byte behind it, are looked at
pub name-looked : {s : List ℕ} {at command k : ℕ} → command ≡ OPEN → 31 ≤ k → Unread s at command k → ⊥
name-looked c l (unread-word u) = let w = (open-looked c u).4 in omega arith
name-looked c l (unread-reserved n e) = omega arith
name-looked c l (unread-offset n e f g) = omega arith
name-looked c l (unread-pad e p i f g) = omega arith
name-looked c l (unread-before e f g) = omega arith
name-looked c l (unread-behind e f g) = omega arith

-- a byte of a WRITE block's data is looked at
pub data-looked : {s : List ℕ} {at command k : ℕ} → command ≡ WRITE → 12 ≤ word_count s at → byte_area s at ≤ data_offset s at → data_offset s at ≤ at + k
    → at + k < data_offset s at + data_length s at → Unread s at command k → ⊥
data-looked c w a f g (unread-word u) = let v = unread-write c u in omega arith
data-looked c w a f g (unread-reserved n e) = omega arith
data-looked c w a f g (unread-offset n e p q) = omega arith
data-looked c w a f g (unread-pad e p i q r) = omega arith
data-looked c w a f g (unread-before e p q) = omega arith
data-looked c w a f g (unread-behind e p q) = omega arith
