-- A block that stands at another place, perhaps in another message, is read the same.
-- Its AndX words may differ, and a WRITE block's DataOffset moves with it; the data of a core WRITE have no offset.
-- Assumes nothing.
use Rattle.std.specs.Prelude.{◌≡◌, refl, ℕ, ◌+◌, ◌-◌, ◌*◌, ◌≤◌, ◌<◌, Bool, true, false, List, length}
use Rattle.std.proofs.Common.{arith}
use Rattle.wire.specs.LittleEndian.{byte_at}
use Rattle.chain.specs.Layout.{WRITE, word_count, data_offset}
use Rattle.chain.specs.Grammar.{IsBlock, locking-10, locking-20, read-10, read-12, write-12, write-14, close, logoff, tree-disconnect, process-exit, core-read, core-write, lock-byte-range, unlock-byte-range, open-15, Plain, close-plain, tree-disconnect-plain, process-exit-plain, core-read-plain, core-write-plain, lock-byte-range-plain, unlock-byte-range-plain}
use Rattle.chain.specs.Parse.{wide_offset}
use Rattle.chain.specs.declared.block.Body.{Body}
use Rattle.chain.specs.declared.block.Body.TheVariants.{Locking, Read, Write, Close, Logoff, TreeDisconnect, ProcessExit, CoreRead, CoreWrite, LockByteRange, UnlockByteRange, Open}
use Rattle.invariants.specs.BlockParse.{block_size}
use Rattle.readings.specs.SameNumbers.{SameBytes}
use Rattle.readings.specs.Unread.{Unread}

-- The bytes of a block that stay as they are, counted from its start: all of a request not named ANDX; of the others all but
-- the four AndX words' bytes, 1 to 4, and of a WRITE block all but these and its DataOffset's bytes, 23 and 24.
pub data Kept (command : ℕ) : ℕ → Type 0 where
  kept-plain : {k : ℕ} → Plain command → Kept command k
  kept-count : Kept command 0
  kept-front : {k : ℕ} → 5 ≤ k → k < 23 → Kept command k
  kept-behind : {k : ℕ} → 25 ≤ k → Kept command k
  kept-not-write : {k : ℕ} → (command ≡ WRITE → ⊥) → 5 ≤ k → Kept command k

-- those of them that are looked at
abbrev pub KeptRead : List ℕ → ℕ → ℕ → ℕ → Type 0
KeptRead s at command k = Kept command k × (Unread s at command k → ⊥)

-- "and a WRITE_ANDX's DataOffset less by what the block moved": the block at `at` in s stands at `to` in t. Of the bytes that stay as they are, those
-- that are not looked at may differ.
pub record Moved (s : List ℕ) (at : ℕ) (t : List ℕ) (to : ℕ) (command : ℕ) : Type 0 where
  pub kept : (k : ℕ) → k < block_size s at → KeptRead s at command k → byte_at t (to + k) ≡ byte_at s (at + k)
  pub inside : to + block_size s at ≤ length t
  pub data-moved : command ≡ WRITE → data_offset t to + at ≡ data_offset s at + to

-- the fields of a block that moved: only the place of a WRITE block's data moves with it
unfoldable pub moved_body : ℕ → ℕ → Body → Body
moved_body at to (Locking f) = Locking f
moved_body at to (Read f) = Read f
moved_body at to (Write f) = Write (record { fid = f.fid; offset = f.offset; count = f.count; from = f.from + to - at })
moved_body at to (Close fid) = Close fid
moved_body at to Logoff = Logoff
moved_body at to TreeDisconnect = TreeDisconnect
moved_body at to ProcessExit = ProcessExit
moved_body at to (CoreRead f) = CoreRead f
moved_body at to (CoreWrite f) = CoreWrite (record { fid = f.fid; offset = f.offset; count = f.count; from = f.from + to - at })
moved_body at to (LockByteRange f) = LockByteRange f
moved_body at to (UnlockByteRange f) = UnlockByteRange f
moved_body at to (Open f) = Open f

-- an offset of 32 or 64 bits: the upper half counts only where the block has it
pub wide-same : (low low' high high' : ℕ) (wide : Bool) → low ≡ low' → (wide ≡ true → high ≡ high') → wide_offset low high wide ≡ wide_offset low' high' wide
unfolding wide_offset
wide-same low low' high high' true e f = rw (e, f refl)
wide-same low low' high high' false e f = e

-- the bytes behind the words stay as they are
pub bytes-kept : {s : List ℕ} {at command : ℕ} → IsBlock s at command → (k : ℕ) → 1 + 2 * word_count s at ≤ k → Kept command k
bytes-kept (locking-10 p h) k e = kept-not-write {k = k} (omega arith) (omega arith)
bytes-kept (locking-20 p h) k e = kept-not-write {k = k} (omega arith) (omega arith)
bytes-kept (read-10 h) k e = kept-not-write {k = k} (omega arith) (omega arith)
bytes-kept (read-12 h) k e = kept-not-write {k = k} (omega arith) (omega arith)
bytes-kept (write-12 h) k e = kept-behind {k = k} (omega arith)
bytes-kept (write-14 h) k e = kept-behind {k = k} (omega arith)
bytes-kept (close h) k e = kept-plain close-plain
bytes-kept (logoff h) k e = kept-not-write {k = k} (omega arith) (omega arith)
bytes-kept (tree-disconnect h) k e = kept-plain tree-disconnect-plain
bytes-kept (process-exit h) k e = kept-plain process-exit-plain
bytes-kept (core-read h) k e = kept-plain core-read-plain
bytes-kept (core-write h) k e = kept-plain core-write-plain
bytes-kept (lock-byte-range h) k e = kept-plain lock-byte-range-plain
bytes-kept (unlock-byte-range h) k e = kept-plain unlock-byte-range-plain
bytes-kept (open-15 h) k e = kept-not-write {k = k} (omega arith) (omega arith)

module _ {s : List ℕ} {at : ℕ} {t : List ℕ} {to : ℕ} {command : ℕ} (m : Moved s at t to command) where
  -- bytes that are kept
  pub kept-bytes : (k size : ℕ) → k + size ≤ block_size s at → ((i : ℕ) → k ≤ i → i < k + size → KeptRead s at command i) → SameBytes s (at + k) t (to + k) size
  kept-bytes k size h p j l =
      let e : to + k + j ≡ to + (k + j) = omega arith in
      let f : at + k + j ≡ at + (k + j) = omega arith in
      rw (e, f) (m.kept (k + j) (omega arith) (p (k + j) (omega arith) (omega arith)))
  -- the numbers of a core command, in front of what it leaves unread
