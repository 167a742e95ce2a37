-- The bytes inside a block that are not looked at (document 01, "What the build serves" and "The grammar of a chain"; document 02, CR 3 and CR 6), counted
-- from the block's start, where WordCount stands. It cites the layout and the grammar alone. Assumes nothing.
use Rattle.std.specs.Prelude.{◌≡◌, ℕ, ◌+◌, ◌*◌, ◌/◌, ◌%◌, ◌≤◌, ◌<◌, List}
use Rattle.chain.specs.Layout.{CLOSE, LOCKING, READ, WRITE, CORE-READ, CORE-WRITE, OPEN, NO_COMMAND, byte_area, andx_command, lock_type, data_length, data_offset}
use Rattle.chain.specs.Grammar.{NamedAndx}

-- Of the words, by the request: "Timeout fields are not looked at", and no rule names the fields beside them.
pub data UnreadWord (command k : ℕ) : Type 0 where
  -- "LOCKING: FID 2, type 1, oplock 1, timeout 4, ..": oplock and timeout
  locking-word : command ≡ LOCKING → 8 ≤ k → k < 13 → UnreadWord command k
  -- "READ: FID 2, offset 4, max 2, min 2, timeout 4, remaining 2, ..": min, timeout and remaining
  read_word : command ≡ READ → 13 ≤ k → k < 21 → UnreadWord command k
  -- "WRITE: FID 2, offset 4, timeout 4, mode 2, remaining 2, reserved 2, ..": timeout, mode, remaining and reserved
  write_word : command ≡ WRITE → 11 ≤ k → k < 21 → UnreadWord command k
  -- "CLOSE: FID 2, time 4": time
  close-word : command ≡ CLOSE → 3 ≤ k → k < 7 → UnreadWord command k
  -- the core READ and WRITE (source document 000): FID 2, count 2, offset 4, and the bytes that remain, 2, which are "advisory"
  core-read-word : command ≡ CORE-READ → 9 ≤ k → k < 11 → UnreadWord command k
  core-write-word : command ≡ CORE-WRITE → 9 ≤ k → k < 11 → UnreadWord command k
  -- OPEN_ANDX: "Flags 2, AccessMode 2, SearchAttrs 2, FileAttrs 2, CreationTime 4, OpenMode 2, AllocationSize 4, Timeout 4, Reserved 4": of Flags and
  -- AccessMode the upper byte ("Other AccessMode bits are ignored"), what stands between AccessMode and OpenMode, and what stands behind OpenMode
  open-flags-word : command ≡ OPEN → k ≡ 6 → UnreadWord command k
  open-access-word : command ≡ OPEN → 8 ≤ k → k < 17 → UnreadWord command k
  open-size-word : command ≡ OPEN → 19 ≤ k → k < 31 → UnreadWord command k

-- the k-th byte of the block at a place is not looked at
pub data Unread (s : List ℕ) (at command k : ℕ) : Type 0 where
  unread-word : UnreadWord command k → Unread s at command k
  -- "AndX words begin AndXCommand (1), reserved (1), AndXOffset (2)"
  unread-reserved : NamedAndx command → k ≡ 2 → Unread s at command k
  -- "0xFF ends the chain and the offset is ignored"
  unread-offset : NamedAndx command → andx_command s at ≡ NO_COMMAND → 3 ≤ k → k < 5 → Unread s at command k
  -- the i-th range, from 0, with type bit 0x10: "process 2, pad 2, offset high 4, .."
  unread-pad : command ≡ LOCKING → lock_type s at / 16 % 2 ≡ 1 → (i : ℕ) → byte_area s at + 20 * i + 2 ≤ at + k → at + k < byte_area s at + 20 * i + 4
      → Unread s at command k
  -- the bytes of a WRITE block have "data inside them": those before the data and those behind it
  unread-before : command ≡ WRITE → byte_area s at ≤ at + k → at + k < data_offset s at → Unread s at command k
  unread-behind : command ≡ WRITE → byte_area s at ≤ at + k → data_offset s at + data_length s at ≤ at + k → Unread s at command k
