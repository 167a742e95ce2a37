-- The grammar of a chain (document 01, with document 02's CR 3 and CR 6), as a relation on the bytes of a message. It cites the layout alone.
-- docs/GRAMMAR.md has it in words. Assumes nothing.
use Rattle.std.specs.Prelude.{◌≡◌, ℕ, ◌+◌, ◌-◌, ◌*◌, ◌/◌, ◌%◌, ◌≤◌, ◌<◌, List, [], ◌∷◌, length}
use Rattle.chain.specs.Layout.{CLOSE, PROCESS_EXIT, LOCKING, READ, WRITE, TREE_DISCONNECT, LOGOFF, CORE-READ, CORE-WRITE, LOCK_BYTE_RANGE, UNLOCK_BYTE_RANGE, OPEN, NO_COMMAND, header_command, FIRST, word_count, byte_area, byte_count, block_end, area_byte, andx_command, andx_offset, lock_type, unlock_count, lock_count, data_length, data_offset, core_count, data_mark, marked_length}

-- "A block is WordCount, the words, ByteCount, the bytes, all inside the message": a block of that many words at a place
pub record Shape (s : List ℕ) (at words : ℕ) : Type 0 where
  pub counted : word_count s at ≡ words
  pub inside : block_end s at ≤ length s

-- a block without bytes
pub record Bare (s : List ℕ) (at words : ℕ) : Type 0 where
  pub shape : Shape s at words
  pub empty : byte_count s at ≡ 0

-- a LOCKING block whose ranges take that many bytes each
pub record Ranges (s : List ℕ) (at size : ℕ) : Type 0 where
  pub shape : Shape s at 8
  pub announced : byte_count s at ≡ (unlock_count s at + lock_count s at) * size

-- a WRITE block: "DataOffset is not before the byte area and DataOffset + DataLength not past its end, also for length 0"
pub record Data (s : List ℕ) (at words : ℕ) : Type 0 where
  pub shape : Shape s at words
  pub starts : byte_area s at ≤ data_offset s at
  pub ends : data_offset s at + data_length s at ≤ block_end s at

-- a core WRITE block: "a data block not marked 0x01 or whose lengths disagree is 2/1": the count word, the data block's length and
-- ByteCount less the three bytes before the data are equal
pub record MarkedData (s : List ℕ) (at : ℕ) : Type 0 where
  pub shape : Shape s at 5
  pub marked : data_mark s at ≡ 1
  pub agreed : marked_length s at ≡ core_count s at
  pub filled : byte_count s at ≡ 3 + core_count s at

-- an OPEN block: "The byte area is a name of any length, even none, without zero bytes, then one zero byte"
pub record Name (s : List ℕ) (at : ℕ) : Type 0 where
  pub shape : Shape s at 15
  pub some : 1 ≤ byte_count s at
  pub ends : area_byte s at (byte_count s at - 1) ≡ 0
  pub only : (k : ℕ) → k + 1 < byte_count s at → area_byte s at k ≡ 0 → ⊥

-- The rows of the table: the block at a place, by its command. Type bit 0x10 makes a range 20 bytes long.
pub data IsBlock (s : List ℕ) (at : ℕ) : ℕ → Type 0 where
  locking-10 : lock_type s at / 16 % 2 ≡ 0 → Ranges s at 10 → IsBlock s at LOCKING
  locking-20 : lock_type s at / 16 % 2 ≡ 1 → Ranges s at 20 → IsBlock s at LOCKING
  read-10 : Bare s at 10 → IsBlock s at READ
  read-12 : Bare s at 12 → IsBlock s at READ
  write-12 : Data s at 12 → IsBlock s at WRITE
  write-14 : Data s at 14 → IsBlock s at WRITE
  close : Bare s at 3 → IsBlock s at CLOSE
  logoff : Bare s at 2 → IsBlock s at LOGOFF
  tree-disconnect : Bare s at 0 → IsBlock s at TREE_DISCONNECT
  process-exit : Bare s at 0 → IsBlock s at PROCESS_EXIT
  core-read : Bare s at 5 → IsBlock s at CORE-READ
  core-write : MarkedData s at → IsBlock s at CORE-WRITE
  lock-byte-range : Bare s at 5 → IsBlock s at LOCK_BYTE_RANGE
  unlock-byte-range : Bare s at 5 → IsBlock s at UNLOCK_BYTE_RANGE
  open-15 : Name s at → IsBlock s at OPEN

-- The last column: what may follow what. Document 02, CR 3: "READ and WRITE may end a chain after LOCKING_ANDX"; CR 6: "READ_ANDX may
-- follow (CR 5's eight pairs become nine)".
pub data MayFollow : ℕ → ℕ → Type 0 where
  locking-read : MayFollow LOCKING READ
  locking-write : MayFollow LOCKING WRITE
  locking-core-read : MayFollow LOCKING CORE-READ
  locking-core-write : MayFollow LOCKING CORE-WRITE
  read-close : MayFollow READ CLOSE
  write-write : MayFollow WRITE WRITE
  write_read : MayFollow WRITE READ
  write-close : MayFollow WRITE CLOSE
  open-read : MayFollow OPEN READ

-- the requests whose words begin with AndX, and the others
pub data NamedAndx : ℕ → Type 0 where
  locking-andx : NamedAndx LOCKING
  read-andx : NamedAndx READ
  write-andx : NamedAndx WRITE
  logoff-andx : NamedAndx LOGOFF
  open-andx : NamedAndx OPEN

pub data Plain : ℕ → Type 0 where
  close-plain : Plain CLOSE
  tree-disconnect-plain : Plain TREE_DISCONNECT
  process-exit-plain : Plain PROCESS_EXIT
  core-read-plain : Plain CORE-READ
  core-write-plain : Plain CORE-WRITE
  lock-byte-range-plain : Plain LOCK_BYTE_RANGE
  unlock-byte-range-plain : Plain UNLOCK_BYTE_RANGE

-- A block of a reading: its command, its place and its length.
pub record Span : Type 0 where
  pub command : ℕ
  pub place : ℕ
  pub size : ℕ

unfoldable pub span_at : List ℕ → ℕ → ℕ → Span
span_at s command at = record { command = command; place = at; size = block_end s at - at }

-- "A reading is a list of blocks inside the message, each by the rules above: first the block at 32 with the header's
-- command; after each with an AndXCommand other than 0xFF, the block at its AndXOffset with that command; it ends at 0xFF or
-- at a request not named ANDX." The offset is "at least the end of this block".
pub data ReadingFrom (s : List ℕ) : ℕ → ℕ → List Span → Type 0 where
  plain_end : {command at : ℕ} → IsBlock s at command → Plain command → ReadingFrom s command at (span_at s command at ∷ [])
  andx-end : {command at : ℕ} → IsBlock s at command → NamedAndx command → andx_command s at ≡ NO_COMMAND
      → ReadingFrom s command at (span_at s command at ∷ [])
  andx-next : {command at : ℕ} {rest : List Span} → IsBlock s at command → MayFollow command (andx_command s at)
      → block_end s at ≤ andx_offset s at → ReadingFrom s (andx_command s at) (andx_offset s at) rest
      → ReadingFrom s command at (span_at s command at ∷ rest)

-- the readings of a message; a sentence is a message with a reading
abbrev pub Reading : List ℕ → List Span → Type 0
Reading s blocks = ReadingFrom s (header_command s) FIRST blocks

abbrev pub Sentence : List ℕ → Type 0
Sentence s = (blocks : List Span) × Reading s blocks
