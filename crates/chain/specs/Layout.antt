-- Where each field of a block stands (document 01, "The grammar of a chain"; document 02, CR 3 and CR 6): WordCount, the words, ByteCount, the bytes.
-- A block stands at a place counted from the header's start; numbers are little-endian.
-- Assumes nothing.
use Rattle.std.specs.Prelude.{ℕ, ◌+◌, ◌*◌, List}
use Rattle.wire.specs.LittleEndian.{byte_at, le16_at, le32_at}

-- the requests served
abbrev pub CLOSE : ℕ
CLOSE = 0x04

abbrev pub PROCESS_EXIT : ℕ
PROCESS_EXIT = 0x11

abbrev pub LOCKING : ℕ
LOCKING = 0x24

abbrev pub READ : ℕ
READ = 0x2E

abbrev pub WRITE : ℕ
WRITE = 0x2F

abbrev pub TREE_DISCONNECT : ℕ
TREE_DISCONNECT = 0x71

abbrev pub LOGOFF : ℕ
LOGOFF = 0x74

-- document 02, CR 3: "READ 0x0A, WRITE 0x0B, LOCK_BYTE_RANGE 0x0C and UNLOCK_BYTE_RANGE 0x0D". READ and WRITE alone are document 01's
-- names for the AndX requests; a hyphen, since an underscore would stand for an argument between two names.
abbrev pub CORE-READ : ℕ
CORE-READ = 0x0A

abbrev pub CORE-WRITE : ℕ
CORE-WRITE = 0x0B

abbrev pub LOCK_BYTE_RANGE : ℕ
LOCK_BYTE_RANGE = 0x0C

abbrev pub UNLOCK_BYTE_RANGE : ℕ
UNLOCK_BYTE_RANGE = 0x0D

-- document 02, CR 6: "OPEN_ANDX 0x2D"
abbrev pub OPEN : ℕ
OPEN = 0x2D

-- the AndXCommand that ends a chain
abbrev pub NO_COMMAND : ℕ
NO_COMMAND = 0xFF

-- the header's command, and the place of the first block
abbrev pub header_command : List ℕ → ℕ
header_command s = byte_at s 4

abbrev pub FIRST : ℕ
FIRST = 32

-- a block: the number of its words, where its bytes start, how many they are, and where it ends
abbrev pub word_count : List ℕ → ℕ → ℕ
word_count s at = byte_at s at

abbrev pub byte_area : List ℕ → ℕ → ℕ
byte_area s at = at + 3 + 2 * word_count s at

abbrev pub byte_count : List ℕ → ℕ → ℕ
byte_count s at = le16_at s (at + 1 + 2 * word_count s at)

abbrev pub block_end : List ℕ → ℕ → ℕ
block_end s at = byte_area s at + byte_count s at

-- one of its bytes
abbrev pub area_byte : List ℕ → ℕ → ℕ → ℕ
area_byte s at k = byte_at s (byte_area s at + k)

-- AndX words: AndXCommand (1), reserved (1), AndXOffset (2)
abbrev pub andx_command : List ℕ → ℕ → ℕ
andx_command s at = byte_at s (at + 1)

abbrev pub andx_offset : List ℕ → ℕ → ℕ
andx_offset s at = le16_at s (at + 3)

-- LOCKING after AndX: FID 2, type 1, oplock 1, timeout 4, unlocks 2, locks 2
abbrev pub fid_after_andx : List ℕ → ℕ → ℕ
fid_after_andx s at = le16_at s (at + 5)

abbrev pub lock_type : List ℕ → ℕ → ℕ
lock_type s at = byte_at s (at + 7)

abbrev pub unlock_count : List ℕ → ℕ → ℕ
unlock_count s at = le16_at s (at + 13)

abbrev pub lock_count : List ℕ → ℕ → ℕ
lock_count s at = le16_at s (at + 15)

-- READ after AndX: FID 2, offset 4, max 2, min 2, timeout 4, remaining 2, offset high 4 if 12 words.
-- WRITE after AndX: FID 2, offset 4, timeout 4, mode 2, remaining 2, reserved 2, length 2, data offset 2, offset high 4 if 14.
abbrev pub offset_low : List ℕ → ℕ → ℕ
offset_low s at = le32_at s (at + 7)

abbrev pub read_max : List ℕ → ℕ → ℕ
read_max s at = le16_at s (at + 11)

abbrev pub read_offset_high : List ℕ → ℕ → ℕ
read_offset_high s at = le32_at s (at + 21)

abbrev pub data_length : List ℕ → ℕ → ℕ
data_length s at = le16_at s (at + 21)

abbrev pub data_offset : List ℕ → ℕ → ℕ
data_offset s at = le16_at s (at + 23)

abbrev pub write_offset_high : List ℕ → ℕ → ℕ
write_offset_high s at = le32_at s (at + 25)

-- Without AndX the FID is the first word. CLOSE: FID 2, time 4
abbrev pub first_fid : List ℕ → ℕ → ℕ
first_fid s at = le16_at s (at + 1)

-- The core READ and WRITE: FID 2, count 2, offset 4, remaining 2
abbrev pub core_count : List ℕ → ℕ → ℕ
core_count s at = le16_at s (at + 3)

abbrev pub core_offset : List ℕ → ℕ → ℕ
core_offset s at = le32_at s (at + 5)

-- the core WRITE's bytes are a data block: its mark 1, its length 2, the data
abbrev pub data_mark : List ℕ → ℕ → ℕ
data_mark s at = byte_at s (byte_area s at)

abbrev pub marked_length : List ℕ → ℕ → ℕ
marked_length s at = le16_at s (byte_area s at + 1)

abbrev pub marked_data : List ℕ → ℕ → ℕ
marked_data s at = byte_area s at + 3

-- LOCK_BYTE_RANGE and UNLOCK_BYTE_RANGE: FID 2, count 4, offset 4
abbrev pub range_length : List ℕ → ℕ → ℕ
range_length s at = le32_at s (at + 3)

abbrev pub range_offset : List ℕ → ℕ → ℕ
range_offset s at = le32_at s (at + 7)

-- OPEN after AndX: Flags 2, AccessMode 2, SearchAttrs 2, FileAttrs 2, CreationTime 4, OpenMode 2, AllocationSize 4, Timeout 4, Reserved 4. Of Flags bit 0
-- alone counts, and "Other AccessMode bits are ignored" (document 02, CR 6), those from 7 up too: of both the lower byte. Its bytes are the name.
abbrev pub open_flags : List ℕ → ℕ → ℕ
open_flags s at = byte_at s (at + 5)

abbrev pub access_mode : List ℕ → ℕ → ℕ
access_mode s at = byte_at s (at + 7)

abbrev pub open_mode : List ℕ → ℕ → ℕ
open_mode s at = le16_at s (at + 17)
