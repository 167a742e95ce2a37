-- What the reader of one block answers, as tests on the bytes and total field extraction.
-- Assumes nothing.
use Rattle.std.specs.Prelude.{ℕ, ◌+◌, ◌-◌, ◌*◌, ◌/◌, ◌%◌, Bool, false, cond, ◌&&◌, ◌||◌, List, [], ◌∷◌, length, take, drop, leb, eqb, None as End, Some as Whole, None as Malformed}
use Rattle.locks.specs.Wire.{range_size}
use Rattle.chain.specs.Layout.{CLOSE, PROCESS_EXIT, LOCKING, READ, WRITE, TREE_DISCONNECT, LOGOFF, CORE-READ, CORE-WRITE, LOCK_BYTE_RANGE, UNLOCK_BYTE_RANGE, OPEN, NO_COMMAND, word_count, byte_area, byte_count, block_end, andx_command, andx_offset, fid_after_andx, lock_type, unlock_count, lock_count, offset_low, read_max, read_offset_high, data_length, data_offset, write_offset_high, first_fid, core_count, core_offset, data_mark, marked_length, marked_data, range_length, range_offset, open_flags, access_mode, open_mode}
use Rattle.chain.specs.declared.block.Body.{Body}
use Rattle.chain.specs.declared.block.Body.TheVariants.{Locking, Read, Write, Close, Logoff, TreeDisconnect, ProcessExit, CoreRead, CoreWrite, LockByteRange, UnlockByteRange, Open}
use Rattle.chain.specs.declared.block.RangeFields.{RangeFields}
use Rattle.chain.specs.declared.block.OpenFields.{OpenFields}
use Rattle.chain.specs.Next.{Next, Follow, Parsed}

-- a block of that many words inside the message
unfoldable pub shaped : List ℕ → ℕ → ℕ → Bool
shaped s at words = eqb (word_count s at) words && leb (block_end s at) (length s)

-- one without bytes
unfoldable pub bare : List ℕ → ℕ → ℕ → Bool
bare s at words = shaped s at words && eqb (byte_count s at) 0

-- lock type bit 0x10
unfoldable pub is_large : ℕ → Bool
is_large type = eqb (type / 16 % 2) 1

unfoldable pub locking_fits : List ℕ → ℕ → Bool
locking_fits s at = shaped s at 8 && eqb (byte_count s at) ((unlock_count s at + lock_count s at) * range_size (is_large (lock_type s at)))

unfoldable pub read_fits : List ℕ → ℕ → Bool
read_fits s at = bare s at 10 || bare s at 12

unfoldable pub data_inside : List ℕ → ℕ → Bool
data_inside s at = leb (byte_area s at) (data_offset s at) && leb (data_offset s at + data_length s at) (block_end s at)

unfoldable pub write_fits : List ℕ → ℕ → Bool
write_fits s at = (shaped s at 12 || shaped s at 14) && data_inside s at

-- the data block's mark, and its length and ByteCount by the count word
unfoldable pub core_write_fits : List ℕ → ℕ → Bool
core_write_fits s at =
    shaped s at 5 && (eqb (data_mark s at) 1 && (eqb (marked_length s at) (core_count s at) && eqb (byte_count s at) (3 + core_count s at)))

-- "a name of any length, even none, without zero bytes, then one zero byte": the first zero byte is the last byte
unfoldable pub terminated : List ℕ → Bool
terminated [] = false
terminated (x ∷ xs) = cond (eqb x 0) (eqb (length xs) 0) (terminated xs)

-- the bytes of a block
abbrev pub bytes_at : List ℕ → ℕ → List ℕ
bytes_at s at = take (byte_count s at) (drop (byte_area s at) s)

unfoldable pub open_fits : List ℕ → ℕ → Bool
open_fits s at = shaped s at 15 && terminated (bytes_at s at)

-- what may follow what
unfoldable pub may_follow : ℕ → ℕ → Bool
may_follow command next =
    cond (eqb command LOCKING) (eqb next READ || (eqb next WRITE || (eqb next CORE-READ || eqb next CORE-WRITE)))
    (cond (eqb command READ) (eqb next CLOSE)
    (cond (eqb command WRITE) (eqb next WRITE || (eqb next READ || eqb next CLOSE)) (cond (eqb command OPEN) (eqb next READ) false)))

-- the AndX words: the end of the chain, or a follower at or behind the block's end
unfoldable pub link_fits : List ℕ → ℕ → ℕ → Bool
link_fits s command at =
    eqb (andx_command s at) NO_COMMAND || (may_follow command (andx_command s at) && leb (block_end s at) (andx_offset s at))

unfoldable pub link_at : List ℕ → ℕ → Next
link_at s at = cond (eqb (andx_command s at) NO_COMMAND) End (Follow (andx_command s at) (andx_offset s at))

-- a block's answer: its fields where it fits
unfoldable pub answer : List ℕ → ℕ → ℕ → Bool → Body → Next → Parsed
answer s command at fits body next =
    cond fits (Whole (record { command = command; at = at; length = block_end s at - at; body = body; next = next })) Malformed

-- an offset of 32 bits, or of 64 where the block has its upper half
unfoldable pub wide_offset : ℕ → ℕ → Bool → ℕ
wide_offset low high wide = cond wide (4294967296 * high + low) low

unfoldable pub parse_locking : List ℕ → ℕ → Parsed
parse_locking s at =
    answer s LOCKING at (locking_fits s at && link_fits s LOCKING at)
    (Locking (record { fid = fid_after_andx s at; kind = lock_type s at; unlocks = unlock_count s at; locks = lock_count s at }))
    (link_at s at)

unfoldable pub parse_read : List ℕ → ℕ → Parsed
parse_read s at =
    answer s READ at (read_fits s at && link_fits s READ at)
    (Read (record { fid = fid_after_andx s at; offset = wide_offset (offset_low s at) (read_offset_high s at) (eqb (word_count s at) 12); max = read_max s at }))
    (link_at s at)

unfoldable pub parse_write : List ℕ → ℕ → Parsed
parse_write s at =
    answer s WRITE at (write_fits s at && link_fits s WRITE at)
    (Write (record { fid = fid_after_andx s at; offset = wide_offset (offset_low s at) (write_offset_high s at) (eqb (word_count s at) 14); count = data_length s at; from = data_offset s at }))
    (link_at s at)

-- Flags bit 0; AccessMode's bits 0 to 2 and 4 to 6; OpenMode, the whole word
abbrev pub open_fields : List ℕ → ℕ → OpenFields
open_fields s at =
    record { full = eqb (open_flags s at % 2) 1; access = access_mode s at % 8; sharing = access_mode s at / 16 % 8; mode = open_mode s at }

unfoldable pub parse_open : List ℕ → ℕ → Parsed
parse_open s at = answer s OPEN at (open_fits s at && link_fits s OPEN at) (Open (open_fields s at)) (link_at s at)

unfoldable pub parse_logoff : List ℕ → ℕ → Parsed
parse_logoff s at = answer s LOGOFF at (bare s at 2 && link_fits s LOGOFF at) Logoff (link_at s at)

-- a block of that many words, none of them AndX, and no bytes
unfoldable pub parse_bare : List ℕ → ℕ → ℕ → ℕ → Body → Parsed
parse_bare s command at words body = answer s command at (bare s at words) body End

-- "with 32-bit offsets": the fields are the counterpart's
abbrev pub core_read_at : List ℕ → ℕ → Body
core_read_at s at = CoreRead (record { fid = first_fid s at; offset = core_offset s at; max = core_count s at })

abbrev pub core_write_at : List ℕ → ℕ → Body
core_write_at s at = CoreWrite (record { fid = first_fid s at; offset = core_offset s at; count = core_count s at; from = marked_data s at })

unfoldable pub parse_core_write : List ℕ → ℕ → Parsed
parse_core_write s at = answer s CORE-WRITE at (core_write_fits s at) (core_write_at s at) End

abbrev pub range_fields : List ℕ → ℕ → RangeFields
range_fields s at = record { fid = first_fid s at; offset = range_offset s at; length = range_length s at }

-- the block at a place, by its command; no other request is served
unfoldable pub parse : List ℕ → ℕ → ℕ → Parsed
parse s command at =
    cond (eqb command LOCKING) (parse_locking s at)
    (cond (eqb command READ) (parse_read s at)
    (cond (eqb command WRITE) (parse_write s at)
    (cond (eqb command CLOSE) (parse_bare s CLOSE at 3 (Close (first_fid s at)))
    (cond (eqb command LOGOFF) (parse_logoff s at)
    (cond (eqb command TREE_DISCONNECT) (parse_bare s TREE_DISCONNECT at 0 TreeDisconnect)
    (cond (eqb command PROCESS_EXIT) (parse_bare s PROCESS_EXIT at 0 ProcessExit)
    (cond (eqb command CORE-READ) (parse_bare s CORE-READ at 5 (core_read_at s at))
    (cond (eqb command CORE-WRITE) (parse_core_write s at)
    (cond (eqb command LOCK_BYTE_RANGE) (parse_bare s LOCK_BYTE_RANGE at 5 (LockByteRange (range_fields s at)))
    (cond (eqb command UNLOCK_BYTE_RANGE) (parse_bare s UNLOCK_BYTE_RANGE at 5 (UnlockByteRange (range_fields s at)))
    (cond (eqb command OPEN) (parse_open s at) Malformed)))))))))))
