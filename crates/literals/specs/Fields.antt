-- Document 01's places of the fields ("The grammar of a chain"), of the core commands' (document 02, CR 3) and of OPEN_ANDX's (CR 6), a second time, as numbers, and the whole processes of ranges (CR 4). Each message below has at each place the place itself,
-- in hex, but where the grammar asks another byte. So a field that is read at another place, or from other bytes, is another number.
-- Assumes nothing.
use Rattle.std.specs.Prelude.{◌≡◌, refl, ℕ, ◌+◌, ◌-◌, ◌*◌, ◌/◌, ◌%◌, true, false, List, [], ◌∷◌, ◌++◌, replicate, None as End, Some as Whole}
use Rattle.lists.specs.Walk.{keep}
use Rattle.wire.specs.LittleEndian.{le16_at, le32_at}
use Rattle.locks.specs.Wire.{range_size, number_at, range_from, range_at, ranges_at, small_form}
use Rattle.locks.specs.Request.{of_header, ranges_of}
use Rattle.locks.specs.declared.types.Request.{Request}
use Rattle.chain.specs.Judged.{is_whole}
use Rattle.chain.specs.Parse.{shaped, bare, is_large, locking_fits, read_fits, data_inside, write_fits, core_write_fits, terminated, open_fits, may_follow, link_fits, link_at, answer, wide_offset, parse_locking, parse_read, parse_write, parse_logoff, parse_bare, parse_core_write, parse_open, parse}
use Rattle.chain.specs.declared.block.Block.{Block}
use Rattle.chain.specs.declared.block.RangeFields.{RangeFields}
use Rattle.chain.specs.declared.block.OpenFields.{OpenFields}
use Rattle.chain.specs.declared.block.Body.{Body}
use Rattle.chain.specs.declared.block.Body.TheVariants.{Locking, Read, Write, Close, Logoff, TreeDisconnect, ProcessExit, CoreRead, CoreWrite, LockByteRange, UnlockByteRange, Open}
use Rattle.chain.specs.Next.{Next, Follow, Parsed}
use Rattle.message.specs.Caller.{caller_of}
use Rattle.message.specs.Command.{request_of, range_by, one_range, name_asked}
use Rattle.message.specs.Message.{area_of, data_of}
use Rattle.literals.specs.Counting.{count_from}

-- a header and the block behind it, at 32, which is 0x20
unfoldable pub behind_header : List ℕ → List ℕ
behind_header block =
    (0x00 ∷ 0x01 ∷ 0x02 ∷ 0x03 ∷ 0x04 ∷ 0x05 ∷ 0x06 ∷ 0x07 ∷ 0x08 ∷ 0x09 ∷ 0x0A ∷ 0x0B ∷ 0x0C ∷ 0x0D ∷ 0x0E ∷ 0x0F ∷ [])
    ++ ((0x10 ∷ 0x11 ∷ 0x12 ∷ 0x13 ∷ 0x14 ∷ 0x15 ∷ 0x16 ∷ 0x17 ∷ 0x18 ∷ 0x19 ∷ 0x1A ∷ 0x1B ∷ 0x1C ∷ 0x1D ∷ 0x1E ∷ 0x1F ∷ [])
    ++ block)

-- the block of that command, length, fields and follower at 32
unfoldable pub whole : ℕ → ℕ → Body → Next → Parsed
whole command size body next = Whole (record { command = command; at = 32; length = size; body = body; next = next })

-- a block at 32, of which a byte area and data are taken by its place alone
unfoldable pub at32 : Block
at32 = record { command = 0; at = 32; length = 0; body = Logoff; next = End }

-- "AndX words begin AndXCommand (1), reserved (1), AndXOffset (2)." "LOCKING: FID 2, type 1, oplock 1, timeout 4, unlocks 2, locks 2"; 8 words.
-- Two unlocks and a lock of 10 bytes, a READ_ANDX next; type bit 0x10 is clear in 0x27.
unfoldable pub locking10 : List ℕ
locking10 =
    behind_header
    ((0x08 ∷ 0x2E ∷ 0x22 ∷ 0x23 ∷ 0x24 ∷ 0x25 ∷ 0x26 ∷ 0x27 ∷ 0x28 ∷ 0x29 ∷ 0x2A ∷ 0x2B ∷ 0x2C ∷ 0x02 ∷ 0x00 ∷ 0x01 ∷ 0x00 ∷ 0x1E ∷ 0x00 ∷ [])
    ++ ((0x33 ∷ 0x34 ∷ 0x35 ∷ 0x36 ∷ 0x37 ∷ 0x38 ∷ 0x39 ∷ 0x3A ∷ 0x3B ∷ 0x3C ∷ [])
    ++ ((0x3D ∷ 0x3E ∷ 0x3F ∷ 0x40 ∷ 0x41 ∷ 0x42 ∷ 0x43 ∷ 0x44 ∷ 0x45 ∷ 0x46 ∷ [])
    ++ (0x47 ∷ 0x48 ∷ 0x49 ∷ 0x4A ∷ 0x4B ∷ 0x4C ∷ 0x4D ∷ 0x4E ∷ 0x4F ∷ 0x50 ∷ []))))

pub locking-10 : parse locking10 0x24 32 ≡ whole 0x24 49 (Locking (record { fid = 0x2625; kind = 0x27; unlocks = 2; locks = 1 })) (Follow 0x2E 0x2423)
unfolding whole locking10 behind_header parse parse_locking answer locking_fits link_fits link_at may_follow shaped is_large range_size le16_at
locking-10 = refl

-- "ranges, unlocks first: process 2, offset 4, length 4": they stand in the block's bytes, from 51 on
pub ranges-10 : ranges_at false (area_of locking10 at32) 0 3
    ≡ record { process = 0x3433; offset = 0x38373635; length = 0x3C3B3A39 }
    ∷ record { process = 0x3E3D; offset = 0x4241403F; length = 0x46454443 }
    ∷ record { process = 0x4847; offset = 0x4C4B4A49; length = 0x504F4E4D }
    ∷ []
unfolding at32 locking10 behind_header area_of ranges_at range_at range_from range_size number_at le16_at le32_at
ranges-10 = refl

-- the request with those fields, of the message's sender
unfoldable pub request_in : List ℕ → ℕ → ℕ → ℕ → Request
request_in s kind unlocks locks = request_of (caller_of 5 s) (record { fid = 0x2625; kind = kind; unlocks = unlocks; locks = locks })

-- document 02, CR 4: "a 16-bit process in a lock range takes its upper half from the header", where PIDHigh stands at 12; unlocks as locks
pub whole-10 : ranges_of (request_in locking10 0x27 2 1) (area_of locking10 at32) 0 3
    ≡ record { process = 0x0D0C3433; offset = 0x38373635; length = 0x3C3B3A39 }
    ∷ record { process = 0x0D0C3E3D; offset = 0x4241403F; length = 0x46454443 }
    ∷ record { process = 0x0D0C4847; offset = 0x4C4B4A49; length = 0x504F4E4D }
    ∷ []
unfolding request_in request_of caller_of ranges_of of_header at32 locking10 behind_header area_of ranges_at range_at range_from range_size number_at le16_at le32_at
whole-10 = refl

-- the same with type bit 0x10 set, which is 0x37: an unlock and a lock of 20 bytes, a WRITE_ANDX next
unfoldable pub locking20 : List ℕ
locking20 =
    behind_header
    ((0x08 ∷ 0x2F ∷ 0x22 ∷ 0x23 ∷ 0x24 ∷ 0x25 ∷ 0x26 ∷ 0x37 ∷ 0x28 ∷ 0x29 ∷ 0x2A ∷ 0x2B ∷ 0x2C ∷ 0x01 ∷ 0x00 ∷ 0x01 ∷ 0x00 ∷ 0x28 ∷ 0x00 ∷ [])
    ++ ((0x33 ∷ 0x34 ∷ 0x35 ∷ 0x36 ∷ 0x37 ∷ 0x38 ∷ 0x39 ∷ 0x3A ∷ 0x3B ∷ 0x3C ∷ 0x3D ∷ 0x3E ∷ 0x3F ∷ 0x40 ∷ 0x41 ∷ 0x42 ∷ 0x43 ∷ 0x44 ∷ 0x45 ∷ 0x46 ∷ [])
    ++ (0x47 ∷ 0x48 ∷ 0x49 ∷ 0x4A ∷ 0x4B ∷ 0x4C ∷ 0x4D ∷ 0x4E ∷ 0x4F ∷ 0x50 ∷ 0x51 ∷ 0x52 ∷ 0x53 ∷ 0x54 ∷ 0x55 ∷ 0x56 ∷ 0x57 ∷ 0x58 ∷ 0x59 ∷ 0x5A ∷ [])))

pub locking-20 : parse locking20 0x24 32 ≡ whole 0x24 59 (Locking (record { fid = 0x2625; kind = 0x37; unlocks = 1; locks = 1 })) (Follow 0x2F 0x2423)
unfolding whole locking20 behind_header parse parse_locking answer locking_fits link_fits link_at may_follow shaped is_large range_size le16_at
locking-20 = refl

-- "or process 2, pad 2, offset high 4, low 4, length high 4, low 4"
pub ranges-20 : ranges_at true (area_of locking20 at32) 0 2
    ≡ record { process = 0x3433; offset = 0x3A3938373E3D3C3B; length = 0x4241403F46454443 }
    ∷ record { process = 0x4847; offset = 0x4E4D4C4B5251504F; length = 0x565554535A595857 }
    ∷ []
unfolding at32 locking20 behind_header area_of ranges_at range_at range_from range_size number_at le16_at le32_at
ranges-20 = refl

-- the upper half from the header here too: the pad is not looked at
pub whole-20 : ranges_of (request_in locking20 0x37 1 1) (area_of locking20 at32) 0 2
    ≡ record { process = 0x0D0C3433; offset = 0x3A3938373E3D3C3B; length = 0x4241403F46454443 }
    ∷ record { process = 0x0D0C4847; offset = 0x4E4D4C4B5251504F; length = 0x565554535A595857 }
    ∷ []
unfolding request_in request_of caller_of ranges_of of_header at32 locking20 behind_header area_of ranges_at range_at range_from range_size number_at le16_at le32_at
whole-20 = refl

-- "READ: FID 2, offset 4, max 2, min 2, timeout 4, remaining 2": 10 words and no byte; a CLOSE next
unfoldable pub read10 : List ℕ
read10 =
    behind_header
    ((0x0A ∷ 0x04 ∷ 0x22 ∷ 0x23 ∷ 0x24 ∷ 0x25 ∷ 0x26 ∷ 0x27 ∷ 0x28 ∷ 0x29 ∷ 0x2A ∷ 0x2B ∷ 0x2C ∷ 0x2D ∷ 0x2E ∷ 0x2F ∷ [])
    ++ (0x30 ∷ 0x31 ∷ 0x32 ∷ 0x33 ∷ 0x34 ∷ 0x00 ∷ 0x00 ∷ []))

pub read-10 : parse read10 0x2E 32 ≡ whole 0x2E 23 (Read (record { fid = 0x2625; offset = 0x2A292827; max = 0x2C2B })) (Follow 0x04 0x2423)
unfolding whole read10 behind_header parse parse_read answer read_fits link_fits link_at may_follow bare shaped wide_offset le16_at le32_at
read-10 = refl

-- "offset high 4 if 12 words"
unfoldable pub read12 : List ℕ
read12 =
    behind_header
    ((0x0C ∷ 0x04 ∷ 0x22 ∷ 0x23 ∷ 0x24 ∷ 0x25 ∷ 0x26 ∷ 0x27 ∷ 0x28 ∷ 0x29 ∷ 0x2A ∷ 0x2B ∷ 0x2C ∷ 0x2D ∷ 0x2E ∷ 0x2F ∷ [])
    ++ (0x30 ∷ 0x31 ∷ 0x32 ∷ 0x33 ∷ 0x34 ∷ 0x35 ∷ 0x36 ∷ 0x37 ∷ 0x38 ∷ 0x00 ∷ 0x00 ∷ []))

pub read-12 : parse read12 0x2E 32 ≡ whole 0x2E 27 (Read (record { fid = 0x2625; offset = 0x383736352A292827; max = 0x2C2B })) (Follow 0x04 0x2423)
unfolding whole read12 behind_header parse parse_read answer read_fits link_fits link_at may_follow bare shaped wide_offset le16_at le32_at
read-12 = refl

-- "WRITE: FID 2, offset 4, timeout 4, mode 2, remaining 2, reserved 2, length 2, data offset 2": 12 words. Its byte area is the 8 bytes from 0x3B
-- on, its data 3 of them from 0x3D on; a WRITE_ANDX next.
unfoldable pub write12 : List ℕ
write12 =
    behind_header
    ((0x0C ∷ 0x2F ∷ 0x22 ∷ 0x23 ∷ 0x24 ∷ 0x25 ∷ 0x26 ∷ 0x27 ∷ 0x28 ∷ 0x29 ∷ 0x2A ∷ 0x2B ∷ 0x2C ∷ 0x2D ∷ 0x2E ∷ 0x2F ∷ [])
    ++ ((0x30 ∷ 0x31 ∷ 0x32 ∷ 0x33 ∷ 0x34 ∷ 0x03 ∷ 0x00 ∷ 0x3D ∷ 0x00 ∷ 0x08 ∷ 0x00 ∷ [])
    ++ (0x3B ∷ 0x3C ∷ 0x3D ∷ 0x3E ∷ 0x3F ∷ 0x40 ∷ 0x41 ∷ 0x42 ∷ [])))

pub write-12 : parse write12 0x2F 32 ≡ whole 0x2F 35 (Write (record { fid = 0x2625; offset = 0x2A292827; count = 3; from = 0x3D })) (Follow 0x2F 0x2423)
unfolding whole write12 behind_header parse parse_write answer write_fits data_inside link_fits link_at may_follow shaped wide_offset le16_at le32_at
write-12 = refl

-- "offset high 4 if 14": its byte area is the 8 bytes from 0x3F on, its data 3 of them from 0x41 on; a READ_ANDX next
unfoldable pub write14 : List ℕ
write14 =
    behind_header
    ((0x0E ∷ 0x2E ∷ 0x22 ∷ 0x23 ∷ 0x24 ∷ 0x25 ∷ 0x26 ∷ 0x27 ∷ 0x28 ∷ 0x29 ∷ 0x2A ∷ 0x2B ∷ 0x2C ∷ 0x2D ∷ 0x2E ∷ 0x2F ∷ [])
    ++ ((0x30 ∷ 0x31 ∷ 0x32 ∷ 0x33 ∷ 0x34 ∷ 0x03 ∷ 0x00 ∷ 0x41 ∷ 0x00 ∷ 0x39 ∷ 0x3A ∷ 0x3B ∷ 0x3C ∷ 0x08 ∷ 0x00 ∷ [])
    ++ (0x3F ∷ 0x40 ∷ 0x41 ∷ 0x42 ∷ 0x43 ∷ 0x44 ∷ 0x45 ∷ 0x46 ∷ [])))

pub write-14 : parse write14 0x2F 32
    ≡ whole 0x2F 39 (Write (record { fid = 0x2625; offset = 0x3C3B3A392A292827; count = 3; from = 0x41 })) (Follow 0x2E 0x2423)
unfolding whole write14 behind_header parse parse_write answer write_fits data_inside link_fits link_at may_follow shaped wide_offset le16_at le32_at
write-14 = refl

-- the bytes that the two blocks write
pub write-data : (data_of write12 at32 ≡ 0x3D ∷ 0x3E ∷ 0x3F ∷ [])
    × (data_of write14 at32 ≡ 0x41 ∷ 0x42 ∷ 0x43 ∷ [])
unfolding at32 write12 write14 behind_header data_of le16_at
write-data = (refl, refl)

-- "CLOSE: FID 2, time 4": 3 words, no AndX, no byte
pub close-3 : parse (behind_header (0x03 ∷ 0x21 ∷ 0x22 ∷ 0x23 ∷ 0x24 ∷ 0x25 ∷ 0x26 ∷ 0x00 ∷ 0x00 ∷ [])) 0x04 32 ≡ whole 0x04 9 (Close 0x2221) End
unfolding whole behind_header parse parse_bare answer bare shaped le16_at
close-3 = refl

-- LOGOFF: 2 words, AndX alone. "0xFF ends the chain and the offset is ignored."
pub logoff-2 : parse (behind_header (0x02 ∷ 0xFF ∷ 0x22 ∷ 0x23 ∷ 0x24 ∷ 0x00 ∷ 0x00 ∷ [])) 0x74 32 ≡ whole 0x74 7 Logoff End
unfolding whole behind_header parse parse_logoff answer link_fits link_at may_follow bare shaped le16_at
logoff-2 = refl

-- TREE_DISCONNECT and PROCESS_EXIT: 0 words and 0 bytes
pub empty-0 : (parse (behind_header (0x00 ∷ 0x00 ∷ 0x00 ∷ [])) 0x71 32 ≡ whole 0x71 3 TreeDisconnect End)
    × (parse (behind_header (0x00 ∷ 0x00 ∷ 0x00 ∷ [])) 0x11 32 ≡ whole 0x11 3 ProcessExit End)
unfolding whole behind_header parse parse_bare answer bare shaped le16_at
empty-0 = (refl, refl)

-- ---- the core commands (document 02, CR 3; the words are source document 000's)

-- READ: "file handle; count of bytes; offset low; offset high; count left": 5 words, no AndX, no byte
pub core-read-5 : parse (behind_header (0x05 ∷ 0x21 ∷ 0x22 ∷ 0x23 ∷ 0x24 ∷ 0x25 ∷ 0x26 ∷ 0x27 ∷ 0x28 ∷ 0x29 ∷ 0x2A ∷ 0x00 ∷ 0x00 ∷ [])) 0x0A 32
    ≡ whole 0x0A 13 (CoreRead (record { fid = 0x2221; offset = 0x28272625; max = 0x2423 })) End
unfolding whole behind_header parse parse_bare answer bare shaped le16_at le32_at
core-read-5 = refl

-- WRITE: the same words, and "length of data + 3" bytes: "Data Block -- 01; length of data; data". Its byte area starts at 0x2D, its 3 bytes of data at 0x30.
unfoldable pub core_write5 : List ℕ
core_write5 =
    behind_header
    ((0x05 ∷ 0x21 ∷ 0x22 ∷ 0x03 ∷ 0x00 ∷ 0x25 ∷ 0x26 ∷ 0x27 ∷ 0x28 ∷ 0x29 ∷ 0x2A ∷ 0x06 ∷ 0x00 ∷ [])
    ++ (0x01 ∷ 0x03 ∷ 0x00 ∷ 0x30 ∷ 0x31 ∷ 0x32 ∷ 0x33 ∷ []))

pub core-write-5 : (parse core_write5 0x0B 32 ≡ whole 0x0B 19 (CoreWrite (record { fid = 0x2221; offset = 0x28272625; count = 3; from = 0x30 })) End)
    × (area_of core_write5 at32 ≡ 0x01 ∷ 0x03 ∷ 0x00 ∷ 0x30 ∷ 0x31 ∷ 0x32 ∷ [])
unfolding whole at32 core_write5 behind_header area_of parse parse_core_write answer core_write_fits shaped le16_at le32_at
core-write-5 = (refl, refl)

-- LOCK_BYTE_RANGE and UNLOCK_BYTE_RANGE: "file handle; count low; count high; offset low; offset high": the count first
unfoldable pub range5 : List ℕ
range5 = behind_header (0x05 ∷ 0x21 ∷ 0x22 ∷ 0x23 ∷ 0x24 ∷ 0x25 ∷ 0x26 ∷ 0x27 ∷ 0x28 ∷ 0x29 ∷ 0x2A ∷ 0x00 ∷ 0x00 ∷ [])

unfoldable pub its_range : RangeFields
its_range = record { fid = 0x2221; offset = 0x2A292827; length = 0x26252423 }

pub range-5 : (parse range5 0x0C 32 ≡ whole 0x0C 13 (LockByteRange its_range) End) × (parse range5 0x0D 32 ≡ whole 0x0D 13 (UnlockByteRange its_range) End)
unfolding whole its_range range5 behind_header parse parse_bare answer bare shaped le16_at le32_at
range-5 = (refl, refl)

-- the LOCKING that it is, with that many unlocks and locks
unfoldable pub as_locking : ℕ → ℕ → Request
as_locking unlocks locks = request_of (caller_of 5 range5) (one_range its_range unlocks locks)

-- "the process from the header; the lock is exclusive": an exclusive request for the one range, whole numbers all
pub range-asked : (as_locking 0 1 ≡ record { fid = 0x2221; high = 0x0D0C; shared = false; large = false; unlocks = 0; locks = 1 })
    × (as_locking 1 0 ≡ record { fid = 0x2221; high = 0x0D0C; shared = false; large = false; unlocks = 1; locks = 0 })
    × (ranges_of (as_locking 0 1) (small_form (range_by (caller_of 5 range5) its_range)) 0 1 ≡ record { process = 0x0D0C1B1A; offset = 0x2A292827; length = 0x26252423 } ∷ [])
unfolding as_locking its_range one_range request_of caller_of range_by small_form range5 behind_header ranges_of of_header ranges_at range_at range_from range_size number_at le16_at le32_at
range-asked = (refl, refl, refl)

-- a core WRITE with that count word, ByteCount, mark and length of its data block, and 600 bytes behind them
unfoldable pub data_block : List ℕ → List ℕ → ℕ → List ℕ → List ℕ
data_block count bytes mark size =
    behind_header
    ((0x05 ∷ 0x21 ∷ 0x22 ∷ []) ++ (count ++ ((0x25 ∷ 0x26 ∷ 0x27 ∷ 0x28 ∷ 0x29 ∷ 0x2A ∷ []) ++ (bytes ++ (mark ∷ (size ++ replicate 600 0x01))))))

-- the bytes from 0 to 255 with which it is one
unfoldable pub fitting : (ℕ → List ℕ) → List ℕ
fitting block = keep (λ x. is_whole (parse (block x) 0x0B 32)) (count_from 0 256)

-- "a data block not marked 0x01 or whose lengths disagree is 2/1": of each byte just one value fits the others, here of a count of 3 and of one of 258
pub data-block : (fitting (λ x. data_block (3 ∷ 0 ∷ []) (6 ∷ 0 ∷ []) x (3 ∷ 0 ∷ [])) ≡ 1 ∷ [])
    × (fitting (λ x. data_block (x ∷ 0 ∷ []) (6 ∷ 0 ∷ []) 1 (3 ∷ 0 ∷ [])) ≡ 3 ∷ [])
    × (fitting (λ x. data_block (3 ∷ 0 ∷ []) (x ∷ 0 ∷ []) 1 (3 ∷ 0 ∷ [])) ≡ 6 ∷ [])
    × (fitting (λ x. data_block (3 ∷ 0 ∷ []) (6 ∷ 0 ∷ []) 1 (x ∷ 0 ∷ [])) ≡ 3 ∷ [])
    × (fitting (λ x. data_block (2 ∷ x ∷ []) (5 ∷ 1 ∷ []) 1 (2 ∷ 1 ∷ [])) ≡ 1 ∷ [])
    × (fitting (λ x. data_block (2 ∷ 1 ∷ []) (5 ∷ x ∷ []) 1 (2 ∷ 1 ∷ [])) ≡ 1 ∷ [])
    × (fitting (λ x. data_block (2 ∷ 1 ∷ []) (5 ∷ 1 ∷ []) 1 (2 ∷ x ∷ [])) ≡ 1 ∷ [])
unfolding fitting keep count_from data_block is_whole behind_header parse parse_core_write answer core_write_fits shaped le16_at le32_at
data-block = (refl, refl, refl, refl, refl, refl, refl)

-- ---- OPEN_ANDX (document 02, CR 6; the words are [MS-CIFS]'s)

-- "Flags 2, AccessMode 2, SearchAttrs 2, FileAttrs 2, CreationTime 4, OpenMode 2, AllocationSize 4, Timeout 4, Reserved 4": 15 words; a READ_ANDX next. Flags' bit 0 is set in 0x25; of 0x27 the access is
-- 7 and the sharing code 2; OpenMode is the whole word at 0x31. Its byte area starts at 0x41: the name 41 42 43, and a zero byte.
unfoldable pub open15 : List ℕ
open15 =
    behind_header
    ((0x0F ∷ 0x2E ∷ 0x22 ∷ 0x23 ∷ 0x24 ∷ 0x25 ∷ 0x26 ∷ 0x27 ∷ 0x28 ∷ 0x29 ∷ 0x2A ∷ 0x2B ∷ 0x2C ∷ 0x2D ∷ 0x2E ∷ 0x2F ∷ [])
    ++ ((0x30 ∷ 0x31 ∷ 0x32 ∷ 0x33 ∷ 0x34 ∷ 0x35 ∷ 0x36 ∷ 0x37 ∷ 0x38 ∷ 0x39 ∷ 0x3A ∷ 0x3B ∷ 0x3C ∷ 0x3D ∷ 0x3E ∷ 0x04 ∷ 0x00 ∷ [])
    ++ (0x41 ∷ 0x42 ∷ 0x43 ∷ 0x00 ∷ 0x45 ∷ [])))

pub open-15 : (parse open15 0x2D 32 ≡ whole 0x2D 37 (Open (record { full = true; access = 7; sharing = 2; mode = 0x3231 })) (Follow 0x2E 0x2423))
    × (name_asked (area_of open15 at32) ≡ 0x41 ∷ 0x42 ∷ 0x43 ∷ [])
unfolding whole at32 open15 behind_header area_of name_asked parse parse_open answer open_fits terminated link_fits link_at may_follow shaped le16_at
open-15 = (refl, refl)

-- the same with that lower byte of Flags and of AccessMode, a name of those bytes, and no block behind it
unfoldable pub open_with : ℕ → ℕ → List ℕ → List ℕ
open_with flags access bytes =
    behind_header
    ((0x0F ∷ 0xFF ∷ 0x22 ∷ 0x23 ∷ 0x24 ∷ flags ∷ 0x26 ∷ access ∷ 0x28 ∷ 0x29 ∷ 0x2A ∷ 0x2B ∷ 0x2C ∷ 0x2D ∷ 0x2E ∷ 0x2F ∷ [])
    ++ ((0x30 ∷ 0x31 ∷ 0x32 ∷ 0x33 ∷ 0x34 ∷ 0x35 ∷ 0x36 ∷ 0x37 ∷ 0x38 ∷ 0x39 ∷ 0x3A ∷ 0x3B ∷ 0x3C ∷ 0x3D ∷ 0x3E ∷ []) ++ bytes))

unfoldable pub its_open : OpenFields → Parsed
its_open f = whole 0x2D 34 (Open f) End

-- "Flags bit 0": none of the others. "Other AccessMode bits are ignored": access is bits 0 to 2, sharing bits 4 to 6, so that 0x5D, 0x55, 0xD5 and 0xDD are the same
pub open-bits : (parse (open_with 0xFE 0x23 (1 ∷ 0 ∷ 0 ∷ [])) 0x2D 32 ≡ its_open (record { full = false; access = 3; sharing = 2; mode = 0x3231 }))
    × (parse (open_with 0x01 0x5D (1 ∷ 0 ∷ 0 ∷ [])) 0x2D 32 ≡ its_open (record { full = true; access = 5; sharing = 5; mode = 0x3231 }))
    × (parse (open_with 0x01 0x55 (1 ∷ 0 ∷ 0 ∷ [])) 0x2D 32 ≡ its_open (record { full = true; access = 5; sharing = 5; mode = 0x3231 }))
    × (parse (open_with 0x01 0xD5 (1 ∷ 0 ∷ 0 ∷ [])) 0x2D 32 ≡ its_open (record { full = true; access = 5; sharing = 5; mode = 0x3231 }))
    × (parse (open_with 0x01 0xDD (1 ∷ 0 ∷ 0 ∷ [])) 0x2D 32 ≡ its_open (record { full = true; access = 5; sharing = 5; mode = 0x3231 }))
    × (parse (open_with 0x01 0xF8 (1 ∷ 0 ∷ 0 ∷ [])) 0x2D 32 ≡ its_open (record { full = true; access = 0; sharing = 7; mode = 0x3231 }))
    × (parse (open_with 0x01 0x8F (1 ∷ 0 ∷ 0 ∷ [])) 0x2D 32 ≡ its_open (record { full = true; access = 7; sharing = 0; mode = 0x3231 }))
unfolding its_open whole open_with behind_header parse parse_open answer open_fits terminated link_fits link_at may_follow shaped le16_at
open-bits = (refl, refl, refl, refl, refl, refl, refl)

-- the bytes from 0 to 255 with which a byte area is a name and one zero byte
unfoldable pub naming : (ℕ → List ℕ) → List ℕ
naming bytes = keep (λ x. is_whole (parse (open_with 0 0 (bytes x)) 0x2D 32)) (count_from 0 256)

-- "a name of any length, even none, without zero bytes, then one zero byte": of a name's byte, every one but 0; of the last, 0 alone; of ByteCount's lower byte, here before 41 00 42 00, 2 alone
pub name-bytes : (naming (λ x. 1 ∷ 0 ∷ x ∷ []) ≡ 0 ∷ [])
    × (naming (λ x. 3 ∷ 0 ∷ x ∷ 0x42 ∷ 0 ∷ []) ≡ count_from 1 255)
    × (naming (λ x. 3 ∷ 0 ∷ 0x41 ∷ x ∷ 0 ∷ []) ≡ count_from 1 255)
    × (naming (λ x. 3 ∷ 0 ∷ 0x41 ∷ 0x42 ∷ x ∷ []) ≡ 0 ∷ [])
    × (naming (λ x. x ∷ 0 ∷ 0x41 ∷ 0 ∷ 0x42 ∷ replicate 300 0) ≡ 2 ∷ [])
    × (is_whole (parse (open_with 0 0 ((0x01 ∷ 0x01 ∷ replicate 256 0x41) ++ (0 ∷ []))) 0x2D 32) ≡ true)
unfolding naming keep count_from is_whole open_with behind_header parse parse_open answer open_fits terminated link_fits link_at may_follow shaped le16_at
name-bytes = (refl, refl, refl, refl, refl, refl)

-- ---- no other number of words

-- a block of that many words with no byte, all 0 but for its first word's first byte; and one of a WRITE with no data, its DataOffset where its
-- byte area starts, which is 35 + 2 × words
unfoldable pub zeros : ℕ → ℕ → List ℕ
zeros first words = behind_header (words ∷ first ∷ replicate 511 0)

unfoldable pub no_data : ℕ → List ℕ
no_data words = behind_header ((words ∷ 0xFF ∷ replicate 21 0) ++ ((35 + 2 * words) % 256 ∷ (35 + 2 * words) / 256 ∷ replicate 600 0))

-- one of a core WRITE of count 0, its data block empty
unfoldable pub empty_data : ℕ → List ℕ
empty_data words = behind_header ((words ∷ replicate (2 * words) 0) ++ (3 ∷ 0 ∷ 1 ∷ 0 ∷ 0 ∷ []))

-- one of an OPEN_ANDX with an empty name
unfoldable pub empty_name : ℕ → List ℕ
empty_name words = behind_header ((words ∷ 0xFF ∷ replicate (2 * words - 1) 0) ++ (1 ∷ 0 ∷ 0 ∷ []))

-- the word counts from 0 to 255 with which such a block is one of that command
unfoldable pub word_counts : ℕ → (ℕ → List ℕ) → List ℕ
word_counts command block = keep (λ words. is_whole (parse (block words) command 32)) (count_from 0 256)

-- the column "Words"
pub words-column : (word_counts 0x24 (zeros 0xFF) ≡ 8 ∷ [])
    × (word_counts 0x2E (zeros 0xFF) ≡ 10 ∷ 12 ∷ [])
    × (word_counts 0x2F no_data ≡ 12 ∷ 14 ∷ [])
    × (word_counts 0x04 (zeros 0) ≡ 3 ∷ [])
    × (word_counts 0x74 (zeros 0xFF) ≡ 2 ∷ [])
    × (word_counts 0x71 (zeros 0) ≡ 0 ∷ [])
    × (word_counts 0x11 (zeros 0) ≡ 0 ∷ [])
    × (word_counts 0x0A (zeros 0) ≡ 5 ∷ [])
    × (word_counts 0x0B empty_data ≡ 5 ∷ [])
    × (word_counts 0x0C (zeros 0) ≡ 5 ∷ [])
    × (word_counts 0x0D (zeros 0) ≡ 5 ∷ [])
    × (word_counts 0x2D empty_name ≡ 15 ∷ [])
unfolding word_counts keep count_from zeros no_data empty_data empty_name is_whole behind_header parse parse_locking parse_read parse_write parse_logoff parse_bare parse_core_write parse_open answer locking_fits read_fits write_fits core_write_fits open_fits terminated data_inside link_fits link_at may_follow is_large range_size bare shaped wide_offset le16_at le32_at
words-column = (refl, refl, refl, refl, refl, refl, refl, refl, refl, refl, refl, refl)
