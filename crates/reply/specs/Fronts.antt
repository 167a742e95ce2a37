-- The parts of a header, of a READ's block, a core READ's and an OPEN's, in the order in which they are written. Assumes nothing.
use Rattle.std.specs.Prelude.{◌≡◌, refl, ℕ, ◌+◌, ◌*◌, ◌/◌, ◌%◌, List, [], ◌∷◌, ◌++◌, length, take, drop, replicate, None as none, Some}
use Rattle.wire.specs.LittleEndian.{byte_at}
use Rattle.message.specs.Command.{read, core_read, opened}
use Rattle.message.specs.Reply.{two, four, status_number, reply_header, link_words, reply_block}
use Rattle.message.specs.declared.refusal.Forms.{Forms}
use Rattle.chain.specs.Next.{Next}

-- Protocol, Command and Status, in the form that is asked for (document 02, CR 7): 9 bytes
unfoldable pub header_start : List ℕ → Forms → List ℕ
header_start s f = 0xFF ∷ 0x53 ∷ 0x4D ∷ 0x42 ∷ byte_at s 4 ∷ four (status_number s f)

-- Flags, Flags2, PIDHigh, SecurityFeatures and Reserved: 15 bytes
unfoldable pub header_flags : List ℕ → List ℕ
header_flags s = (128 + byte_at s 9 / 8 % 2 * 8) ∷ byte_at s 10 % 2 ∷ byte_at s 11 / 64 % 2 * 64 ∷ byte_at s 12 ∷ byte_at s 13 ∷ replicate 10 0

-- before TID: 24 bytes
pub length-header_front : (s : List ℕ) (f : Forms) → length (header_start s f ++ header_flags s) ≡ 24
unfolding header_start header_flags two four
length-header_front s f = refl

pub length-header_start : (s : List ℕ) (f : Forms) → length (header_start s f) ≡ 9
unfolding header_start two four
length-header_start s f = refl

-- "A reply copies .. TID, PIDLow, UID and MID", the header's last eight bytes
pub header-whole : (s : List ℕ) (f : Forms) → reply_header s f ≡ (header_start s f ++ header_flags s) ++ take 8 (drop 24 s)
unfolding reply_header header_start header_flags two four
header-whole s f = refl

-- WordCount, "AndX, 0xFFFF, 0, 0": 11 bytes
unfoldable pub read_start : Next → List ℕ
read_start link = 12 ∷ (link_words link ++ (0xFF ∷ 0xFF ∷ 0 ∷ 0 ∷ 0 ∷ 0 ∷ []))

-- "length, data offset, ten zero bytes", ByteCount: 16 bytes
unfoldable pub read_extent : ℕ → ℕ → List ℕ
read_extent count place = two count ++ (two (place + 27) ++ (replicate 10 0 ++ two count))

pub length-read_start : (link : Next) → length (read_start link) ≡ 11
unfolding read_start link_words two
length-read_start none = refl
length-read_start (Some follower) = refl

-- before the data: 27 bytes
pub length-read_front : (count place : ℕ) (link : Next) → length (read_start link ++ read_extent count place) ≡ 27
unfolding read_start read_extent link_words two
length-read_front count place none = refl
length-read_front count place (Some follower) = refl

-- "the bytes are the data"
pub read_whole : (bytes : List ℕ) (place : ℕ) (link : Next)
    → reply_block (read bytes) place link ≡ (read_start link ++ read_extent (length bytes) place) ++ bytes
unfolding reply_block read_start read_extent link_words two
read_whole bytes place none = refl
read_whole bytes place (Some follower) = refl

-- a core READ's "count, eight zero bytes", ByteCount, the mark and the length of its data block: 16 bytes
unfoldable pub core_front : ℕ → List ℕ
core_front count = 5 ∷ (two count ++ (replicate 8 0 ++ (two (3 + count) ++ (0x01 ∷ two count))))

pub length-core_front : (count : ℕ) → length (core_front count) ≡ 16
unfolding core_front two
length-core_front count = refl

pub core-whole : (bytes : List ℕ) (place : ℕ) (link : Next) → reply_block (core_read bytes) place link ≡ core_front (length bytes) ++ bytes
unfolding reply_block core_front two
core-whole bytes place link = refl

-- an OPEN's WordCount, AndX, FID and six zero bytes: 13 bytes
unfoldable pub open_start : ℕ → Next → List ℕ
open_start fid link = 15 ∷ (link_words link ++ (two fid ++ replicate 6 0))

-- size, access, four zero bytes, OpenResults: 12 bytes; behind them six zero bytes and ByteCount 0
unfoldable pub open_codes : ℕ → ℕ → ℕ → List ℕ
open_codes size access results = four size ++ (two access ++ (replicate 4 0 ++ two results))

pub length-open_start : (fid : ℕ) (link : Next) → length (open_start fid link) ≡ 13
unfolding open_start link_words two
length-open_start fid none = refl
length-open_start fid (Some follower) = refl

pub length-open_front : (fid size access results : ℕ) (link : Next) → length (open_start fid link ++ open_codes size access results) ≡ 25
unfolding open_start open_codes link_words two four
length-open_front fid size access results none = refl
length-open_front fid size access results (Some follower) = refl

pub open-whole : (fid size access results place : ℕ) (link : Next)
    → reply_block (opened fid size access results) place link ≡ (open_start fid link ++ open_codes size access results) ++ replicate 8 0
unfolding reply_block open_start open_codes link_words two four
open-whole fid size access results place none = refl
open-whole fid size access results place (Some follower) = refl
