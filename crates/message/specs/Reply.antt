-- The bytes of a reply (document 01, "Header" and "Reply blocks"; document 02, CR 3, CR 6 and CR 7). Assumes nothing.
use Rattle.std.specs.Prelude.{ℕ, ◌+◌, ◌*◌, ◌/◌, ◌%◌, Bool, cond, List, [], ◌∷◌, ◌++◌, length, take, drop, replicate, eqb, None as none, Some}
use Rattle.wire.specs.LittleEndian.{byte_at}
use Rattle.message.specs.declared.refusal.Status.{Status}
use Rattle.message.specs.declared.refusal.Forms.{Forms}
use Rattle.message.specs.Command.{Said, locked, logged_off, read, wrote, plain, core_read, core_wrote, opened}
use Rattle.chain.specs.Next.{Next}

-- a number in two bytes, the lower first
unfoldable pub two : ℕ → List ℕ
two n = n % 256 ∷ n / 256 % 256 ∷ []

-- one in four
unfoldable pub four : ℕ → List ℕ
four n = two n ++ two (n / 65536)

-- "Flags2 bit 0x4000" of a message, which is bit 0x40 of the byte at 11
unfoldable pub nt_bit : List ℕ → Bool
nt_bit s = eqb (byte_at s 11 / 64 % 2) 1

-- "SMBSTATUS is class, 0, code": the number whose four bytes these are
unfoldable pub smb_number : Status → ℕ
smb_number status = status.class + 65536 * status.code

-- "With the bit set in a request, the reply .. carries" the NTSTATUS
unfoldable pub status_number : List ℕ → Forms → ℕ
status_number s f = cond (nt_bit s) f.nt (smb_number f.status)

-- "A reply copies Command, PIDHigh, TID, PIDLow, UID and MID; Flags is 0x80 plus the request's 0x08; .. the rest is 0 but for Status"; Flags2 is the request's & 0x4001 (docs/DECISIONS.md, 127)
unfoldable pub reply_header : List ℕ → Forms → List ℕ
reply_header s f =
    (0xFF ∷ 0x53 ∷ 0x4D ∷ 0x42 ∷ byte_at s 4 ∷ [])
    ++ (four (status_number s f)
    ++ (((128 + byte_at s 9 / 8 % 2 * 8) ∷ byte_at s 10 % 2 ∷ byte_at s 11 / 64 % 2 * 64 ∷ byte_at s 12 ∷ byte_at s 13 ∷ [])
    ++ (replicate 10 0 ++ take 8 (drop 24 s))))

-- "with none it is FF 00 00 00"
unfoldable pub link_words : Next → List ℕ
link_words none = 0xFF ∷ 0 ∷ 0 ∷ 0 ∷ []
link_words (Some next) = next.command ∷ 0 ∷ two next.at

-- "LOCKING and LOGOFF: 2 words. READ: 12 words: AndX, 0xFFFF, 0, 0, length, data offset, ten zero bytes; the bytes are the
-- data. WRITE: 6 words: AndX, count, 0xFFFF, four zero bytes. Others: 0 words." The block stands at `place`; a READ's data
-- stand behind its 27 bytes before them. The core READ (source document 000): 5 words: count, eight zero bytes; the bytes are a data block, 0x01,
-- length, data. The core WRITE: 1 word, the count. LOCK_BYTE_RANGE and UNLOCK_BYTE_RANGE are among the others. OPEN_ANDX
-- (source document 001): 15 words: AndX, FID 2, attributes 2 and time 4, size 4, access 2, resource type 2 and pipe status 2, OpenResults 2, reserved 6.
unfoldable pub reply_block : Said → ℕ → Next → List ℕ
reply_block locked place link = 2 ∷ (link_words link ++ (0 ∷ 0 ∷ []))
reply_block logged_off place link = 2 ∷ (link_words link ++ (0 ∷ 0 ∷ []))
reply_block (read bytes) place link =
    12 ∷ (link_words link
    ++ (two 0xFFFF ++ (two 0 ++ (two 0 ++ (two (length bytes) ++ (two (place + 27) ++ (replicate 10 0 ++ (two (length bytes) ++ bytes))))))))
reply_block (wrote count) place link = 6 ∷ (link_words link ++ (two count ++ (two 0xFFFF ++ (replicate 4 0 ++ (0 ∷ 0 ∷ [])))))
reply_block plain place link = 0 ∷ 0 ∷ 0 ∷ []
reply_block (core_read bytes) place link =
    5 ∷ (two (length bytes) ++ (replicate 8 0 ++ (two (3 + length bytes) ++ (0x01 ∷ (two (length bytes) ++ bytes)))))
reply_block (core_wrote count) place link = 1 ∷ (two count ++ (0 ∷ 0 ∷ []))
reply_block (opened fid size access results) place link =
    15 ∷ (link_words link
    ++ (two fid ++ (replicate 6 0 ++ (four size ++ (two access ++ (replicate 4 0 ++ (two results ++ (replicate 6 0 ++ (0 ∷ 0 ∷ [])))))))))

-- "A refused command or message gives WordCount 0 and ByteCount 0"
unfoldable pub refused_block : List ℕ
refused_block = 0 ∷ 0 ∷ 0 ∷ []

-- how long a reply block is, whatever it names and wherever it stands
unfoldable pub reply_size : Said → ℕ
reply_size locked = 7
reply_size logged_off = 7
reply_size (read bytes) = 27 + length bytes
reply_size (wrote count) = 15
reply_size plain = 3
reply_size (core_read bytes) = 16 + length bytes
reply_size (core_wrote count) = 5
reply_size (opened fid size access results) = 33
