-- OPEN_ANDX (document 02, CR 6; source document 001) in whole messages: whole replies, byte for byte, alone and before a READ_ANDX, each refusal and the order of them, byte areas that are no name, and what a call
-- leaves. Messages and replies are those of Replies.antt. Assumes nothing.
use Rattle.std.specs.Prelude.{◌≡◌, refl, ℕ, false, List, [], ◌∷◌, ◌++◌, map, eqb, length, replicate}
use Rattle.lists.specs.Walk.{any, all, all_tails, keep, found_from, found}
use Rattle.lists.specs.Put.{put}
use Rattle.lists.specs.Stored.{stored}
use Rattle.wire.specs.LittleEndian.{le16_at, le32_at}
use Rattle.records.specs.declared.Open.{Open}
use Rattle.records.specs.declared.Lock.{Lock}
use Rattle.records.specs.declared.File.{File}
use Rattle.records.specs.declared.Name.{Name}
use Rattle.records.specs.declared.Session.{Session}
use Rattle.records.specs.declared.Tree.{Tree}
use Rattle.records.specs.declared.Tables.{Tables}
use Rattle.records.specs.Held.{with_sessions, with_trees, with_opens, with_locks}
use Rattle.locks.specs.Range.{overlaps, passes_end}
use Rattle.locks.specs.Wire.{range_size, number_at, range_from, range_at, ranges_at}
use Rattle.locks.specs.Answer.{owns, bars, in_way, named, answers_for, answers}
use Rattle.locks.specs.Request.{of_header, ranges_of, ask_of, lock_of, remove_at, after_find, release_all, after_walk, grant_all, after_grants, range_passes, after_releases, request, settle, locking}
use Rattle.numbers.specs.Number.{contains, number_ok, numbered, free_from, smallest_free}
use Rattle.catalogue.specs.Name.{folded, same_name, name_bytes, is_named, not_zero, name_ok, differ, none_doubled, catalogue_ok}
use Rattle.soundness.specs.File.{file_of}
use Rattle.soundness.specs.Lookup.{is_tree}
use Rattle.soundness.specs.Sound.{within_room, file_ok, tree_ok, permits, holds_open, sharing_ok, open_ok, sound_records, lock_ok, agree, agree_all, sound_locks, sound, seen_ok}
use Rattle.removal.specs.Removal.{session_named, tree_named, open_named as open_gone, session_stays, tree_stays, open_stays, lock_stays, sweep_sessions, sweep_trees, sweep_opens, sweep_locks, remove}
use Rattle.chain.specs.Header.{starts_smb, is_reply, dropped}
use Rattle.chain.specs.Parse.{shaped, bare, is_large, locking_fits, read_fits, terminated, open_fits, may_follow, link_fits, link_at, answer, wide_offset, parse_locking, parse_read, parse_open, parse_bare, parse}
use Rattle.chain.specs.Chain.{before, after_block, after_parse, blocks_within, blocks_from, blocks}
use Rattle.message.specs.Caller.{caller_of}
use Rattle.message.specs.Refusal.{status, forms_of, holder_of}
use Rattle.message.specs.Contents.{size_of, contents, read_bytes}
use Rattle.message.specs.Sharing.{reads, writes, denies_reading, denies_writing, denied, kept_out}
use Rattle.message.specs.Command.{is_session, with_session, with_tree, is_open, open_at, with_open, served_type, request_of, with_lock_list, locking_end, locking_after, do_locking, ask_by, unless_barred, barring, do_read, codes_served, name_asked, open_by, opened_said, open_file, open_named, do_open, perform}
use Rattle.message.specs.Reply.{two, four, reply_header, link_words, reply_block, refused_block, reply_size, nt_bit, smb_number, status_number}
use Rattle.message.specs.JustOpened.{opened_by, fid_meant, body_meant}
use Rattle.message.specs.Message.{area_of, data_of, after, link_to, after_given, run, served, only_status, run_chain, answered, reply_of, replied, take-message}
use Rattle.literals.specs.Counting.{count_from}
use Rattle.literals.specs.State.{session, tree, open_of, having-read, name, memory}
use Rattle.literals.specs.Replies.{message, lock100, lock_block, range100, taken, Given, given, reply, done_reply, Row, refusal}
use Rattle.records.specs.Change.{changes_of, noting}

-- ---- tables with a catalogue

-- the names: CRL.PEM of file 1, A of file 2, twelve letters A to L of file 15, COPY of file 1 too, [Z of file 3
unfoldable pub crl : List ℕ
crl = 0x43 ∷ 0x52 ∷ 0x4C ∷ 0x2E ∷ 0x50 ∷ 0x45 ∷ 0x4D ∷ []

unfoldable pub twelve : List ℕ
twelve = 0x41 ∷ 0x42 ∷ 0x43 ∷ 0x44 ∷ 0x45 ∷ 0x46 ∷ 0x47 ∷ 0x48 ∷ 0x49 ∷ 0x4A ∷ 0x4B ∷ 0x4C ∷ []

unfoldable pub five_names : List Name
five_names = name crl 1 ∷ name (0x41 ∷ []) 2 ∷ name twelve 15 ∷ name (0x43 ∷ 0x4F ∷ 0x50 ∷ 0x59 ∷ []) 1 ∷ name (0x5B ∷ 0x5A ∷ []) 3 ∷ []

-- file 1 has a size of 6 and was changed 8 times, file 2 a size of 3,845, which is 0x0F05, and a change number of four bytes
unfoldable pub two_sizes : List File
two_sizes =
    record { size = 0; changes = 0 } ∷ record { size = 6; changes = 8 } ∷ record { size = 0x0F05; changes = 0x01020304 } ∷ replicate 13 (record { size = 0; changes = 0 })

unfoldable pub catalogued : List Session → List Tree → List Open → List Lock → Tables
catalogued sessions trees opens locks =
    record {
      sessions = sessions;
      nsessions = length sessions;
      trees = trees;
      ntrees = length trees;
      opens = opens;
      nopens = length opens;
      locks = locks;
      nlocks = length locks;
      files = two_sizes;
      names = five_names;
      nnames = 5;
    }

-- UID 3 on connection 5, its tree TID 2 with that right, and those opens
unfoldable pub having : ℕ → List Open → Tables
having right opens = catalogued (session 3 5 ∷ []) (tree 2 3 right ∷ []) opens []

-- with no open, and the tree for reading and writing
unfoldable pub no_opens : Tables
no_opens = having 1 []

-- an open of another session, UID 1 on connection 6, and its tree TID 1: that FID, file, access and sharing code
unfoldable pub another : ℕ → ℕ → ℕ → ℕ → Open
another fid file access sharing = record { fid = fid; uid = 1; tid = 1; process = 9; file = file; access = access; sharing = sharing; read = false; seen = 0 }

-- beside the sender's session and tree, of that right, that session's, with those opens
unfoldable pub beside : ℕ → List Open → Tables
beside right opens = catalogued (session 1 6 ∷ session 3 5 ∷ []) (tree 1 1 1 ∷ tree 2 3 right ∷ []) opens []

-- ---- requests

-- OPEN_ANDX: 15 words: AndX 4, Flags 2, AccessMode 2, SearchAttrs 2, FileAttrs 2, CreationTime 4, OpenMode 2, AllocationSize 4, Timeout 4, Reserved 4; ByteCount, and the bytes. Flags, AccessMode and
-- OpenMode are as given, the lower byte first, and of the other fields each byte is its own place. Behind it comes the command given, at that place, or none with 0xFF.
unfoldable pub open_words : ℕ → ℕ → ℕ → ℕ → ℕ → ℕ → ℕ → ℕ → List ℕ
open_words next place flags flags_high access access_high mode mode_high =
    (15 ∷ next ∷ 0 ∷ place ∷ 0 ∷ flags ∷ flags_high ∷ access ∷ access_high ∷ 0x29 ∷ 0x2A ∷ 0x2B ∷ 0x2C ∷ 0x2D ∷ 0x2E ∷ 0x2F ∷ 0x30 ∷ [])
    ++ (mode ∷ mode_high ∷ 0x33 ∷ 0x34 ∷ 0x35 ∷ 0x36 ∷ 0x37 ∷ 0x38 ∷ 0x39 ∷ 0x3A ∷ 0x3B ∷ 0x3C ∷ 0x3D ∷ 0x3E ∷ [])

-- with Flags 1, that AccessMode and OpenMode 1
unfoldable pub opening : ℕ → List ℕ → List ℕ
opening access bytes = open_words 0xFF 0 1 0 access 0 1 0 ++ bytes

-- ByteCount, the name CRL.PEM and a zero byte, which end at 73
unfoldable pub crl_bytes : List ℕ
crl_bytes = 8 ∷ 0 ∷ 0x43 ∷ 0x52 ∷ 0x4C ∷ 0x2E ∷ 0x50 ∷ 0x45 ∷ 0x4D ∷ 0 ∷ []

-- the name A
unfoldable pub a_bytes : List ℕ
a_bytes = 2 ∷ 0 ∷ 0x41 ∷ 0 ∷ []

-- of CRL.PEM with that AccessMode; with a READ_ANDX behind it
unfoldable pub open_crl : ℕ → List ℕ
open_crl access = opening access crl_bytes

unfoldable pub crl_then_read : ℕ → List ℕ
crl_then_read access = open_words 0x2E 73 0 0 access 0 1 0 ++ crl_bytes

-- READ_ANDX of that FID (its two bytes): 3 bytes from offset 2 on. Behind it comes the command given, at 96 where the READ stands at 73, or none with 0xFF.
unfoldable pub read_of : ℕ → ℕ → ℕ → List ℕ
read_of next fid high = 10 ∷ next ∷ 0 ∷ 96 ∷ 0 ∷ fid ∷ high ∷ 2 ∷ 0 ∷ 0 ∷ 0 ∷ 3 ∷ replicate 11 0

-- CLOSE of that FID
unfoldable pub close_of : ℕ → ℕ → List ℕ
close_of fid high = 3 ∷ fid ∷ high ∷ 0 ∷ 0 ∷ 0 ∷ 0 ∷ 0 ∷ 0 ∷ []

-- an OPEN_ANDX in a message of Flags 0x7F and Flags2 0xBFFF
unfoldable pub asking : List ℕ → List ℕ
asking block = message 0x2D 0x7F 0xFF block

unfoldable pub row : Tables → List ℕ → Given → Row
row t block said = record { tables = t; request = asking block; said = said }

-- ---- replies

-- "The reply is source document 001's": 15 words: AndX 4, FID 2, FileAttrs 2, LastWriteTime 4, FileDataSize 4, AccessRights 2, ResourceType 2, NMPipeStatus 2, OpenResults 2, Reserved 6; no byte. "zero
-- after the FID with the block's Flags bit 0 clear"
unfoldable pub fid_alone : ℕ → List ℕ
fid_alone fid =
    (0x0F ∷ 0xFF ∷ 0x00 ∷ 0x00 ∷ 0x00 ∷ fid ∷ 0x00 ∷ 0x00 ∷ 0x00 ∷ 0x00 ∷ 0x00 ∷ 0x00 ∷ 0x00 ∷ 0x00 ∷ 0x00 ∷ 0x00 ∷ 0x00 ∷ [])
    ++ (0x00 ∷ 0x00 ∷ 0x00 ∷ 0x00 ∷ 0x00 ∷ 0x00 ∷ 0x00 ∷ 0x00 ∷ 0x00 ∷ 0x00 ∷ 0x00 ∷ 0x00 ∷ 0x00 ∷ 0x00 ∷ 0x00 ∷ 0x00 ∷ [])

-- "with it set the size, the access and OpenResults 1, the rest zero": the size's two lower bytes, and the access
unfoldable pub attributes : ℕ → ℕ → ℕ → ℕ → List ℕ
attributes fid size high access =
    (0x0F ∷ 0xFF ∷ 0x00 ∷ 0x00 ∷ 0x00 ∷ fid ∷ 0x00 ∷ 0x00 ∷ 0x00 ∷ 0x00 ∷ 0x00 ∷ 0x00 ∷ 0x00 ∷ size ∷ high ∷ 0x00 ∷ 0x00 ∷ [])
    ++ (access ∷ 0x00 ∷ 0x00 ∷ 0x00 ∷ 0x00 ∷ 0x00 ∷ 0x01 ∷ 0x00 ∷ 0x00 ∷ 0x00 ∷ 0x00 ∷ 0x00 ∷ 0x00 ∷ 0x00 ∷ 0x00 ∷ 0x00 ∷ [])

-- of file 1, with that FID and access
unfoldable pub opens_crl : ℕ → ℕ → Given
opens_crl fid access = done_reply 65 0x2D (attributes fid 0x06 0x00 access)

-- Flags bit 0 clear, every other bit set; then bit 0 alone. A size of 3,845. The FID is the smallest free: 2 behind FIDs 1 and 3, of another file; 64 where 63 stand.
unfoldable pub alone : List Row
alone =
    row no_opens (open_words 0xFF 0 0xFE 0xFF 0x42 0 1 0 ++ crl_bytes) (done_reply 65 0x2D (fid_alone 0x01))
    ∷ row no_opens (open_words 0xFF 0 0x01 0x00 0x42 0 1 0 ++ crl_bytes) (opens_crl 0x01 0x02)
    ∷ row no_opens (open_words 0xFF 0 0xFF 0xFF 0x42 0 1 0 ++ crl_bytes) (opens_crl 0x01 0x02)
    ∷ row no_opens (opening 0x40 a_bytes) (done_reply 65 0x2D (attributes 0x01 0x05 0x0F 0x00))
    ∷ row (beside 1 (another 1 2 2 4 ∷ another 3 2 2 4 ∷ [])) (open_crl 0x42) (opens_crl 0x02 0x02)
    ∷ row (having 1 (map (λ n. open_of n 3 2 7 0 2) (count_from 1 63))) (open_crl 0x42) (opens_crl 0x40 0x02)
    ∷ []

-- "compared with ASCII letters caseless": crl.Pem; twelve letters a to l; [z, its first byte no letter; COPY is a second name of file 1. Where {z or [: is asked for it is no name
-- of the catalogue: 1/2.
unfoldable pub other_case : List Row
other_case =
    row no_opens (opening 0x40 (8 ∷ 0 ∷ 0x63 ∷ 0x72 ∷ 0x6C ∷ 0x2E ∷ 0x50 ∷ 0x65 ∷ 0x6D ∷ 0 ∷ [])) (opens_crl 0x01 0x00)
    ∷ row no_opens (opening 0x40 ((13 ∷ 0 ∷ 0x61 ∷ 0x62 ∷ 0x63 ∷ 0x64 ∷ 0x65 ∷ 0x66 ∷ []) ++ (0x67 ∷ 0x68 ∷ 0x69 ∷ 0x6A ∷ 0x6B ∷ 0x6C ∷ 0 ∷ []))) (done_reply 65 0x2D (attributes 0x01 0x00 0x00 0x00))
    ∷ row no_opens (opening 0x40 (3 ∷ 0 ∷ 0x5B ∷ 0x7A ∷ 0 ∷ [])) (done_reply 65 0x2D (attributes 0x01 0x00 0x00 0x00))
    ∷ row no_opens (opening 0x40 (5 ∷ 0 ∷ 0x63 ∷ 0x6F ∷ 0x70 ∷ 0x79 ∷ 0 ∷ [])) (opens_crl 0x01 0x00)
    ∷ row no_opens (opening 0x40 (3 ∷ 0 ∷ 0x7B ∷ 0x7A ∷ 0 ∷ [])) (refusal 0x2D 1 0x02 0x00)
    ∷ row no_opens (opening 0x40 (3 ∷ 0 ∷ 0x5B ∷ 0x3A ∷ 0 ∷ [])) (refusal 0x2D 1 0x02 0x00)
    ∷ []

-- "access codes 0 to 2, sharing codes 1 to 4", each with each. "Other AccessMode bits are ignored": bits 3 and 7, and all of the upper byte.
unfoldable pub every_code : List Row
every_code =
    map (λ access. row no_opens (open_crl access) (opens_crl 0x01 0x00)) (0x10 ∷ 0x20 ∷ 0x30 ∷ 0x40 ∷ [])
    ++ (map (λ access. row no_opens (open_crl access) (opens_crl 0x01 0x01)) (0x11 ∷ 0x21 ∷ 0x31 ∷ 0x41 ∷ [])
    ++ (map (λ access. row no_opens (open_crl access) (opens_crl 0x01 0x02)) (0x12 ∷ 0x22 ∷ 0x32 ∷ 0x42 ∷ [])
    ++ (row no_opens (open_words 0xFF 0 1 0 0xC8 0xFF 1 0 ++ crl_bytes) (opens_crl 0x01 0x00)
    ∷ row no_opens (open_words 0xFF 0 1 0 0x99 0x70 1 0 ++ crl_bytes) (opens_crl 0x01 0x01)
    ∷ row no_opens (open_words 0xFF 0 1 0 0xBA 0x45 1 0 ++ crl_bytes) (opens_crl 0x01 0x02)
    ∷ [])))

-- ---- "READ_ANDX may follow .., where FID 0xFFFF means the file just opened"

-- the reply block of an OPEN_ANDX with Flags bit 0 clear that gave out FID 1, a READ_ANDX's block at 65, which is 0x41, behind it
unfoldable pub then_read : List ℕ
then_read =
    (0x0F ∷ 0x2E ∷ 0x00 ∷ 0x41 ∷ 0x00 ∷ 0x01 ∷ 0x00 ∷ 0x00 ∷ 0x00 ∷ 0x00 ∷ 0x00 ∷ 0x00 ∷ 0x00 ∷ 0x00 ∷ 0x00 ∷ 0x00 ∷ 0x00 ∷ [])
    ++ (0x00 ∷ 0x00 ∷ 0x00 ∷ 0x00 ∷ 0x00 ∷ 0x00 ∷ 0x00 ∷ 0x00 ∷ 0x00 ∷ 0x00 ∷ 0x00 ∷ 0x00 ∷ 0x00 ∷ 0x00 ∷ 0x00 ∷ 0x00 ∷ [])

-- the READ_ANDX's, of 3 bytes, which stand at 65 + 27 = 92, which is 0x5C; behind it the command given, at 95, which is 0x5F
unfoldable pub read_behind : ℕ → ℕ → List ℕ → List ℕ
read_behind next place bytes =
    (0x0C ∷ next ∷ 0x00 ∷ place ∷ 0x00 ∷ 0xFF ∷ 0xFF ∷ 0x00 ∷ 0x00 ∷ 0x00 ∷ 0x00 ∷ 0x03 ∷ 0x00 ∷ 0x5C ∷ 0x00 ∷ [])
    ++ ((0x00 ∷ 0x00 ∷ 0x00 ∷ 0x00 ∷ 0x00 ∷ 0x00 ∷ 0x00 ∷ 0x00 ∷ 0x00 ∷ 0x00 ∷ 0x03 ∷ 0x00 ∷ []) ++ bytes)

-- FID 4, an open of file 2 by the sender
unfoldable pub of_file2 : Tables
of_file2 = having 1 (open_of 4 3 2 0x0D0C1B1A 2 2 ∷ [])

-- a READ of 0xFFFF reads file 1, one of FID 4 file 2, whose bytes are 0; one of 0x00FF or 0xFF00 is 1/6, and the OPEN_ANDX stands in the reply. Refused 1/5 where the open is for writing, the READ leaves
-- its block. An OPEN_ANDX refused is the only block. "anywhere else it is an unknown FID, also in the CLOSE after that READ": 1/6; a CLOSE of FID 1 is done. Free bytes between the two, the READ at 75.
unfoldable pub chains : List Row
chains =
    row no_opens (crl_then_read 0x40 ++ read_of 0xFF 0xFF 0xFF) (done_reply 95 0x2D (then_read ++ read_behind 0xFF 0x00 (0xA2 ∷ 0xA3 ∷ 0xA4 ∷ [])))
    ∷ row of_file2 (crl_then_read 0x40 ++ read_of 0xFF 0xFF 0xFF) (done_reply 95 0x2D (then_read ++ read_behind 0xFF 0x00 (0xA2 ∷ 0xA3 ∷ 0xA4 ∷ [])))
    ∷ row of_file2 (crl_then_read 0x40 ++ read_of 0xFF 0x04 0x00) (done_reply 95 0x2D (then_read ++ read_behind 0xFF 0x00 (0x00 ∷ 0x00 ∷ 0x00 ∷ [])))
    ∷ row of_file2 (crl_then_read 0x40 ++ read_of 0xFF 0x01 0x00) (done_reply 95 0x2D (then_read ++ read_behind 0xFF 0x00 (0xA2 ∷ 0xA3 ∷ 0xA4 ∷ [])))
    ∷ row no_opens ((open_words 0x2E 75 0 0 0x40 0 1 0 ++ crl_bytes) ++ (0x51 ∷ 0x52 ∷ read_of 0xFF 0xFF 0xFF)) (done_reply 95 0x2D (then_read ++ read_behind 0xFF 0x00 (0xA2 ∷ 0xA3 ∷ 0xA4 ∷ [])))
    ∷ row no_opens (crl_then_read 0x40 ++ read_of 0xFF 0xFF 0x00) (reply 68 0x2D 1 0x06 0x00 0x88 0x01 (then_read ++ (0x00 ∷ 0x00 ∷ 0x00 ∷ [])))
    ∷ row no_opens (crl_then_read 0x40 ++ read_of 0xFF 0x00 0xFF) (reply 68 0x2D 1 0x06 0x00 0x88 0x01 (then_read ++ (0x00 ∷ 0x00 ∷ 0x00 ∷ [])))
    ∷ row no_opens (crl_then_read 0x41 ++ read_of 0xFF 0xFF 0xFF) (reply 68 0x2D 1 0x05 0x00 0x88 0x01 (then_read ++ (0x00 ∷ 0x00 ∷ 0x00 ∷ [])))
    ∷ row no_opens (crl_then_read 0x43 ++ read_of 0xFF 0xFF 0xFF) (refusal 0x2D 1 0x0C 0x00)
    ∷ row no_opens (crl_then_read 0x40 ++ (read_of 0x04 0xFF 0xFF ++ close_of 0xFF 0xFF))
    (reply 98 0x2D 1 0x06 0x00 0x88 0x01 (then_read ++ (read_behind 0x04 0x5F (0xA2 ∷ 0xA3 ∷ 0xA4 ∷ []) ++ (0x00 ∷ 0x00 ∷ 0x00 ∷ []))))
    ∷ row no_opens (crl_then_read 0x40 ++ (read_of 0x04 0xFF 0xFF ++ close_of 0x01 0x00))
    (done_reply 98 0x2D (then_read ++ (read_behind 0x04 0x5F (0xA2 ∷ 0xA3 ∷ 0xA4 ∷ []) ++ (0x00 ∷ 0x00 ∷ 0x00 ∷ []))))
    ∷ []

-- 0xFFFF alone, in a CLOSE and behind a LOCKING_ANDX: 1/6
unfoldable pub nobodys : List Row
nobodys =
    record { tables = of_file2; request = message 0x2E 0x7F 0xFF (read_of 0xFF 0xFF 0xFF); said = refusal 0x2E 1 0x06 0x00 }
    ∷ record { tables = of_file2; request = message 0x04 0x7F 0xFF (close_of 0xFF 0xFF); said = refusal 0x04 1 0x06 0x00 }
    ∷ record {
      tables = of_file2;
      request = message 0x24 0x7F 0xFF (lock100 0x2E ++ read_of 0xFF 0xFF 0xFF);
      said = reply 42 0x24 1 0x06 0x00 0x88 0x01 ((0x02 ∷ 0x2E ∷ 0x00 ∷ 0x27 ∷ 0x00 ∷ 0x00 ∷ 0x00 ∷ []) ++ (0x00 ∷ 0x00 ∷ 0x00 ∷ []));
    }
    ∷ []

-- ---- refusals: "after 2/5: 2/65535 OpenMode, 1/12 access or sharing code, 1/2 name, 1/5 tree right, 1/32 sharing, 1/4 all 64 FIDs in use"

-- with that OpenMode, AccessMode and bytes
unfoldable pub moded : ℕ → ℕ → ℕ → List ℕ → List ℕ
moded mode high access bytes = open_words 0xFF 0 1 0 access 0 mode high ++ bytes

-- the name B, which the catalogue has not
unfoldable pub b_bytes : List ℕ
b_bytes = 2 ∷ 0 ∷ 0x42 ∷ 0 ∷ []

-- 64 opens of that file, for both, with that sharing code; the sender's tree has that right
unfoldable pub all_used : ℕ → ℕ → ℕ → Tables
all_used right file sharing = beside right (map (λ n. another n file 2 sharing) (count_from 1 64))

-- each for its own reason: UID 3 on another connection; TID 2 of another UID; OpenMode 0, 0x11 and 0x0101, "the whole word"; access 3 and 7, sharing 0, 5 and 7; an unknown name, "even none", one of
-- 13 bytes of which twelve are a name's, a name's first letters, a name with one letter more, a backslash before it; right 0 and access 1 and 2, where access 0 is done; all 64 FIDs in use
unfoldable pub refusals : List Row
refusals =
    row (catalogued (session 3 6 ∷ []) (tree 2 3 1 ∷ []) [] []) (open_crl 0x40) (refusal 0x2D 2 0x5B 0x00)
    ∷ row (catalogued (session 1 5 ∷ session 3 5 ∷ []) (tree 2 1 1 ∷ []) [] []) (open_crl 0x40) (refusal 0x2D 2 0x05 0x00)
    ∷ row no_opens (moded 0x00 0x00 0x40 crl_bytes) (refusal 0x2D 2 0xFF 0xFF)
    ∷ row no_opens (moded 0x11 0x00 0x40 crl_bytes) (refusal 0x2D 2 0xFF 0xFF)
    ∷ row no_opens (moded 0x01 0x01 0x40 crl_bytes) (refusal 0x2D 2 0xFF 0xFF)
    ∷ row no_opens (open_crl 0x43) (refusal 0x2D 1 0x0C 0x00)
    ∷ row no_opens (open_crl 0x47) (refusal 0x2D 1 0x0C 0x00)
    ∷ row no_opens (open_crl 0x00) (refusal 0x2D 1 0x0C 0x00)
    ∷ row no_opens (open_crl 0x50) (refusal 0x2D 1 0x0C 0x00)
    ∷ row no_opens (open_crl 0x70) (refusal 0x2D 1 0x0C 0x00)
    ∷ row no_opens (opening 0x40 b_bytes) (refusal 0x2D 1 0x02 0x00)
    ∷ row no_opens (opening 0x40 (1 ∷ 0 ∷ 0 ∷ [])) (refusal 0x2D 1 0x02 0x00)
    ∷ row no_opens (opening 0x40 ((14 ∷ 0 ∷ []) ++ (twelve ++ (0x4D ∷ 0 ∷ [])))) (refusal 0x2D 1 0x02 0x00)
    ∷ row no_opens (opening 0x40 (4 ∷ 0 ∷ 0x43 ∷ 0x52 ∷ 0x4C ∷ 0 ∷ [])) (refusal 0x2D 1 0x02 0x00)
    ∷ row no_opens (opening 0x40 (3 ∷ 0 ∷ 0x41 ∷ 0x41 ∷ 0 ∷ [])) (refusal 0x2D 1 0x02 0x00)
    ∷ row no_opens (opening 0x40 (3 ∷ 0 ∷ 0x5C ∷ 0x41 ∷ 0 ∷ [])) (refusal 0x2D 1 0x02 0x00)
    ∷ row (having 0 []) (open_crl 0x41) (refusal 0x2D 1 0x05 0x00)
    ∷ row (having 0 []) (open_crl 0x42) (refusal 0x2D 1 0x05 0x00)
    ∷ row (having 0 []) (open_crl 0x40) (opens_crl 0x01 0x00)
    ∷ row (all_used 1 0 4) (open_crl 0x40) (refusal 0x2D 1 0x04 0x00)
    ∷ []

-- "An open fails if it asks what another open of the file denies or denies what one has": an open that denies writing, where writing is asked, and where it isn't; one that writes, where writing is denied,
-- and where reading is. "opens by the host deny nothing" but have their access: one for reading, code 4, where reading is denied. By another name of the file, COPY; by its own session, process and
-- tree; the second of two opens. An open of another file denies nothing here.
unfoldable pub sharing : List Row
sharing =
    row (beside 1 (another 1 1 0 2 ∷ [])) (open_crl 0x41) (refusal 0x2D 1 0x20 0x00)
    ∷ row (beside 1 (another 1 1 0 2 ∷ [])) (open_crl 0x40) (opens_crl 0x02 0x00)
    ∷ row (beside 1 (another 1 1 1 4 ∷ [])) (open_crl 0x20) (refusal 0x2D 1 0x20 0x00)
    ∷ row (beside 1 (another 1 1 1 4 ∷ [])) (open_crl 0x30) (opens_crl 0x02 0x00)
    ∷ row (having 1 (open_of 1 3 2 7 1 0 ∷ [])) (open_crl 0x30) (refusal 0x2D 1 0x20 0x00)
    ∷ row (having 1 (open_of 1 3 2 7 1 0 ∷ [])) (open_crl 0x22) (opens_crl 0x02 0x02)
    ∷ row (beside 1 (another 1 1 0 1 ∷ [])) (opening 0x40 (5 ∷ 0 ∷ 0x43 ∷ 0x4F ∷ 0x50 ∷ 0x59 ∷ 0 ∷ [])) (refusal 0x2D 1 0x20 0x00)
    ∷ row (having 1 (record { fid = 1; uid = 3; tid = 2; process = 0x0D0C1B1A; file = 1; access = 0; sharing = 3; read = false; seen = 0 } ∷ [])) (open_crl 0x40) (refusal 0x2D 1 0x20 0x00)
    ∷ row (beside 1 (another 1 1 0 4 ∷ another 2 1 0 3 ∷ [])) (open_crl 0x40) (refusal 0x2D 1 0x20 0x00)
    ∷ row (beside 1 (another 1 2 2 1 ∷ [])) (open_crl 0x12) (opens_crl 0x02 0x02)
    ∷ []

-- two reasons each, the earlier of which is given: no session and OpenMode 0, no tree and OpenMode 0, OpenMode 0 and access 3, sharing 0 and an unknown name, an unknown name on a tree of right 0, right
-- 0 and a denying open, a denying open and 64 in use
unfoldable pub in_order : List Row
in_order =
    row (catalogued (session 3 6 ∷ []) [] [] []) (moded 0x00 0x00 0x40 crl_bytes) (refusal 0x2D 2 0x5B 0x00)
    ∷ row (catalogued (session 3 5 ∷ []) [] [] []) (moded 0x00 0x00 0x40 crl_bytes) (refusal 0x2D 2 0x05 0x00)
    ∷ row no_opens (moded 0x00 0x00 0x43 crl_bytes) (refusal 0x2D 2 0xFF 0xFF)
    ∷ row no_opens (opening 0x00 b_bytes) (refusal 0x2D 1 0x0C 0x00)
    ∷ row (having 0 []) (opening 0x42 b_bytes) (refusal 0x2D 1 0x02 0x00)
    ∷ row (beside 0 (another 1 1 2 1 ∷ [])) (open_crl 0x42) (refusal 0x2D 1 0x05 0x00)
    ∷ row (all_used 1 1 1) (open_crl 0x42) (refusal 0x2D 1 0x20 0x00)
    ∷ []

-- ---- "The byte area is a name .. without zero bytes, then one zero byte; else 2/1"

-- no zero byte; ByteCount 0, a zero byte behind it; a zero byte inside; two at the end; a byte behind the zero byte; ByteCount past the message's end; 14 words and 16; a CLOSE and an OPEN_ANDX behind it; a READ_ANDX at 72,
-- where the block ends at 73. Each comes before any other reason, here no session. An OPEN_ANDX behind a LOCKING_ANDX.
unfoldable pub not_names : List (List ℕ)
not_names =
    opening 0x40 (7 ∷ 0 ∷ crl)
    ∷ opening 0x40 (0 ∷ 0 ∷ 0 ∷ [])
    ∷ opening 0x40 (8 ∷ 0 ∷ 0x43 ∷ 0 ∷ 0x4C ∷ 0x2E ∷ 0x50 ∷ 0x45 ∷ 0x4D ∷ 0 ∷ [])
    ∷ opening 0x40 (3 ∷ 0 ∷ 0x41 ∷ 0 ∷ 0 ∷ [])
    ∷ opening 0x40 (3 ∷ 0 ∷ 0x41 ∷ 0 ∷ 0x41 ∷ [])
    ∷ opening 0x40 (3 ∷ 0 ∷ 0x41 ∷ 0 ∷ [])
    ∷ ((14 ∷ 0xFF ∷ 0 ∷ 0 ∷ 0 ∷ 1 ∷ 0 ∷ 0x40 ∷ 0 ∷ replicate 8 0) ++ (1 ∷ 0 ∷ (replicate 10 0 ++ a_bytes)))
    ∷ ((16 ∷ 0xFF ∷ 0 ∷ 0 ∷ 0 ∷ 1 ∷ 0 ∷ 0x40 ∷ 0 ∷ replicate 8 0) ++ (1 ∷ 0 ∷ (replicate 14 0 ++ a_bytes)))
    ∷ ((open_words 0x04 73 0 0 0x40 0 1 0 ++ crl_bytes) ++ close_of 0x01 0x00)
    ∷ ((open_words 0x2D 73 0 0 0x40 0 1 0 ++ crl_bytes) ++ open_crl 0x40)
    ∷ ((open_words 0x2E 72 0 0 0x40 0 1 0 ++ crl_bytes) ++ read_of 0xFF 0xFF 0xFF)
    ∷ []

unfoldable pub malformed : List Row
malformed =
    map (λ block. row (catalogued (session 3 6 ∷ []) [] [] []) block (refusal 0x2D 2 0x01 0x00)) not_names
    ++ (record {
      tables = of_file2;
      request = message 0x24 0x7F 0xFF (lock100 0x2D ++ open_crl 0x40);
      said = refusal 0x24 2 0x01 0x00;
    }
    ∷ [])

-- ---- the table

unfoldable pub table : List Row
table = alone ++ (other_case ++ (every_code ++ (chains ++ (nobodys ++ (refusals ++ (sharing ++ (in_order ++ malformed)))))))

-- what the definitions give is what the papers say, in every row
pub open-replies : map (λ r. given r.tables r.request) table ≡ map (λ r. r.said) table
unfolding table alone other_case every_code chains nobodys refusals sharing in_order malformed not_names crl twelve five_names two_sizes catalogued having no_opens another beside open_words opening crl_bytes a_bytes b_bytes open_crl crl_then_read read_of close_of asking row fid_alone attributes opens_crl then_read read_behind of_file2 moded all_used message name memory session tree open_of taken take-message dropped starts_smb is_reply answered served replied reply_of reply_header put run_chain only_status blocks blocks_from blocks_within after_parse after_block before parse parse_open parse_read parse_bare answer open_fits terminated read_fits wide_offset link_fits link_at may_follow shaped bare le16_at le32_at caller_of run body_meant fid_meant opened_by after_given after link_to perform area_of data_of status forms_of holder_of reply_block refused_block reply_size link_words two four with_session is_session with_tree with_open is_open open_at found found_from do_open codes_served name_asked open_named is_named same_name folded name_bytes open_file open_by kept_out denied reads writes denies_reading denies_writing opened_said free_from smallest_free with_opens stored do_read unless_barred barring ask_by read_bytes contents size_of sound within_room file_ok tree_ok permits holds_open sharing_ok catalogue_ok none_doubled name_ok not_zero differ open_ok sound_records lock_ok agree agree_all sound_locks file_of is_tree contains number_ok numbered any all all_tails overlaps passes_end remove with_sessions with_trees with_locks session_named tree_named open_gone session_stays tree_stays open_stays lock_stays sweep_sessions sweep_trees sweep_opens sweep_locks keep count_from given reply refusal lock100 lock_block range100 parse_locking locking_fits is_large range_size do_locking served_type request_of locking request release_all after_find remove_at named after_releases grant_all after_walk after_grants settle ranges_of of_header ranges_at range_at range_from number_at range_passes ask_of lock_of answers answers_for in_way bars owns locking_after locking_end with_lock_list status_number smb_number nt_bit done_reply seen_ok noting changes_of
open-replies = refl

-- ---- each access and sharing code against each

-- the AccessModes, of all with codes that are served, with which CRL.PEM is opened beside one open of it
unfoldable pub modes : List ℕ
modes = 0x10 ∷ 0x20 ∷ 0x30 ∷ 0x40 ∷ 0x11 ∷ 0x21 ∷ 0x31 ∷ 0x41 ∷ 0x12 ∷ 0x22 ∷ 0x32 ∷ 0x42 ∷ []

unfoldable pub opened_beside : ℕ → ℕ → List ℕ
opened_beside access code = keep (λ mode. eqb (answered 5 (asking (open_crl mode)) (beside 1 (another 1 1 access code ∷ [])) memory).forms.status.code 0) modes

-- "deny both, deny write, deny read, deny none", of an open for reading, for writing, for both
pub with_each : (map (opened_beside 0) (1 ∷ 2 ∷ 3 ∷ 4 ∷ [])
    ≡ [] ∷ (0x20 ∷ 0x40 ∷ []) ∷ (0x21 ∷ 0x41 ∷ []) ∷ (0x20 ∷ 0x40 ∷ 0x21 ∷ 0x41 ∷ 0x22 ∷ 0x42 ∷ []) ∷ [])
    × (map (opened_beside 1) (1 ∷ 2 ∷ 3 ∷ 4 ∷ [])
    ≡ [] ∷ (0x30 ∷ 0x40 ∷ []) ∷ (0x31 ∷ 0x41 ∷ []) ∷ (0x30 ∷ 0x40 ∷ 0x31 ∷ 0x41 ∷ 0x32 ∷ 0x42 ∷ []) ∷ [])
    × (map (opened_beside 2) (1 ∷ 2 ∷ 3 ∷ 4 ∷ [])
    ≡ [] ∷ (0x40 ∷ []) ∷ (0x41 ∷ []) ∷ (0x40 ∷ 0x41 ∷ 0x42 ∷ []) ∷ [])
unfolding modes opened_beside keep crl twelve five_names two_sizes catalogued another beside open_words opening crl_bytes open_crl asking message name memory session tree answered served run_chain only_status blocks blocks_from blocks_within after_parse after_block before parse parse_open answer open_fits terminated link_fits link_at may_follow shaped le16_at caller_of run body_meant fid_meant after_given after perform area_of data_of status forms_of with_session is_session with_tree is_tree found found_from any do_open codes_served sharing_ok name_asked open_named is_named same_name folded name_bytes open_file open_by holds_open permits kept_out denied reads writes denies_reading denies_writing opened_said smallest_free free_from contains
with_each = (refl, refl, refl)

-- ---- what else the call leaves

-- the open that the sender gets: that FID, file, access and sharing code, of the header's UID, TID and process
unfoldable pub new : ℕ → ℕ → ℕ → ℕ → Open
new fid file access code = record { fid = fid; uid = 3; tid = 2; process = 0x0D0C1B1A; file = file; access = access; sharing = code; read = false; seen = 0 }

-- "UID, TID and FID are the smallest number from 1 not in use": the new open stands behind the others, with every other table, the names and the file memory as they were; codes as asked, whatever the
-- ignored bits. It stands too where the READ behind it is refused; and is gone with the CLOSE of its FID. A refused one changes nothing.
pub open-left : ((taken no_opens (asking (open_crl 0x40))).tables ≡ having 1 (new 1 1 0 4 ∷ []))
    × ((taken no_opens (asking (open_crl 0x40))).memory ≡ memory)
    × ((taken no_opens (asking (open_words 0xFF 0 1 0 0xBA 0x45 1 0 ++ a_bytes))).tables ≡ having 1 (new 1 2 2 3 ∷ []))
    × ((taken (beside 1 (another 1 1 0 2 ∷ another 3 2 2 1 ∷ another 2 3 1 4 ∷ [])) (asking (open_crl 0x20))).tables
    ≡ beside 1 (another 1 1 0 2 ∷ another 3 2 2 1 ∷ another 2 3 1 4 ∷ new 4 1 0 2 ∷ []))
    × ((taken (beside 1 (another 3 1 0 2 ∷ another 1 2 2 1 ∷ [])) (asking (open_crl 0x20))).tables
    ≡ beside 1 (another 3 1 0 2 ∷ another 1 2 2 1 ∷ new 2 1 0 2 ∷ []))
    × ((taken no_opens (asking (crl_then_read 0x41 ++ read_of 0xFF 0xFF 0xFF))).tables ≡ having 1 (new 1 1 1 4 ∷ []))
    × ((taken no_opens (asking (crl_then_read 0x40 ++ (read_of 0x04 0xFF 0xFF ++ close_of 0xFF 0xFF)))).tables ≡ having 1 (having-read 8 (new 1 1 0 4) ∷ []))
    × ((taken no_opens (asking (crl_then_read 0x40 ++ (read_of 0x04 0xFF 0xFF ++ close_of 0x01 0x00)))).tables.nopens ≡ 0)
    × ((taken (beside 1 (another 1 1 0 2 ∷ [])) (asking (open_crl 0x41))).tables ≡ beside 1 (another 1 1 0 2 ∷ []))
    × ((taken (beside 1 (another 1 1 0 2 ∷ [])) (asking (open_crl 0x41))).memory ≡ memory)
unfolding new having-read crl twelve five_names two_sizes catalogued having no_opens another beside open_words opening crl_bytes a_bytes open_crl crl_then_read read_of close_of asking message name memory session tree open_of taken take-message dropped starts_smb is_reply answered served replied reply_of reply_header put run_chain only_status blocks blocks_from blocks_within after_parse after_block before parse parse_open parse_read parse_bare answer open_fits terminated read_fits wide_offset link_fits link_at may_follow shaped bare le16_at le32_at caller_of run body_meant fid_meant opened_by after_given after link_to perform area_of data_of status forms_of holder_of reply_block refused_block reply_size link_words two four with_session is_session with_tree with_open is_open open_at found found_from do_open codes_served name_asked open_named is_named same_name folded name_bytes open_file open_by kept_out denied reads writes denies_reading denies_writing opened_said free_from smallest_free with_opens stored do_read unless_barred barring ask_by read_bytes contents size_of sound within_room file_ok tree_ok permits holds_open sharing_ok catalogue_ok none_doubled name_ok not_zero differ open_ok sound_records lock_ok agree agree_all sound_locks file_of is_tree contains number_ok numbered any all all_tails overlaps passes_end remove with_sessions with_trees with_locks session_named tree_named open_gone session_stays tree_stays open_stays lock_stays sweep_sessions sweep_trees sweep_opens sweep_locks keep status_number smb_number nt_bit seen_ok noting changes_of
open-left = (refl, refl, refl, refl, refl, refl, refl, refl, refl, refl)
