-- The core commands (document 02, CR 3; source documents 000 and 004) in whole messages: data blocks that are no sentence, whole replies, byte for byte, with the holder
-- beside them, and what a call leaves. Tables and messages are those of State.antt and Replies.antt. Assumes nothing.
use Rattle.std.specs.Prelude.{◌≡◌, refl, ℕ, true, false, List, [], ◌∷◌, ◌++◌, map, take, replicate, Some, None as End}
use Rattle.lists.specs.Walk.{any, all, all_tails, found_from, found}
use Rattle.lists.specs.Put.{put}
use Rattle.lists.specs.Stored.{stored}
use Rattle.wire.specs.LittleEndian.{le16_at, le32_at}
use Rattle.records.specs.declared.Lock.{Lock}
use Rattle.records.specs.declared.Tables.{Tables}
use Rattle.records.specs.Held.{with_locks, with_files, with_opens}
use Rattle.locks.specs.Range.{overlaps, passes_end}
use Rattle.locks.specs.Wire.{range_size, number_at, range_from, range_at, ranges_at, small_form}
use Rattle.locks.specs.Answer.{owns, bars, in_way, named, answers_for, answers}
use Rattle.locks.specs.Request.{of_header, ranges_of, holder_at, ask_of, lock_of, remove_at, after_find, release_all, after_walk, grant_all, after_grants, range_passes, after_releases, request, settle, locking}
use Rattle.numbers.specs.Number.{contains, number_ok, numbered}
use Rattle.soundness.specs.File.{file_of}
use Rattle.soundness.specs.Lookup.{is_tree}
use Rattle.catalogue.specs.Name.{none_doubled, catalogue_ok}
use Rattle.soundness.specs.Sound.{within_room, file_ok, tree_ok, permits, holds_open, sharing_ok, open_ok, sound_records, lock_ok, agree, agree_all, sound_locks, sound, seen_ok}
use Rattle.chain.specs.Header.{starts_smb, is_reply, dropped}
use Rattle.chain.specs.Grammar.{Reading, Sentence}
use Rattle.chain.specs.Parse.{shaped, bare, is_large, locking_fits, data_inside, write_fits, core_write_fits, may_follow, link_fits, link_at, answer, wide_offset, parse_locking, parse_write, parse_bare, parse_core_write, parse}
use Rattle.chain.specs.Chain.{before, after_block, after_parse, blocks_within, blocks_from, blocks}
use Rattle.chain.specs.declared.block.Body.TheVariants.{CoreWrite}
use Rattle.invariants.specs.ReaderSound.{span_of, reader-sound}
use Rattle.readings.specs.ReaderComplete.{no-sentence}
use Rattle.message.specs.Caller.{caller_of}
use Rattle.message.specs.Refusal.{status, forms_of, holder_of}
use Rattle.message.specs.Contents.{size_of, contents, read_bytes, written, resized, sized_to}
use Rattle.message.specs.Command.{is_session, with_session, with_tree, is_open, open_at, with_open, served_type, request_of, with_lock_list, locking_end, locking_after, do_locking, ask_by, unless_barred, barring, do_read, ends_past, do_write, core_said, as_core, range_by, one_range, do_range, between_sizes, do_set_size, do_core_write, perform}
use Rattle.message.specs.Reply.{two, reply_header, link_words, reply_block, refused_block, reply_size, four, nt_bit, smb_number, status_number}
use Rattle.message.specs.JustOpened.{fid_meant, body_meant}
use Rattle.message.specs.Message.{area_of, data_of, after, link_to, after_given, run, served, only_status, run_chain, answered, reply_of, replied, take-message}
use Rattle.literals.specs.State.{session, tree, open_of, having-read, sizes, tables_with, few_records, memory}
use Rattle.literals.specs.Replies.{message, lock_block, lock100, range100, write_block, taken, Given, given, reply, done_reply, Row, refusal, opened, lock, held_at, contested, range_of}
use Rattle.records.specs.Change.{changes_of, noting}

-- ---- requests, of FID 4 where none is named

-- the core READ of that FID: that many bytes from that offset on. The last word, "count left", is not looked at.
unfoldable pub core_read : ℕ → ℕ → ℕ → List ℕ
core_read fid count offset = 5 ∷ fid ∷ 0 ∷ count ∷ 0 ∷ offset ∷ 0 ∷ 0 ∷ 0 ∷ 0x29 ∷ 0x2A ∷ 0 ∷ 0 ∷ []

-- the core WRITE with that count, offset (its two lower bytes), ByteCount, mark and length of its data block, and data
unfoldable pub core_write : ℕ → ℕ → ℕ → ℕ → ℕ → ℕ → List ℕ → List ℕ
core_write count low high bytes mark size data' =
    (5 ∷ 4 ∷ 0 ∷ count ∷ 0 ∷ low ∷ high ∷ 0 ∷ 0 ∷ 0x29 ∷ 0x2A ∷ bytes ∷ 0 ∷ mark ∷ size ∷ 0 ∷ []) ++ data'

-- of the bytes BB CC to that offset
unfoldable pub write_to : ℕ → ℕ → List ℕ
write_to low high = core_write 2 low high 5 1 2 (0xBB ∷ 0xCC ∷ [])

-- of 258 bytes DD (0x0102) to 0, and a core READ of as many
unfoldable pub long_write : List ℕ
long_write = (5 ∷ 4 ∷ 0 ∷ 2 ∷ 1 ∷ 0 ∷ 0 ∷ 0 ∷ 0 ∷ 0x29 ∷ 0x2A ∷ 5 ∷ 1 ∷ 1 ∷ 2 ∷ 1 ∷ []) ++ replicate 258 0xDD

unfoldable pub long_read : List ℕ
long_read = 5 ∷ 4 ∷ 0 ∷ 2 ∷ 1 ∷ 0 ∷ 0 ∷ 0 ∷ 0 ∷ 0x29 ∷ 0x2A ∷ 0 ∷ 0 ∷ []

-- of count 0
unfoldable pub size_to : ℕ → ℕ → List ℕ
size_to low high = core_write 0 low high 3 1 0 []

-- of count 0 to 0x00010004
unfoldable pub far_size : List ℕ
far_size = 5 ∷ 4 ∷ 0 ∷ 0 ∷ 0 ∷ 4 ∷ 0 ∷ 1 ∷ 0 ∷ 0x29 ∷ 0x2A ∷ 3 ∷ 0 ∷ 1 ∷ 0 ∷ 0 ∷ []

-- LOCK_BYTE_RANGE or UNLOCK_BYTE_RANGE of that FID: that many bytes from that offset on
unfoldable pub byte_range : ℕ → ℕ → ℕ → List ℕ
byte_range fid count offset = 5 ∷ fid ∷ 0 ∷ count ∷ 0 ∷ 0 ∷ 0 ∷ offset ∷ 0 ∷ 0 ∷ 0 ∷ 0 ∷ 0 ∷ []

-- of the largest count and offset, which are both 4,294,967,295
unfoldable pub top_range : List ℕ
top_range = 5 ∷ 4 ∷ 0 ∷ 0xFF ∷ 0xFF ∷ 0xFF ∷ 0xFF ∷ 0xFF ∷ 0xFF ∷ 0xFF ∷ 0xFF ∷ 0 ∷ 0 ∷ []

-- each in a message of Flags 0x7F and Flags2 0xBFFF
unfoldable pub sent : ℕ → List ℕ → List ℕ
sent command block = message command 0x7F 0xFF block

-- ---- "a data block not marked 0x01 or whose lengths disagree is 2/1"

-- as it should be it is a sentence: a core WRITE of 2 bytes, 18 bytes long
written-whole : blocks (sent 0x0B (write_to 2 0))
    ≡ Some (record { command = 0x0B; at = 32; length = 18; body = CoreWrite (record { fid = 4; offset = 2; count = 2; from = 48 }); next = End } ∷ [])
unfolding sent write_to core_write message blocks blocks_from blocks_within after_parse after_block parse parse_core_write answer core_write_fits shaped le16_at le32_at
written-whole = refl

pub data-block-sentence : Reading (sent 0x0B (write_to 2 0)) (record { command = 0x0B; place = 32; size = 18 } ∷ [])
unfolding span_of
data-block-sentence = reader-sound (sent 0x0B (write_to 2 0)) _ written-whole

-- one byte changed: the mark is 0x02; the count word is 1; the data block's length is 1; ByteCount is 4, one less, and 6, one more
unfoldable pub wrong_mark : List ℕ
wrong_mark = core_write 2 2 0 5 2 2 (0xBB ∷ 0xCC ∷ [])

unfoldable pub wrong_count : List ℕ
wrong_count = core_write 1 2 0 5 1 2 (0xBB ∷ 0xCC ∷ [])

unfoldable pub wrong_length : List ℕ
wrong_length = core_write 2 2 0 5 1 1 (0xBB ∷ 0xCC ∷ [])

unfoldable pub byte_less : List ℕ
byte_less = core_write 2 2 0 4 1 2 (0xBB ∷ 0xCC ∷ [])

unfoldable pub byte_more : List ℕ
byte_more = core_write 2 2 0 6 1 2 (0xBB ∷ 0xCC ∷ 0xDD ∷ [])

-- count 0, and ByteCount 0 or 2: a data block's bytes stand there, but not, or not all, in the block
unfoldable pub no_block : List ℕ
no_block = core_write 0 2 0 0 1 0 []

unfoldable pub half_block : List ℕ
half_block = core_write 0 2 0 2 1 0 []

-- count and length 0xFFFD with ByteCount 0: 3 more than the count has 17 bits
unfoldable pub round_about : List ℕ
round_about = 5 ∷ 4 ∷ 0 ∷ 0xFD ∷ 0xFF ∷ 2 ∷ 0 ∷ 0 ∷ 0 ∷ 0x29 ∷ 0x2A ∷ 0 ∷ 0 ∷ 1 ∷ 0xFD ∷ 0xFF ∷ []

pub data-block-none : (Sentence (sent 0x0B wrong_mark) → ⊥)
    × (Sentence (sent 0x0B wrong_count) → ⊥)
    × (Sentence (sent 0x0B wrong_length) → ⊥)
    × (Sentence (sent 0x0B byte_less) → ⊥)
    × (Sentence (sent 0x0B byte_more) → ⊥)
    × (Sentence (sent 0x0B no_block) → ⊥)
    × (Sentence (sent 0x0B half_block) → ⊥)
    × (Sentence (sent 0x0B round_about) → ⊥)
unfolding wrong_mark wrong_count wrong_length byte_less byte_more no_block half_block round_about sent core_write message blocks blocks_from blocks_within after_parse after_block parse parse_core_write answer core_write_fits shaped le16_at le32_at
data-block-none = (
  (no-sentence (sent 0x0B wrong_mark)).0 refl,
  (no-sentence (sent 0x0B wrong_count)).0 refl,
  (no-sentence (sent 0x0B wrong_length)).0 refl,
  (no-sentence (sent 0x0B byte_less)).0 refl,
  (no-sentence (sent 0x0B byte_more)).0 refl,
  (no-sentence (sent 0x0B no_block)).0 refl,
  (no-sentence (sent 0x0B half_block)).0 refl,
  (no-sentence (sent 0x0B round_about)).0 refl,
)

-- the message with that block, and what is to come of it
unfoldable pub row : Tables → ℕ → List ℕ → Given → Row
row t command block said = record { tables = t; request = sent command block; said = said }

-- each of these is 2/1
unfoldable pub malformed : List Row
malformed =
    map (λ block. row few_records 0x0B block (refusal 0x0B 2 0x01 0x00))
    (wrong_mark ∷ wrong_count ∷ wrong_length ∷ byte_less ∷ byte_more ∷ no_block ∷ half_block ∷ round_about ∷ [])

pub malformed-replies : map (λ r. given r.tables r.request) malformed ≡ map (λ r. r.said) malformed
unfolding malformed wrong_mark wrong_count wrong_length byte_less byte_more no_block half_block round_about row sent core_write message few_records tables_with session tree open_of sizes memory given taken take-message dropped starts_smb is_reply answered served replied reply_of reply_header put run_chain only_status blocks blocks_from blocks_within after_parse after_block parse parse_core_write answer core_write_fits shaped le16_at le32_at forms_of status refused_block refusal reply two sound within_room file_ok tree_ok permits holds_open sharing_ok catalogue_ok none_doubled open_ok sound_records lock_ok agree agree_all sound_locks file_of is_tree contains number_ok numbered any all all_tails overlaps passes_end four status_number smb_number nt_bit seen_ok
malformed-replies = refl

-- ---- replies

-- of a core READ that yields nothing
unfoldable pub empty_reply : Given
empty_reply = done_reply 48 0x0A ((0x05 ∷ 0x00 ∷ 0x00 ∷ 0x00 ∷ 0x00 ∷ 0x00 ∷ 0x00 ∷ 0x00 ∷ 0x00 ∷ 0x00 ∷ 0x00 ∷ []) ++ (0x03 ∷ 0x00 ∷ 0x01 ∷ 0x00 ∷ 0x00 ∷ []))

-- the core READ (source document 000): 5 words: "count; reserved (MBZ)", which is eight zero bytes; "length of data + 3" bytes: "Data Block -- 01; length of data; data". File 1
-- has 6 bytes: 3 of them from 2 on; 9 from 4 on, of which there are 2; "A read completely beyond the end of file will result in a response of length zero", whose bytes
-- are the mark and the length alone; none asked, also under another's lock; and 258 where that is the size
unfoldable pub read_replies : List Row
read_replies =
    row few_records 0x0A (core_read 4 3 2)
    (done_reply 51 0x0A ((0x05 ∷ 0x03 ∷ 0x00 ∷ 0x00 ∷ 0x00 ∷ 0x00 ∷ 0x00 ∷ 0x00 ∷ 0x00 ∷ 0x00 ∷ 0x00 ∷ []) ++ (0x06 ∷ 0x00 ∷ 0x01 ∷ 0x03 ∷ 0x00 ∷ 0xA2 ∷ 0xA3 ∷ 0xA4 ∷ [])))
    ∷ row few_records 0x0A (core_read 4 9 4)
    (done_reply 50 0x0A ((0x05 ∷ 0x02 ∷ 0x00 ∷ 0x00 ∷ 0x00 ∷ 0x00 ∷ 0x00 ∷ 0x00 ∷ 0x00 ∷ 0x00 ∷ 0x00 ∷ []) ++ (0x05 ∷ 0x00 ∷ 0x01 ∷ 0x02 ∷ 0x00 ∷ 0xA4 ∷ 0xA5 ∷ [])))
    ∷ row few_records 0x0A (core_read 4 3 6) empty_reply
    ∷ row few_records 0x0A (core_read 4 0 2) empty_reply
    ∷ row (opened 2 (lock 7 0 6 ∷ [])) 0x0A (core_read 4 0 2) empty_reply
    ∷ row (taken few_records (sent 0x0B long_write)).tables 0x0A long_read
    (done_reply 306 0x0A ((0x05 ∷ 0x02 ∷ 0x01 ∷ 0x00 ∷ 0x00 ∷ 0x00 ∷ 0x00 ∷ 0x00 ∷ 0x00 ∷ 0x00 ∷ 0x00 ∷ []) ++ ((0x05 ∷ 0x01 ∷ 0x01 ∷ 0x02 ∷ 0x01 ∷ 0xA0 ∷ 0xA1 ∷ 0xA2 ∷ 0xA3 ∷ 0xA4 ∷ 0xA5 ∷ []) ++ replicate 252 0x00)))
    ∷ []

-- the core WRITE: 1 word, the count; no byte. 2 bytes at 2, and at 4,094, which is 0x0FFE; 258 bytes
unfoldable pub write_replies : List Row
write_replies =
    row few_records 0x0B (write_to 2 0) (done_reply 37 0x0B (0x01 ∷ 0x02 ∷ 0x00 ∷ 0x00 ∷ 0x00 ∷ []))
    ∷ row few_records 0x0B (write_to 0xFE 0x0F) (done_reply 37 0x0B (0x01 ∷ 0x02 ∷ 0x00 ∷ 0x00 ∷ 0x00 ∷ []))
    ∷ row few_records 0x0B long_write (done_reply 37 0x0B (0x01 ∷ 0x02 ∷ 0x01 ∷ 0x00 ∷ 0x00 ∷ []))
    ∷ []

-- where a core WRITE of count 0 is done
unfoldable pub resized_reply : Given
resized_reply = done_reply 37 0x0B (0x01 ∷ 0x00 ∷ 0x00 ∷ 0x00 ∷ 0x00 ∷ [])

-- "A core WRITE of count 0 sets the file's size to the offset (past 4,096 is 3/39)": from 6 to 9, to 4, to 6, to 4,096, which is 0x1000; 4,097 is past it, and 0x10004. Of a core WRITE
-- of 2 bytes 4,095 is.
unfoldable pub size_replies : List Row
size_replies =
    row few_records 0x0B (size_to 9 0) resized_reply
    ∷ row few_records 0x0B (size_to 4 0) resized_reply
    ∷ row few_records 0x0B (size_to 6 0) resized_reply
    ∷ row few_records 0x0B (size_to 0x00 0x10) resized_reply
    ∷ row few_records 0x0B (size_to 0x01 0x10) (refusal 0x0B 3 0x27 0x00)
    ∷ row few_records 0x0B far_size (refusal 0x0B 3 0x27 0x00)
    ∷ row few_records 0x0B (write_to 0xFF 0x0F) (refusal 0x0B 3 0x27 0x00)
    ∷ []

-- a shared lock of the sender, of one byte
unfoldable pub own_shared : ℕ → Lock
own_shared offset = record { fid = 4; process = 0x0D0C1B1A; offset = offset; length = 1; shared = true }

-- LOCK_BYTE_RANGE and UNLOCK_BYTE_RANGE: no word, no byte. 10 bytes from 100 on, locked; unlocked where they are, 1/158 where not: nothing is, another length, or a process
-- with another upper half. With 128 locks held, 1/8. 1/87 cannot arise: the top range does not pass 2^64. A
-- lock of no byte is granted beside one that is there, and released by its offset and length; a shared one is released like any other.
unfoldable pub range_replies : List Row
range_replies =
    row few_records 0x0C (byte_range 4 10 100) (done_reply 35 0x0C (0x00 ∷ 0x00 ∷ 0x00 ∷ []))
    ∷ row (opened 2 (lock 0x0D0C1B1A 100 10 ∷ [])) 0x0D (byte_range 4 10 100) (done_reply 35 0x0D (0x00 ∷ 0x00 ∷ 0x00 ∷ []))
    ∷ row few_records 0x0D (byte_range 4 10 100) (refusal 0x0D 1 0x9E 0x00)
    ∷ row (opened 2 (lock 0x0D0C1B1A 100 9 ∷ [])) 0x0D (byte_range 4 10 100) (refusal 0x0D 1 0x9E 0x00)
    ∷ row (opened 2 (lock 0x1B1A 100 10 ∷ [])) 0x0D (byte_range 4 10 100) (refusal 0x0D 1 0x9E 0x00)
    ∷ row (opened 2 (replicate 128 (lock 7 0 0))) 0x0C (byte_range 4 10 100) (refusal 0x0C 1 0x08 0x00)
    ∷ row (opened 2 (lock 7 100 10 ∷ [])) 0x0C (byte_range 4 0 105) (done_reply 35 0x0C (0x00 ∷ 0x00 ∷ 0x00 ∷ []))
    ∷ row (opened 2 (lock 0x0D0C1B1A 105 0 ∷ [])) 0x0D (byte_range 4 0 105) (done_reply 35 0x0D (0x00 ∷ 0x00 ∷ 0x00 ∷ []))
    ∷ row (opened 2 (own_shared 7 ∷ [])) 0x0D (byte_range 4 1 7) (done_reply 35 0x0D (0x00 ∷ 0x00 ∷ 0x00 ∷ []))
    ∷ row few_records 0x0C top_range (done_reply 35 0x0C (0x00 ∷ 0x00 ∷ 0x00 ∷ []))
    ∷ []

-- "Refusals: as for the counterparts": 2/91, of UID 3 on another connection; 2/5, of no tree; 1/6, of FID 5; 1/5, of a read on access 1 and a write on access 0, count 0 too, before
-- 1/33 and 3/39. "locks need no access".
unfoldable pub who_may_ask : List Row
who_may_ask =
    row (tables_with (session 3 6 ∷ []) [] [] []) 0x0A (core_read 4 3 2) (refusal 0x0A 2 0x5B 0x00)
    ∷ row (tables_with (session 3 5 ∷ []) [] [] []) 0x0B (write_to 2 0) (refusal 0x0B 2 0x05 0x00)
    ∷ row (tables_with (session 3 5 ∷ []) [] [] []) 0x0C (byte_range 4 10 100) (refusal 0x0C 2 0x05 0x00)
    ∷ row few_records 0x0A (core_read 5 3 2) (refusal 0x0A 1 0x06 0x00)
    ∷ row few_records 0x0C (byte_range 5 10 100) (refusal 0x0C 1 0x06 0x00)
    ∷ row few_records 0x0D (byte_range 5 10 100) (refusal 0x0D 1 0x06 0x00)
    ∷ row (opened 1 []) 0x0A (core_read 4 3 2) (refusal 0x0A 1 0x05 0x00)
    ∷ row (opened 0 []) 0x0B (write_to 2 0) (refusal 0x0B 1 0x05 0x00)
    ∷ row (opened 0 (lock 7 8 1 ∷ [])) 0x0B (size_to 0x01 0x10) (refusal 0x0B 1 0x05 0x00)
    ∷ row (opened 0 []) 0x0C (byte_range 4 10 100) (done_reply 35 0x0C (0x00 ∷ 0x00 ∷ 0x00 ∷ []))
    ∷ []

-- ---- "1/33 lock conflict", and the holder

-- the core READ of 2 to 5, WRITE to 2 to 4 and LOCK_BYTE_RANGE of 100 to 110 meet what their counterparts meet (Replies.antt)
unfoldable pub conflicts : List Row
conflicts =
    row contested 0x0A (core_read 4 3 2) (held_at 9 8 3 4 6 false (refusal 0x0A 1 0x21 0x00))
    ∷ row contested 0x0B (write_to 2 0) (held_at 9 8 1 0 3 true (refusal 0x0B 1 0x21 0x00))
    ∷ row contested 0x0C (byte_range 4 10 100) (held_at 4 0x0D0C1B1A 4 109 11 false (refusal 0x0C 1 0x21 0x00))
    ∷ []

-- "for locks it covers the bytes between the old and the new size", under the write's rule. The size is 6. To 4 or to 5: a lock of 4 to 5 is between in the one case, not in
-- the other, and of 6 to 7 in neither. To 9: a lock of 8 to 9 is between, of 5 to 6 and of 9 to 10 not. To 6: none is. The sender's own lock is in the way where it is shared. "Order: as written": 1/33 stands
-- before 3/39.
unfoldable pub size_conflicts : List Row
size_conflicts =
    row (opened 2 (lock 7 4 1 ∷ [])) 0x0B (size_to 4 0) (held_at 4 7 0 4 1 false (refusal 0x0B 1 0x21 0x00))
    ∷ row (opened 2 (lock 7 4 1 ∷ [])) 0x0B (size_to 5 0) resized_reply
    ∷ row (opened 2 (lock 7 6 1 ∷ [])) 0x0B (size_to 4 0) resized_reply
    ∷ row (opened 2 (lock 7 5 1 ∷ [])) 0x0B (size_to 9 0) resized_reply
    ∷ row (opened 2 (lock 7 8 1 ∷ [])) 0x0B (size_to 9 0) (held_at 4 7 0 8 1 false (refusal 0x0B 1 0x21 0x00))
    ∷ row (opened 2 (lock 7 9 1 ∷ [])) 0x0B (size_to 9 0) resized_reply
    ∷ row (opened 2 (lock 7 0 200 ∷ [])) 0x0B (size_to 6 0) resized_reply
    ∷ row (opened 2 (lock 0x0D0C1B1A 7 1 ∷ [])) 0x0B (size_to 9 0) resized_reply
    ∷ row (opened 2 (own_shared 7 ∷ [])) 0x0B (size_to 9 0) (held_at 4 0x0D0C1B1A 0 7 1 true (refusal 0x0B 1 0x21 0x00))
    ∷ row (opened 2 (lock 7 100 1 ∷ [])) 0x0B (size_to 0x01 0x10) (held_at 4 7 0 100 1 false (refusal 0x0B 1 0x21 0x00))
    ∷ []

-- ---- chains

-- LOCKING_ANDX of that type, of the sender's 3 bytes from 6 on, which are those between the size 6 and the size 9; a WRITE stands behind it
unfoldable pub lock_between : ℕ → List ℕ
lock_between kind = lock_block 0x0B kind 0 1 10 (0x1A ∷ 0x1B ∷ 6 ∷ 0 ∷ 0 ∷ 0 ∷ 3 ∷ 0 ∷ 0 ∷ 0 ∷ [])

-- "READ and WRITE may end a chain after LOCKING_ANDX": its reply block names 0x0A or 0x0B at 39, where the other stands. Refused there: 1/6, 3/39, and 1/33 by the lock
-- just granted, of process 0x0D0C0051 on 2 to 12. A WRITE of count 0 is done where the LOCKING took the bytes between the sizes for the sender alone; where it took them shared (type
-- 0x01) that lock, just granted, is in the way. LOCK_BYTE_RANGE and UNLOCK_BYTE_RANGE may not follow, nor the core READ after WRITE_ANDX: 2/1.
unfoldable pub chains : List Row
chains =
    row few_records 0x24 (lock100 0x0A ++ core_read 4 3 2)
    (done_reply 58 0x24 ((0x02 ∷ 0x0A ∷ 0x00 ∷ 0x27 ∷ 0x00 ∷ 0x00 ∷ 0x00 ∷ []) ++ ((0x05 ∷ 0x03 ∷ 0x00 ∷ 0x00 ∷ 0x00 ∷ 0x00 ∷ 0x00 ∷ 0x00 ∷ 0x00 ∷ 0x00 ∷ 0x00 ∷ []) ++ (0x06 ∷ 0x00 ∷ 0x01 ∷ 0x03 ∷ 0x00 ∷ 0xA2 ∷ 0xA3 ∷ 0xA4 ∷ []))))
    ∷ row few_records 0x24 (lock100 0x0B ++ write_to 2 0)
    (done_reply 44 0x24 ((0x02 ∷ 0x0B ∷ 0x00 ∷ 0x27 ∷ 0x00 ∷ 0x00 ∷ 0x00 ∷ []) ++ (0x01 ∷ 0x02 ∷ 0x00 ∷ 0x00 ∷ 0x00 ∷ [])))
    ∷ row few_records 0x24 (lock100 0x0A ++ core_read 5 3 2)
    (reply 42 0x24 1 0x06 0 0x88 0x01 ((0x02 ∷ 0x0A ∷ 0x00 ∷ 0x27 ∷ 0x00 ∷ 0x00 ∷ 0x00 ∷ []) ++ (0x00 ∷ 0x00 ∷ 0x00 ∷ [])))
    ∷ row few_records 0x24 (lock100 0x0B ++ size_to 0x01 0x10)
    (reply 42 0x24 3 0x27 0 0x88 0x01 ((0x02 ∷ 0x0B ∷ 0x00 ∷ 0x27 ∷ 0x00 ∷ 0x00 ∷ 0x00 ∷ []) ++ (0x00 ∷ 0x00 ∷ 0x00 ∷ [])))
    ∷ row few_records 0x24 (lock_block 0x0A 0 0 1 10 (range_of 0x51 2) ++ core_read 4 3 2)
    (held_at 4 0x0D0C0051 0 2 10 false (reply 42 0x24 1 0x21 0 0x88 0x01 ((0x02 ∷ 0x0A ∷ 0x00 ∷ 0x27 ∷ 0x00 ∷ 0x00 ∷ 0x00 ∷ []) ++ (0x00 ∷ 0x00 ∷ 0x00 ∷ []))))
    ∷ row few_records 0x24 (lock_between 0x00 ++ size_to 9 0)
    (done_reply 44 0x24 ((0x02 ∷ 0x0B ∷ 0x00 ∷ 0x27 ∷ 0x00 ∷ 0x00 ∷ 0x00 ∷ []) ++ (0x01 ∷ 0x00 ∷ 0x00 ∷ 0x00 ∷ 0x00 ∷ [])))
    ∷ row few_records 0x24 (lock_between 0x01 ++ size_to 9 0)
    (held_at 4 0x0D0C1B1A 0 6 3 true (reply 42 0x24 1 0x21 0 0x88 0x01 ((0x02 ∷ 0x0B ∷ 0x00 ∷ 0x27 ∷ 0x00 ∷ 0x00 ∷ 0x00 ∷ []) ++ (0x00 ∷ 0x00 ∷ 0x00 ∷ []))))
    ∷ row few_records 0x24 (lock100 0x0C ++ byte_range 4 10 0) (refusal 0x24 2 0x01 0x00)
    ∷ row few_records 0x24 (lock100 0x0D ++ byte_range 4 10 100) (refusal 0x24 2 0x01 0x00)
    ∷ row few_records 0x2F (write_block 0x0A 2 0 ++ core_read 4 3 2) (refusal 0x2F 2 0x01 0x00)
    ∷ []

-- ---- the table

unfoldable pub table : List Row
table = read_replies ++ (write_replies ++ (size_replies ++ (range_replies ++ (who_may_ask ++ (conflicts ++ (size_conflicts ++ chains))))))

-- what the definitions give is what the documents say, in every row
pub core-replies : map (λ r. given r.tables r.request) table ≡ map (λ r. r.said) table
unfolding table long_write long_read top_range far_size empty_reply read_replies write_replies resized_reply size_replies range_replies who_may_ask own_shared conflicts size_conflicts lock_between chains row sent core_read core_write write_to size_to byte_range holder_of message few_records tables_with session tree open_of sizes memory given taken take-message dropped starts_smb is_reply answered served replied reply_of reply_header put run_chain only_status blocks blocks_from blocks_within after_parse after_block before parse answer link_fits link_at may_follow shaped bare le16_at le32_at caller_of run body_meant fid_meant after_given after link_to perform area_of data_of status forms_of reply_block refused_block reply_size link_words two with_session is_session with_tree with_open is_open open_at found found_from sound within_room file_ok tree_ok permits holds_open sharing_ok catalogue_ok none_doubled open_ok sound_records lock_ok agree agree_all sound_locks file_of is_tree contains number_ok numbered any all all_tails overlaps passes_end reply lock100 lock_block range100 parse_locking locking_fits is_large range_size do_locking served_type request_of locking request release_all after_find remove_at named after_releases grant_all after_walk after_grants settle ranges_of of_header ranges_at range_at range_from number_at range_passes ask_of lock_of answers answers_for in_way bars owns locking_after locking_end with_lock_list stored wide_offset do_read unless_barred barring ask_by read_bytes contents size_of write_block parse_write write_fits data_inside do_write ends_past resized written with_files parse_bare with_locks refusal opened lock held_at contested range_of holder_at parse_core_write core_write_fits core_said as_core range_by one_range do_range small_form between_sizes do_set_size do_core_write four status_number smb_number nt_bit done_reply seen_ok noting changes_of with_opens sized_to
core-replies = refl

-- ---- what else the call leaves

-- the sizes of the files
unfoldable pub sizes_in : Tables → List ℕ
sizes_in t = map (λ f. f.size) t.files

-- file memory with those bytes at 4,096, where file 1 stands, and 0 elsewhere
unfoldable pub file1 : List ℕ → ℕ → List ℕ
file1 bytes rest = replicate 4096 0 ++ (bytes ++ replicate rest 0)

-- READ changes nothing but what its open remembers (document 02, CR 8), and a WRITE refused nothing at all. A WRITE changes its bytes.
pub core-left : ((taken few_records (sent 0x0A (core_read 4 3 2))).tables ≡ tables_with (session 3 5 ∷ []) (tree 2 3 1 ∷ []) (having-read 8 (open_of 4 3 2 0x0D0C1B1A 1 2) ∷ []) [])
    × ((taken few_records (sent 0x0A (core_read 4 3 2))).memory ≡ memory)
    × ((taken few_records (sent 0x0B (size_to 0x01 0x10))).tables ≡ few_records)
    × ((taken few_records (sent 0x0B (size_to 0x01 0x10))).memory ≡ memory)
    × (sizes_in (taken few_records (sent 0x0B (write_to 2 0))).tables ≡ 0 ∷ 6 ∷ replicate 14 0)
    × ((taken few_records (sent 0x0B (write_to 2 0))).memory ≡ file1 (0xA0 ∷ 0xA1 ∷ 0xBB ∷ 0xCC ∷ 0xA4 ∷ 0xA5 ∷ []) 61434)
unfolding having-read sizes_in file1 sent core_read core_write write_to size_to byte_range holder_of message few_records tables_with session tree open_of sizes memory taken take-message dropped starts_smb is_reply answered served replied reply_of reply_header put run_chain only_status blocks blocks_from blocks_within after_parse after_block before parse answer link_fits link_at may_follow shaped bare le16_at le32_at caller_of run body_meant fid_meant after_given after link_to perform area_of data_of status forms_of reply_block refused_block reply_size link_words two with_session is_session with_tree with_open is_open open_at found found_from sound within_room file_ok tree_ok permits holds_open sharing_ok catalogue_ok none_doubled open_ok sound_records lock_ok agree agree_all sound_locks file_of is_tree contains number_ok numbered any all all_tails overlaps passes_end lock100 lock_block range100 parse_locking locking_fits is_large range_size do_locking served_type request_of locking request release_all after_find remove_at named after_releases grant_all after_walk after_grants settle ranges_of of_header ranges_at range_at range_from number_at range_passes ask_of lock_of answers answers_for in_way bars owns locking_after locking_end with_lock_list stored do_read unless_barred barring ask_by read_bytes contents size_of do_write ends_past resized written with_files parse_bare with_locks opened lock parse_core_write core_write_fits core_said as_core range_by one_range do_range small_form between_sizes do_set_size do_core_write four status_number smb_number nt_bit seen_ok noting changes_of with_opens sized_to
core-left = (refl, refl, refl, refl, refl, refl)

-- the tables after a WRITE of count 0 to 4: the file shrinks by the bytes A4 A5
unfoldable pub shrunk : Tables
shrunk = (taken few_records (sent 0x0B (size_to 4 0))).tables

-- "sets the file's size to the offset .., with zeros where it grows and no byte changed where it shrinks": to 4 the bytes stand; to 6, where the size is, nothing changes; from
-- 4 to 5, and to 9, A4 and A5 are 0 as far as it grows; so they are before a WRITE of 2 bytes at 6
pub sizes-left : (sizes_in shrunk ≡ 0 ∷ 4 ∷ replicate 14 0)
    × ((taken few_records (sent 0x0B (size_to 4 0))).memory ≡ memory)
    × ((taken few_records (sent 0x0B (size_to 6 0))).tables ≡ few_records)
    × ((taken few_records (sent 0x0B (size_to 6 0))).memory ≡ memory)
    × (sizes_in (taken shrunk (sent 0x0B (size_to 5 0))).tables ≡ 0 ∷ 5 ∷ replicate 14 0)
    × ((taken shrunk (sent 0x0B (size_to 5 0))).memory ≡ file1 (0xA0 ∷ 0xA1 ∷ 0xA2 ∷ 0xA3 ∷ 0x00 ∷ 0xA5 ∷ []) 61434)
    × (sizes_in (taken shrunk (sent 0x0B (size_to 9 0))).tables ≡ 0 ∷ 9 ∷ replicate 14 0)
    × ((taken shrunk (sent 0x0B (size_to 9 0))).memory ≡ file1 (0xA0 ∷ 0xA1 ∷ 0xA2 ∷ 0xA3 ∷ []) 61436)
    × (sizes_in (taken shrunk (sent 0x0B (write_to 6 0))).tables ≡ 0 ∷ 8 ∷ replicate 14 0)
    × ((taken shrunk (sent 0x0B (write_to 6 0))).memory ≡ file1 (0xA0 ∷ 0xA1 ∷ 0xA2 ∷ 0xA3 ∷ 0x00 ∷ 0x00 ∷ 0xBB ∷ 0xCC ∷ []) 61432)
unfolding shrunk sizes_in file1 sent core_read core_write write_to size_to byte_range holder_of message few_records tables_with session tree open_of sizes memory taken take-message dropped starts_smb is_reply answered served replied reply_of reply_header put run_chain only_status blocks blocks_from blocks_within after_parse after_block before parse answer link_fits link_at may_follow shaped bare le16_at le32_at caller_of run body_meant fid_meant after_given after link_to perform area_of data_of status forms_of reply_block refused_block reply_size link_words two with_session is_session with_tree with_open is_open open_at found found_from sound within_room file_ok tree_ok permits holds_open sharing_ok catalogue_ok none_doubled open_ok sound_records lock_ok agree agree_all sound_locks file_of is_tree contains number_ok numbered any all all_tails overlaps passes_end lock100 lock_block range100 parse_locking locking_fits is_large range_size do_locking served_type request_of locking request release_all after_find remove_at named after_releases grant_all after_walk after_grants settle ranges_of of_header ranges_at range_at range_from number_at range_passes ask_of lock_of answers answers_for in_way bars owns locking_after locking_end with_lock_list stored do_read unless_barred barring ask_by read_bytes contents size_of do_write ends_past resized written with_files parse_bare with_locks opened lock parse_core_write core_write_fits core_said as_core range_by one_range do_range small_form between_sizes do_set_size do_core_write four status_number smb_number nt_bit seen_ok noting changes_of with_opens sized_to
sizes-left = (refl, refl, refl, refl, refl, refl, refl, refl, refl, refl)

-- 100 to 110 between two other locks of the sender
unfoldable pub three : Tables
three = opened 2 (lock 0x0D0C1B1A 50 1 ∷ lock 0x0D0C1B1A 100 10 ∷ lock 0x0D0C1B1A 200 1 ∷ [])

-- "the process from the header; the lock is exclusive"; an unlock removes that lock; in a chain the LOCKING before a WRITE stands, done or refused; refused, a
-- count of 0 leaves the size as it was
pub locks-left : ((taken few_records (sent 0x0C (byte_range 4 10 100))).tables.locks ≡ record { fid = 4; process = 0x0D0C1B1A; offset = 100; length = 10; shared = false } ∷ [])
    × ((taken few_records (sent 0x0C (byte_range 4 10 100))).tables.nlocks ≡ 1)
    × ((taken few_records (sent 0x0C top_range)).tables.locks ≡ lock 0x0D0C1B1A 4294967295 4294967295 ∷ [])
    × ((taken three (sent 0x0D (byte_range 4 10 100))).tables.nlocks ≡ 2)
    × (take 2 (taken three (sent 0x0D (byte_range 4 10 100))).tables.locks ≡ lock 0x0D0C1B1A 50 1 ∷ lock 0x0D0C1B1A 200 1 ∷ [])
    × ((taken few_records (sent 0x24 (lock100 0x0B ++ write_to 2 0))).tables.locks ≡ lock 0x0D0C1B1A 100 10 ∷ [])
    × ((taken few_records (sent 0x24 (lock100 0x0B ++ write_to 2 0))).memory ≡ file1 (0xA0 ∷ 0xA1 ∷ 0xBB ∷ 0xCC ∷ 0xA4 ∷ 0xA5 ∷ []) 61434)
    × ((taken few_records (sent 0x24 (lock100 0x0B ++ size_to 0x01 0x10))).tables.locks ≡ lock 0x0D0C1B1A 100 10 ∷ [])
    × ((taken few_records (sent 0x24 (lock_between 0x01 ++ size_to 9 0))).tables.locks ≡ record { fid = 4; process = 0x0D0C1B1A; offset = 6; length = 3; shared = true } ∷ [])
    × (sizes_in (taken few_records (sent 0x24 (lock_between 0x01 ++ size_to 9 0))).tables ≡ 0 ∷ 6 ∷ replicate 14 0)
unfolding lock_between sizes_in three top_range file1 sent core_read core_write write_to size_to byte_range holder_of message few_records tables_with session tree open_of sizes memory taken take-message dropped starts_smb is_reply answered served replied reply_of reply_header put run_chain only_status blocks blocks_from blocks_within after_parse after_block before parse answer link_fits link_at may_follow shaped bare le16_at le32_at caller_of run body_meant fid_meant after_given after link_to perform area_of data_of status forms_of reply_block refused_block reply_size link_words two with_session is_session with_tree with_open is_open open_at found found_from sound within_room file_ok tree_ok permits holds_open sharing_ok catalogue_ok none_doubled open_ok sound_records lock_ok agree agree_all sound_locks file_of is_tree contains number_ok numbered any all all_tails overlaps passes_end lock100 lock_block range100 parse_locking locking_fits is_large range_size do_locking served_type request_of locking request release_all after_find remove_at named after_releases grant_all after_walk after_grants settle ranges_of of_header ranges_at range_at range_from number_at range_passes ask_of lock_of answers answers_for in_way bars owns locking_after locking_end with_lock_list stored do_read unless_barred barring ask_by read_bytes contents size_of do_write ends_past resized written with_files parse_bare with_locks opened lock parse_core_write core_write_fits core_said as_core range_by one_range do_range small_form between_sizes do_set_size do_core_write four status_number smb_number nt_bit seen_ok noting changes_of with_opens sized_to
locks-left = (refl, refl, refl, refl, refl, refl, refl, refl, refl, refl)
