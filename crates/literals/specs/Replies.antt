-- One whole reply of each kind, byte for byte (document 01, "Header" and "Reply blocks"), and the holder beside it (document 02, CR 2), from a whole message on tables
-- with few records. Assumes nothing.
use Rattle.std.specs.Prelude.{◌≡◌, refl, ℕ, Bool, true, false, List, [], ◌∷◌, ◌++◌, map, take, drop, replicate, None as Nobody, Some as held_by}
use Rattle.lists.specs.Walk.{any, all, all_tails, keep, found_from, found}
use Rattle.lists.specs.Put.{put}
use Rattle.lists.specs.Stored.{stored}
use Rattle.wire.specs.LittleEndian.{le16_at, le32_at}
use Rattle.records.specs.declared.Lock.{Lock}
use Rattle.records.specs.declared.Tables.{Tables}
use Rattle.records.specs.Held.{with_sessions, with_trees, with_opens, with_locks, with_files}
use Rattle.locks.specs.Range.{overlaps, passes_end}
use Rattle.locks.specs.Wire.{range_size, number_at, range_from, range_at, ranges_at}
use Rattle.locks.specs.Answer.{owns, bars, in_way, named, answers_for, answers}
use Rattle.locks.specs.Request.{of_header, ranges_of, holder_at, ask_of, lock_of, remove_at, after_find, release_all, after_walk, grant_all, after_grants, range_passes, after_releases, request, settle, locking}
use Rattle.numbers.specs.Number.{contains, number_ok, numbered}
use Rattle.soundness.specs.File.{file_of}
use Rattle.soundness.specs.Lookup.{is_tree}
use Rattle.catalogue.specs.Name.{none_doubled, catalogue_ok}
use Rattle.soundness.specs.Sound.{within_room, file_ok, tree_ok, permits, holds_open, sharing_ok, open_ok, sound_records, lock_ok, agree, agree_all, sound_locks, sound, seen_ok}
use Rattle.removal.specs.Removal.{session_named, tree_named, open_named, session_stays, tree_stays, open_stays, lock_stays, sweep_sessions, sweep_trees, sweep_opens, sweep_locks, remove}
use Rattle.chain.specs.Header.{starts_smb, is_reply, dropped}
use Rattle.chain.specs.Parse.{shaped, bare, is_large, locking_fits, read_fits, data_inside, write_fits, may_follow, link_fits, link_at, answer, wide_offset, parse_locking, parse_read, parse_write, parse_logoff, parse_bare, parse}
use Rattle.chain.specs.Chain.{before, after_block, after_parse, blocks_within, blocks_from, blocks}
use Rattle.message.specs.Caller.{caller_of}
use Rattle.message.specs.Refusal.{status, forms_of, holder_of}
use Rattle.message.specs.HeldBy.{HeldBy}
use Rattle.message.specs.Contents.{size_of, contents, read_bytes, written, resized}
use Rattle.message.specs.Command.{is_session, with_session, with_tree, is_open, open_at, with_open, served_type, request_of, with_lock_list, locking_end, locking_after, do_locking, ask_by, unless_barred, barring, do_read, ends_past, do_write, perform}
use Rattle.message.specs.Reply.{two, reply_header, link_words, reply_block, refused_block, reply_size, four, nt_bit, smb_number, status_number}
use Rattle.message.specs.JustOpened.{fid_meant, body_meant}
use Rattle.message.specs.Message.{area_of, data_of, after, link_to, after_given, run, served, only_status, run_chain, answered, reply_of, Taken, replied, take-message}
use Rattle.literals.specs.State.{session, tree, open_of, sizes, tables_with, few_records, memory}
use Rattle.records.specs.Change.{changes_of, noting}

-- ---- requests

-- a message of that command, Flags, and lower and upper byte of Flags2, each other byte of the header its own place, but TID 2 and UID 3
unfoldable pub message_of : ℕ → ℕ → ℕ → ℕ → List ℕ → List ℕ
message_of command flags low high block =
    (0xFF ∷ 0x53 ∷ 0x4D ∷ 0x42 ∷ command ∷ 0x05 ∷ 0x06 ∷ 0x07 ∷ 0x08 ∷ flags ∷ low ∷ high ∷ 0x0C ∷ 0x0D ∷ 0x0E ∷ 0x0F ∷ [])
    ++ ((0x10 ∷ 0x11 ∷ 0x12 ∷ 0x13 ∷ 0x14 ∷ 0x15 ∷ 0x16 ∷ 0x17 ∷ 0x02 ∷ 0x00 ∷ 0x1A ∷ 0x1B ∷ 0x03 ∷ 0x00 ∷ 0x1E ∷ 0x1F ∷ [])
    ++ block)

-- the upper byte of Flags2 having every bit but 0x4000, which asks for NT status (NtReplies.antt)
unfoldable pub message : ℕ → ℕ → ℕ → List ℕ → List ℕ
unfolding message_of
message command flags low block = message_of command flags low 0xBF block

-- LOCKING of FID 4, of that type, that many unlocks and locks, and those ranges in that many bytes. Behind it comes the command given, at 61, or none
-- with 0xFF.
unfoldable pub lock_block : ℕ → ℕ → ℕ → ℕ → ℕ → List ℕ → List ℕ
lock_block next kind unlocks locks count ranges =
    (8 ∷ next ∷ 0 ∷ 61 ∷ 0 ∷ 4 ∷ 0 ∷ kind ∷ 0 ∷ 0 ∷ 0 ∷ 0 ∷ 0 ∷ unlocks ∷ 0 ∷ locks ∷ 0 ∷ count ∷ 0 ∷ []) ++ ranges

-- the range of 10 bytes from 100 on, with 0x1B1A in its process
unfoldable pub range100 : List ℕ
range100 = 0x1A ∷ 0x1B ∷ 100 ∷ 0 ∷ 0 ∷ 0 ∷ 10 ∷ 0 ∷ 0 ∷ 0 ∷ []

-- one exclusive lock of that range
unfoldable pub lock100 : ℕ → List ℕ
lock100 next = lock_block next 0 0 1 10 range100

-- READ_ANDX of 10 words of that FID: 3 bytes from offset 2 on
unfoldable pub read_block : ℕ → List ℕ
read_block fid = 10 ∷ 0xFF ∷ 0 ∷ 0 ∷ 0 ∷ fid ∷ 0 ∷ 2 ∷ 0 ∷ 0 ∷ 0 ∷ 3 ∷ replicate 11 0

-- WRITE_ANDX of 12 words of FID 4: the bytes BB CC, at 59, to that offset (its two bytes). Behind it comes the command given, at 61, or none with 0xFF.
unfoldable pub write_block : ℕ → ℕ → ℕ → List ℕ
write_block next low high = (12 ∷ next ∷ 0 ∷ 61 ∷ 0 ∷ 4 ∷ 0 ∷ low ∷ high ∷ replicate 12 0) ++ (2 ∷ 0 ∷ 59 ∷ 0 ∷ 2 ∷ 0 ∷ 0xBB ∷ 0xCC ∷ [])

-- CLOSE of that FID
unfoldable pub close_block : ℕ → List ℕ
close_block fid = 3 ∷ fid ∷ 0 ∷ 0 ∷ 0 ∷ 0 ∷ 0 ∷ 0 ∷ 0 ∷ []

-- ---- replies

-- the call on those tables: the least reply room, each byte 0xEE
unfoldable pub taken : Tables → List ℕ → Taken
taken t s = take-message 5 s t memory (replicate 12292 0xEE)

-- what it gives: the number, the reply's length, the holder, and the reply
pub record Given : Type 0 where
  pub number : ℕ
  pub size : ℕ
  pub holder : HeldBy
  pub reply : List ℕ

unfoldable pub given : Tables → List ℕ → Given
given t s = record { number = (taken t s).number; size = (taken t s).length; holder = (taken t s).holder; reply = take (taken t s).length (taken t s).room }

-- "A reply copies Command, PIDHigh, TID, PIDLow, UID and MID; Flags is 0x80 plus the request's 0x08; Flags2 keeps only 0x0001; the rest is 0 but for
-- Status." "SMBSTATUS is class, 0, code": the reply of that length, Command, class, code (its two bytes), Flags and Flags2, and its blocks; with no holder
unfoldable pub reply : ℕ → ℕ → ℕ → ℕ → ℕ → ℕ → ℕ → List ℕ → Given
reply size command class low high flags flags2 bytes =
    record {
      number = 0;
      size = size;
      holder = Nobody;
      reply =
          (0xFF ∷ 0x53 ∷ 0x4D ∷ 0x42 ∷ command ∷ class ∷ 0x00 ∷ low ∷ high ∷ flags ∷ flags2 ∷ 0x00 ∷ 0x0C ∷ 0x0D ∷ 0x00 ∷ 0x00 ∷ [])
          ++ ((0x00 ∷ 0x00 ∷ 0x00 ∷ 0x00 ∷ 0x00 ∷ 0x00 ∷ 0x00 ∷ 0x00 ∷ 0x02 ∷ 0x00 ∷ 0x1A ∷ 0x1B ∷ 0x03 ∷ 0x00 ∷ 0x1E ∷ 0x1F ∷ [])
          ++ bytes);
    }

-- a reply with everything done to a request of Flags 0x7F and Flags2 0xBFFF
unfoldable pub done_reply : ℕ → ℕ → List ℕ → Given
done_reply size command bytes = reply size command 0 0 0 0x88 0x01 bytes

-- a message on tables, and what is to come of it
pub record Row : Type 0 where
  pub tables : Tables
  pub request : List ℕ
  pub said : Given

-- ---- each kind

-- "LOCKING and LOGOFF: 2 words." AndX "with none it is FF 00 00 00"
unfoldable pub locking_reply : Row
locking_reply =
    record {
      tables = few_records;
      request = message 0x24 0x7F 0xFF (lock100 0xFF);
      said = done_reply 39 0x24 (0x02 ∷ 0xFF ∷ 0x00 ∷ 0x00 ∷ 0x00 ∷ 0x00 ∷ 0x00 ∷ []);
    }

-- "READ: 12 words: AndX, 0xFFFF, 0, 0, length, data offset, ten zero bytes; the bytes are the data": 3 of them at 59
unfoldable pub read_reply : Row
read_reply =
    record {
      tables = few_records;
      request = message 0x2E 0x7F 0xFF (read_block 4);
      said = done_reply 62 0x2E ((0x0C ∷ 0xFF ∷ 0x00 ∷ 0x00 ∷ 0x00 ∷ 0xFF ∷ 0xFF ∷ 0x00 ∷ 0x00 ∷ 0x00 ∷ 0x00 ∷ 0x03 ∷ 0x00 ∷ 0x3B ∷ 0x00 ∷ []) ++ (0x00 ∷ 0x00 ∷ 0x00 ∷ 0x00 ∷ 0x00 ∷ 0x00 ∷ 0x00 ∷ 0x00 ∷ 0x00 ∷ 0x00 ∷ 0x03 ∷ 0x00 ∷ 0xA2 ∷ 0xA3 ∷ 0xA4 ∷ []));
    }

-- "WRITE: 6 words: AndX, count, 0xFFFF, four zero bytes."
unfoldable pub write_reply : Row
write_reply =
    record {
      tables = few_records;
      request = message 0x2F 0x7F 0xFF (write_block 0xFF 2 0);
      said = done_reply 47 0x2F (0x06 ∷ 0xFF ∷ 0x00 ∷ 0x00 ∷ 0x00 ∷ 0x02 ∷ 0x00 ∷ 0xFF ∷ 0xFF ∷ 0x00 ∷ 0x00 ∷ 0x00 ∷ 0x00 ∷ 0x00 ∷ 0x00 ∷ []);
    }

-- "Others: 0 words."
unfoldable pub close_reply : Row
close_reply = record { tables = few_records; request = message 0x04 0x7F 0xFF (close_block 4); said = done_reply 35 0x04 (0x00 ∷ 0x00 ∷ 0x00 ∷ []) }

-- LOGOFF: its AndXOffset is ignored
unfoldable pub logoff_reply : Row
logoff_reply =
    record {
      tables = few_records;
      request = message 0x74 0x7F 0xFF (0x02 ∷ 0xFF ∷ 0x22 ∷ 0x23 ∷ 0x24 ∷ 0x00 ∷ 0x00 ∷ []);
      said = done_reply 39 0x74 (0x02 ∷ 0xFF ∷ 0x00 ∷ 0x00 ∷ 0x00 ∷ 0x00 ∷ 0x00 ∷ []);
    }

-- TREE_DISCONNECT
unfoldable pub disconnect_reply : Row
disconnect_reply =
    record {
      tables = few_records;
      request = message 0x71 0x7F 0xFF (0x00 ∷ 0x00 ∷ 0x00 ∷ []);
      said = done_reply 35 0x71 (0x00 ∷ 0x00 ∷ 0x00 ∷ []);
    }

-- PROCESS_EXIT
unfoldable pub exit_reply : Row
exit_reply = record { tables = few_records; request = message 0x11 0x7F 0xFF (0x00 ∷ 0x00 ∷ 0x00 ∷ []); said = done_reply 35 0x11 (0x00 ∷ 0x00 ∷ 0x00 ∷ []) }

-- "Flags is 0x80 plus the request's 0x08; Flags2 keeps only 0x0001" (and 0x4000: NtReplies.antt): no bit is set
unfoldable pub no_flags : Row
no_flags =
    record {
      tables = few_records;
      request = message_of 0x71 0x00 0x00 0x00 (0x00 ∷ 0x00 ∷ 0x00 ∷ []);
      said = reply 35 0x71 0 0 0 0x80 0x00 (0x00 ∷ 0x00 ∷ 0x00 ∷ []);
    }

-- all but those two, and but 0x4000
unfoldable pub other_flags : Row
other_flags =
    record {
      tables = few_records;
      request = message 0x71 0x77 0xFE (0x00 ∷ 0x00 ∷ 0x00 ∷ []);
      said = reply 35 0x71 0 0 0 0x80 0x00 (0x00 ∷ 0x00 ∷ 0x00 ∷ []);
    }

-- just those two, and 0x0100
unfoldable pub just_flags : Row
just_flags =
    record {
      tables = few_records;
      request = message_of 0x71 0x08 0x01 0x01 (0x00 ∷ 0x00 ∷ 0x00 ∷ []);
      said = reply 35 0x71 0 0 0 0x88 0x01 (0x00 ∷ 0x00 ∷ 0x00 ∷ []);
    }

-- ---- chains

-- "Blocks stand end to end from 32"; "AndX names the next block written": LOCKING, and a READ_ANDX at 39, whose data stand at 66
unfoldable pub lock_read_reply : Row
lock_read_reply =
    record {
      tables = few_records;
      request = message 0x24 0x7F 0xFF (lock100 0x2E ++ read_block 4);
      said = done_reply 69 0x24 ((0x02 ∷ 0x2E ∷ 0x00 ∷ 0x27 ∷ 0x00 ∷ 0x00 ∷ 0x00 ∷ []) ++ ((0x0C ∷ 0xFF ∷ 0x00 ∷ 0x00 ∷ 0x00 ∷ 0xFF ∷ 0xFF ∷ 0x00 ∷ 0x00 ∷ 0x00 ∷ 0x00 ∷ 0x03 ∷ 0x00 ∷ 0x42 ∷ 0x00 ∷ []) ++ (0x00 ∷ 0x00 ∷ 0x00 ∷ 0x00 ∷ 0x00 ∷ 0x00 ∷ 0x00 ∷ 0x00 ∷ 0x00 ∷ 0x00 ∷ 0x03 ∷ 0x00 ∷ 0xA2 ∷ 0xA3 ∷ 0xA4 ∷ [])));
    }

-- WRITE_ANDX, and a CLOSE at 47
unfoldable pub write_close_reply : Row
write_close_reply =
    record {
      tables = few_records;
      request = message 0x2F 0x7F 0xFF (write_block 0x04 2 0 ++ close_block 4);
      said = done_reply 50 0x2F ((0x06 ∷ 0x04 ∷ 0x00 ∷ 0x2F ∷ 0x00 ∷ 0x02 ∷ 0x00 ∷ 0xFF ∷ 0xFF ∷ 0x00 ∷ 0x00 ∷ 0x00 ∷ 0x00 ∷ 0x00 ∷ 0x00 ∷ []) ++ (0x00 ∷ 0x00 ∷ 0x00 ∷ []));
    }

-- "A refused command .. gives WordCount 0 and ByteCount 0, and Status stands in the header": LOCKING, and a READ_ANDX of FID 5, 1/6
unfoldable pub lock_refused_reply : Row
lock_refused_reply =
    record {
      tables = few_records;
      request = message 0x24 0x7F 0xFF (lock100 0x2E ++ read_block 5);
      said = reply 42 0x24 1 6 0 0x88 0x01 ((0x02 ∷ 0x2E ∷ 0x00 ∷ 0x27 ∷ 0x00 ∷ 0x00 ∷ 0x00 ∷ []) ++ (0x00 ∷ 0x00 ∷ 0x00 ∷ []));
    }

-- ---- each refusal

-- WordCount 0 and ByteCount 0 behind the header with that class and code
unfoldable pub refusal : ℕ → ℕ → ℕ → ℕ → Given
refusal command class low high = reply 35 command class low high 0x88 0x01 (0x00 ∷ 0x00 ∷ 0x00 ∷ [])

-- the few_records tables, but with an open of that access and with those locks
unfoldable pub opened : ℕ → List Lock → Tables
opened access locks = tables_with (session 3 5 ∷ []) (tree 2 3 1 ∷ []) (open_of 4 3 2 0x0D0C1B1A 1 access ∷ []) locks

-- a lock of FID 4 and that process
unfoldable pub lock : ℕ → ℕ → ℕ → Lock
lock process offset size = record { fid = 4; process = process; offset = offset; length = size; shared = false }

-- "2/22 header command not served"
unfoldable pub unserved : Row
unserved = record { tables = few_records; request = message 0x72 0x7F 0xFF (0x00 ∷ 0x00 ∷ 0x00 ∷ []); said = refusal 0x72 2 0x16 0x00 }

-- "2/1 not a sentence": a CLOSE of 2 words
unfoldable pub malformed : Row
malformed =
    record {
      tables = few_records;
      request = message 0x04 0x7F 0xFF (0x02 ∷ 0x04 ∷ 0x00 ∷ 0x00 ∷ 0x00 ∷ 0x00 ∷ 0x00 ∷ []);
      said = refusal 0x04 2 0x01 0x00;
    }

-- "2/91 no session of that UID on this connection": it is on connection 6
unfoldable pub no_session : Row
no_session =
    record {
      tables = tables_with (session 3 6 ∷ []) [] [] [];
      request = message 0x04 0x7F 0xFF (close_block 4);
      said = refusal 0x04 2 0x5B 0x00;
    }

-- "2/5 no tree of that TID and UID": TID 2 is UID 1's
unfoldable pub no_tree : Row
no_tree =
    record {
      tables = tables_with (session 1 5 ∷ session 3 5 ∷ []) (tree 2 1 1 ∷ []) [] [];
      request = message 0x04 0x7F 0xFF (close_block 4);
      said = refusal 0x04 2 0x05 0x00;
    }

-- "1/6 no open of that FID, UID and TID"
unfoldable pub no_open : Row
no_open = record { tables = few_records; request = message 0x04 0x7F 0xFF (close_block 5); said = refusal 0x04 1 0x06 0x00 }

-- "1/5 access": a read on access 1, a write on access 0
unfoldable pub no_read : Row
no_read = record { tables = opened 1 []; request = message 0x2E 0x7F 0xFF (read_block 4); said = refusal 0x2E 1 0x05 0x00 }

-- and a write on access 0
unfoldable pub no_write : Row
no_write = record { tables = opened 0 []; request = message 0x2F 0x7F 0xFF (write_block 0xFF 2 0); said = refusal 0x2F 1 0x05 0x00 }

-- "2/65535 lock type bit other than 0x01 and 0x10"
unfoldable pub lock_type : Row
lock_type = record { tables = few_records; request = message 0x24 0x7F 0xFF (lock_block 0xFF 0x02 0 1 10 range100); said = refusal 0x24 2 0xFF 0xFF }

-- "1/158 no such lock to release"
unfoldable pub no_such_lock : Row
no_such_lock = record { tables = few_records; request = message 0x24 0x7F 0xFF (lock_block 0xFF 0 1 0 10 range100); said = refusal 0x24 1 0x9E 0x00 }

-- "1/87 lock range passes 2^64": offset 2^64 - 1, length 2
unfoldable pub passes_top : Row
passes_top =
    record {
      tables = few_records;
      request = message 0x24 0x7F 0xFF (lock_block 0xFF 0x10 0 1 20 (0x1A ∷ 0x1B ∷ 0 ∷ 0 ∷ (replicate 8 0xFF ++ (0 ∷ 0 ∷ 0 ∷ 0 ∷ 2 ∷ 0 ∷ 0 ∷ 0 ∷ []))));
      said = refusal 0x24 1 0x57 0x00;
    }

-- "1/8 no lock record free": 128 are held
unfoldable pub no_record : Row
no_record = record { tables = opened 2 (replicate 128 (lock 7 0 0)); request = message 0x24 0x7F 0xFF (lock100 0xFF); said = refusal 0x24 1 0x08 0x00 }

-- with 127 held the last record is free
unfoldable pub last_record : Row
last_record =
    record {
      tables = opened 2 (replicate 127 (lock 7 0 0));
      request = message 0x24 0x7F 0xFF (lock100 0xFF);
      said = done_reply 39 0x24 (0x02 ∷ 0xFF ∷ 0x00 ∷ 0x00 ∷ 0x00 ∷ 0x00 ∷ 0x00 ∷ []);
    }

-- "class 3, code 39, write would end past 4,096": 2 bytes at 4,095, which is 0x0FFF
unfoldable pub no_space : Row
no_space = record { tables = few_records; request = message 0x2F 0x7F 0xFF (write_block 0xFF 0xFF 0x0F); said = refusal 0x2F 3 0x27 0x00 }

-- 2 bytes at 4,094 end at 4,096
unfoldable pub last_bytes : Row
last_bytes =
    record {
      tables = few_records;
      request = message 0x2F 0x7F 0xFF (write_block 0xFF 0xFE 0x0F);
      said = done_reply 47 0x2F (0x06 ∷ 0xFF ∷ 0x00 ∷ 0x00 ∷ 0x00 ∷ 0x02 ∷ 0x00 ∷ 0xFF ∷ 0xFF ∷ 0x00 ∷ 0x00 ∷ 0x00 ∷ 0x00 ∷ 0x00 ∷ 0x00 ∷ []);
    }

-- ---- the table

unfoldable pub table : List Row
table =
    locking_reply
    ∷ read_reply
    ∷ write_reply
    ∷ close_reply
    ∷ logoff_reply
    ∷ disconnect_reply
    ∷ exit_reply
    ∷ no_flags
    ∷ other_flags
    ∷ just_flags
    ∷ lock_read_reply
    ∷ write_close_reply
    ∷ lock_refused_reply
    ∷ unserved
    ∷ malformed
    ∷ no_session
    ∷ no_tree
    ∷ no_open
    ∷ no_read
    ∷ no_write
    ∷ lock_type
    ∷ no_such_lock
    ∷ passes_top
    ∷ no_record
    ∷ last_record
    ∷ no_space
    ∷ last_bytes
    ∷ []

-- what the definitions give is what the document says, in every row
pub replies : map (λ r. given r.tables r.request) table ≡ map (λ r. r.said) table
unfolding table locking_reply read_reply write_reply close_reply logoff_reply disconnect_reply exit_reply no_flags other_flags just_flags lock_read_reply write_close_reply lock_refused_reply unserved malformed no_session no_tree no_open no_read no_write lock_type no_such_lock passes_top no_record last_record no_space last_bytes holder_of message message_of few_records tables_with session tree open_of sizes memory given taken take-message dropped starts_smb is_reply answered served replied reply_of reply_header put run_chain only_status blocks blocks_from blocks_within after_parse after_block before parse answer link_fits link_at may_follow shaped bare le16_at le32_at caller_of run body_meant fid_meant after_given after link_to perform area_of data_of status forms_of reply_block refused_block reply_size link_words two with_session is_session with_tree with_open is_open open_at found found_from sound within_room file_ok tree_ok permits holds_open sharing_ok catalogue_ok none_doubled open_ok sound_records lock_ok agree agree_all sound_locks file_of is_tree contains number_ok numbered any all all_tails overlaps passes_end reply close_block lock100 lock_block range100 parse_locking locking_fits is_large range_size do_locking served_type request_of locking request release_all after_find remove_at named after_releases grant_all after_walk after_grants settle ranges_of of_header ranges_at range_at range_from number_at range_passes ask_of lock_of answers answers_for in_way bars owns locking_after locking_end with_lock_list stored read_block parse_read read_fits wide_offset do_read unless_barred barring ask_by read_bytes contents size_of write_block parse_write write_fits data_inside do_write ends_past resized written with_files parse_logoff parse_bare remove sweep_sessions sweep_trees sweep_opens sweep_locks session_named tree_named open_named session_stays tree_stays open_stays lock_stays keep with_sessions with_trees with_opens with_locks refusal opened lock four status_number smb_number nt_bit done_reply seen_ok noting changes_of
replies = refl

-- ---- "1/33 lock conflict", and the holder

-- an answer with the lock of that FID and process, at that place, that starts there and has that many bytes, shared or not
unfoldable pub held_at : ℕ → ℕ → ℕ → ℕ → ℕ → Bool → Given → Given
held_at fid process place offset size shared g =
    record {
      number = g.number;
      size = g.size;
      holder = held_by (record { lock = record { fid = fid; process = process; offset = offset; length = size; shared = shared }; place = place });
      reply = g.reply;
    }

-- an exclusive lock of another process from 4 on is in the way of a read of 2 to 5
unfoldable pub conflict : Row
conflict =
    record { tables = opened 2 (lock 7 4 1 ∷ []); request = message 0x2E 0x7F 0xFF (read_block 4); said = held_at 4 7 0 4 1 false (refusal 0x2E 1 0x21 0x00) }

-- FID 4 and FID 9 are opens of file 1, FID 6 of file 2. In order of grant: a lock of file 2; of file 1 a shared lock of FID 9 on 0 to 3, FID 4's own one on 3 to 4, FID
-- 9's on 4 to 10, FID 4's own one on 109 to 120.
unfoldable pub contested : Tables
contested =
    tables_with (session 3 5 ∷ []) (tree 2 3 1 ∷ []) (open_of 4 3 2 0x0D0C1B1A 1 2 ∷ open_of 6 3 2 0x0D0C1B1A 2 2 ∷ open_of 9 3 2 8 1 2 ∷ [])
    (record { fid = 6; process = 7; offset = 0; length = 200; shared = false }
    ∷ record { fid = 9; process = 8; offset = 0; length = 3; shared = true }
    ∷ lock 0x0D0C1B1A 3 1
    ∷ record { fid = 9; process = 8; offset = 4; length = 6; shared = false }
    ∷ lock 0x0D0C1B1A 109 11
    ∷ [])

-- a read of 2 to 5 passes a shared lock and one of its own
unfoldable pub read_held : Row
read_held =
    record { tables = contested; request = message 0x2E 0x7F 0xFF (read_block 4); said = held_at 9 8 3 4 6 false (refusal 0x2E 1 0x21 0x00) }

-- of two in the way of that read the holder is "the first conflicting lock in the list", though the other starts before it
unfoldable pub first_of_two : Row
first_of_two =
    record {
      tables = opened 2 (lock 9 5 1 ∷ lock 8 4 1 ∷ lock 7 2 1 ∷ []);
      request = message 0x2E 0x7F 0xFF (read_block 4);
      said = held_at 4 8 1 4 1 false (refusal 0x2E 1 0x21 0x00);
    }

-- a write to 2 to 4 meets a shared lock
unfoldable pub write_held : Row
write_held =
    record { tables = contested; request = message 0x2F 0x7F 0xFF (write_block 0xFF 2 0); said = held_at 9 8 1 0 3 true (refusal 0x2F 1 0x21 0x00) }

-- and one of its own, where it is shared
unfoldable pub write_own_shared : Row
write_own_shared =
    record {
      tables = opened 2 (record { fid = 4; process = 0x0D0C1B1A; offset = 2; length = 1; shared = true } ∷ []);
      request = message 0x2F 0x7F 0xFF (write_block 0xFF 2 0);
      said = held_at 4 0x0D0C1B1A 0 2 1 true (refusal 0x2F 1 0x21 0x00);
    }

-- a lock of 100 to 110 meets one of "the asker's own locks"
unfoldable pub lock_held : Row
lock_held =
    record { tables = contested; request = message 0x24 0x7F 0xFF (lock100 0xFF); said = held_at 4 0x0D0C1B1A 4 109 11 false (refusal 0x24 1 0x21 0x00) }

-- the range with that number in its process, 10 bytes from there on
unfoldable pub range_of : ℕ → ℕ → List ℕ
range_of process offset = process ∷ 0 ∷ offset ∷ 0 ∷ 0 ∷ 0 ∷ 10 ∷ 0 ∷ 0 ∷ 0 ∷ []

-- "locks in order": 100 to 110 is asked first and meets the fifth in the list; 2 to 12, asked behind it, would meet the second
unfoldable pub first_range_held : Row
first_range_held =
    record {
      tables = contested;
      request = message 0x24 0x7F 0xFF (lock_block 0xFF 0 0 2 20 (range100 ++ range_of 0x51 2));
      said = held_at 4 0x0D0C1B1A 4 109 11 false (refusal 0x24 1 0x21 0x00);
    }

-- "A lock granted earlier in the same request may be the answer, though it is undone": 200 to 210 of process 0x0D0C0051, then 205 to 215 of process 0x0D0C0061; five are listed
unfoldable pub own_range_held : Row
own_range_held =
    record {
      tables = contested;
      request = message 0x24 0x7F 0xFF (lock_block 0xFF 0 0 2 20 (range_of 0x51 200 ++ range_of 0x61 205));
      said = held_at 4 0x0D0C0051 5 200 10 false (refusal 0x24 1 0x21 0x00);
    }

-- "the list as it then stands": the request unlocks 3 to 4, the third in the list, and the lock of 109 to 120 is then the fourth
unfoldable pub unlock_held : Row
unlock_held =
    record {
      tables = contested;
      request = message 0x24 0x7F 0xFF (lock_block 0xFF 0 1 1 20 ((0x1A ∷ 0x1B ∷ 3 ∷ 0 ∷ 0 ∷ 0 ∷ 1 ∷ 0 ∷ 0 ∷ 0 ∷ []) ++ range100));
      said = held_at 4 0x0D0C1B1A 3 109 11 false (refusal 0x24 1 0x21 0x00);
    }

-- in a chain: LOCKING is done, and its lock, of process 0x0D0C0051 on 2 to 12, is in the way of the READ_ANDX
unfoldable pub chain_held : Row
chain_held =
    record {
      tables = few_records;
      request = message 0x24 0x7F 0xFF (lock_block 0x2E 0 0 1 10 (range_of 0x51 2) ++ read_block 4);
      said =
          held_at 4 0x0D0C0051 0 2 10 false
          (reply 42 0x24 1 0x21 0 0x88 0x01 ((0x02 ∷ 0x2E ∷ 0x00 ∷ 0x27 ∷ 0x00 ∷ 0x00 ∷ 0x00 ∷ []) ++ (0x00 ∷ 0x00 ∷ 0x00 ∷ [])));
    }

-- each reply has the holder that document 02 says, beside the bytes that document 01 says
unfoldable pub conflicts : List Row
conflicts = conflict ∷ read_held ∷ first_of_two ∷ write_held ∷ write_own_shared ∷ lock_held ∷ first_range_held ∷ own_range_held ∷ unlock_held ∷ chain_held ∷ []

pub held : map (λ r. given r.tables r.request) conflicts ≡ map (λ r. r.said) conflicts
unfolding conflicts conflict read_held first_of_two write_held write_own_shared lock_held first_range_held own_range_held unlock_held chain_held held_at contested range_of holder_at holder_of opened lock refusal reply message message_of few_records tables_with session tree open_of sizes memory given taken take-message dropped starts_smb is_reply answered served replied reply_of reply_header put run_chain only_status blocks blocks_from blocks_within after_parse after_block before parse answer link_fits link_at may_follow shaped bare le16_at le32_at caller_of run body_meant fid_meant after_given after link_to perform area_of data_of status forms_of reply_block refused_block reply_size link_words two with_session is_session with_tree with_open is_open open_at found found_from sound within_room file_ok tree_ok permits holds_open sharing_ok catalogue_ok none_doubled open_ok sound_records lock_ok agree agree_all sound_locks file_of is_tree contains number_ok numbered any all all_tails overlaps passes_end lock100 lock_block range100 parse_locking locking_fits is_large range_size do_locking served_type request_of locking request release_all after_find remove_at named after_releases grant_all after_walk after_grants settle ranges_of of_header ranges_at range_at range_from number_at range_passes ask_of lock_of answers answers_for in_way bars owns locking_after locking_end with_lock_list stored read_block parse_read read_fits wide_offset do_read unless_barred barring ask_by read_bytes contents size_of write_block parse_write write_fits data_inside do_write ends_past resized written with_files four status_number smb_number nt_bit seen_ok noting changes_of with_opens
held = refl

-- ---- what else the call leaves

-- two locks of type 0x11, shared and of 20 bytes each, with pads that are not 0
unfoldable pub shared_locks : List ℕ
shared_locks =
    message 0x24 0x7F 0xFF
    (lock_block 0xFF 0x11 0 2 40
    ((0x51 ∷ 0x52 ∷ 0x53 ∷ 0x54 ∷ 1 ∷ 0 ∷ 0 ∷ 0 ∷ 2 ∷ 0 ∷ 0 ∷ 0 ∷ 3 ∷ 0 ∷ 0 ∷ 0 ∷ 4 ∷ 0 ∷ 0 ∷ 0 ∷ [])
    ++ (0x61 ∷ 0x62 ∷ 0x63 ∷ 0x64 ∷ 0 ∷ 0 ∷ 0 ∷ 0 ∷ 5 ∷ 0 ∷ 0 ∷ 0 ∷ 0 ∷ 0 ∷ 0 ∷ 0 ∷ 6 ∷ 0 ∷ 0 ∷ 0 ∷ [])))

-- an unlock of 100 to 110, and a lock of 105 to 106
unfoldable pub unlock_and_lock : List ℕ
unlock_and_lock = message 0x24 0x7F 0xFF (lock_block 0xFF 0 1 1 20 (range100 ++ (0x1A ∷ 0x1B ∷ 105 ∷ 0 ∷ 0 ∷ 0 ∷ 1 ∷ 0 ∷ 0 ∷ 0 ∷ [])))

-- "Type bit 0x01 means shared"; "Locks: process from the range", its upper half from the header and not from the pad. "Unlocks go first", and stand first in the area.
-- "After 0, bytes of the reply room past the reply's length are as they were." "Files: 16, numbered from 0, 4,096 bytes each": the bytes written are file 1's third and
-- fourth.
pub left : ((taken few_records shared_locks).tables.locks
    ≡ record { fid = 4; process = 0x0D0C5251; offset = 0x0000000100000002; length = 0x0000000300000004; shared = true }
    ∷ record { fid = 4; process = 0x0D0C6261; offset = 5; length = 6; shared = true }
    ∷ [])
    × ((taken (opened 2 (lock 0x0D0C1B1A 100 10 ∷ [])) unlock_and_lock).tables.locks ≡ lock 0x0D0C1B1A 105 1 ∷ [])
    × (drop 39 (taken few_records (message 0x24 0x7F 0xFF (lock100 0xFF))).room ≡ replicate 12253 0xEE)
    × ((taken few_records (message 0x2F 0x7F 0xFF (write_block 0xFF 2 0))).memory
    ≡ replicate 4096 0 ++ (0xA0 ∷ 0xA1 ∷ 0xBB ∷ 0xCC ∷ 0xA4 ∷ 0xA5 ∷ replicate 61434 0))
unfolding shared_locks unlock_and_lock opened lock message message_of few_records tables_with session tree open_of sizes memory taken take-message dropped starts_smb is_reply answered served replied reply_of reply_header put run_chain only_status blocks blocks_from blocks_within after_parse after_block before parse answer link_fits link_at may_follow shaped bare le16_at le32_at caller_of run body_meant fid_meant after_given after link_to perform area_of data_of status forms_of reply_block refused_block reply_size link_words two with_session is_session with_tree with_open is_open open_at found found_from sound within_room file_ok tree_ok permits holds_open sharing_ok catalogue_ok none_doubled open_ok sound_records lock_ok agree agree_all sound_locks file_of is_tree contains number_ok numbered any all all_tails overlaps passes_end lock100 lock_block range100 parse_locking locking_fits is_large range_size do_locking served_type request_of locking request release_all after_find remove_at named after_releases grant_all after_walk after_grants settle ranges_of of_header ranges_at range_at range_from number_at range_passes ask_of lock_of answers answers_for in_way bars owns locking_after locking_end with_lock_list stored write_block parse_write write_fits data_inside wide_offset do_write unless_barred barring ask_by ends_past resized written size_of with_files four status_number smb_number nt_bit seen_ok
left = (refl, refl, refl, refl)
