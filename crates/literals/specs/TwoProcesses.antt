-- Document 02, CR 4, of whole calls: processes 1, 65,537 and 131,073, which differ in the upper half only. Assumes nothing.
use Rattle.std.specs.Prelude.{◌≡◌, refl, ℕ, false, List, [], ◌∷◌, ◌++◌}
use Rattle.lists.specs.Walk.{any, all, all_tails, keep, found_from, found}
use Rattle.lists.specs.Put.{put}
use Rattle.lists.specs.Stored.{stored}
use Rattle.wire.specs.LittleEndian.{le16_at, le32_at}
use Rattle.records.specs.declared.Lock.{Lock}
use Rattle.records.specs.declared.Tables.{Tables}
use Rattle.records.specs.Held.{with_sessions, with_trees, with_opens, with_locks}
use Rattle.locks.specs.Range.{overlaps, passes_end}
use Rattle.locks.specs.Wire.{range_size, number_at, range_from, range_at, ranges_at}
use Rattle.locks.specs.Answer.{owns, bars, in_way, named, answers_for, answers}
use Rattle.locks.specs.Request.{of_header, ranges_of, holder_at, ask_of, lock_of, remove_at, after_find, release_all, after_walk, grant_all, after_grants, range_passes, after_releases, request, settle, locking}
use Rattle.numbers.specs.Number.{contains, number_ok, numbered}
use Rattle.soundness.specs.File.{file_of}
use Rattle.soundness.specs.Lookup.{is_tree}
use Rattle.catalogue.specs.Name.{none_doubled, catalogue_ok}
use Rattle.soundness.specs.Sound.{within_room, file_ok, tree_ok, permits, holds_open, sharing_ok, open_ok, sound_records, lock_ok, agree, agree_all, sound_locks, sound, seen_ok}
use Rattle.removal.specs.Removal.{session_named, tree_named, open_named, session_stays, tree_stays, open_stays, lock_stays, sweep_sessions, sweep_trees, sweep_opens, sweep_locks, remove}
use Rattle.chain.specs.Header.{starts_smb, is_reply, dropped}
use Rattle.chain.specs.Parse.{shaped, bare, is_large, locking_fits, read_fits, data_inside, write_fits, may_follow, link_fits, link_at, answer, wide_offset, parse_locking, parse_read, parse_write, parse_bare, parse}
use Rattle.chain.specs.Chain.{before, after_block, after_parse, blocks_within, blocks_from, blocks}
use Rattle.message.specs.Caller.{caller_of}
use Rattle.message.specs.Refusal.{forms_of, holder_of}
use Rattle.message.specs.Contents.{size_of, contents, read_bytes}
use Rattle.message.specs.Command.{is_session, with_session, with_tree, is_open, open_at, with_open, served_type, request_of, with_lock_list, locking_end, locking_after, do_locking, ask_by, unless_barred, barring, do_read, ends_past, do_write, perform}
use Rattle.message.specs.Reply.{two, reply_header, link_words, reply_block, refused_block, reply_size, four, nt_bit, smb_number, status_number}
use Rattle.message.specs.JustOpened.{fid_meant, body_meant}
use Rattle.message.specs.Message.{area_of, after, link_to, after_given, run, served, run_chain, answered, reply_of, replied, take-message}
use Rattle.literals.specs.State.{session, tree, open_of, sizes, tables_with, memory}
use Rattle.literals.specs.Replies.{message, lock_block, read_block, write_block, taken, Given, given, reply, done_reply, lock_read_reply, refusal, opened, lock, held_at, range_of}
use Rattle.records.specs.Empty.{no_open, no_lock}
use Rattle.records.specs.Change.{changes_of, noting}

-- that message, or reply, with those bytes in PIDHigh and PIDLow: of process high × 65,536 + low
unfoldable pub sent_by : ℕ → ℕ → List ℕ → List ℕ
sent_by high low s = put (put s 12 (high ∷ 0 ∷ [])) 26 (low ∷ 0 ∷ [])

-- what is given to it: "A reply copies .. PIDHigh, .. PIDLow"
unfoldable pub replied_to : ℕ → ℕ → Given → Given
replied_to high low g = record { number = g.number; size = g.size; holder = g.holder; reply = sent_by high low g.reply }

-- a LOCKING of so many unlocks and locks whose one range has 1 in its process: 2 to 12
unfoldable pub range_of1 : ℕ → ℕ → List ℕ
range_of1 unlocks locks = message 0x24 0x7F 0xFF (lock_block 0xFF 0 unlocks locks 10 (range_of 1 2))

-- a READ_ANDX of 2 to 5, and a WRITE_ANDX to 2 to 4
unfoldable pub read_of2 : List ℕ
read_of2 = message 0x2E 0x7F 0xFF (read_block 4)

unfoldable pub write_to2 : List ℕ
write_to2 = message 0x2F 0x7F 0xFF (write_block 0xFF 2 0)

-- the same range of 20 bytes, with a pad that is not 0
unfoldable pub long_of1 : ℕ → ℕ → List ℕ
long_of1 unlocks locks =
    message 0x24 0x7F 0xFF
    (lock_block 0xFF 0x10 unlocks locks 20 (1 ∷ 0 ∷ 0x53 ∷ 0x54 ∷ 0 ∷ 0 ∷ 0 ∷ 0 ∷ 2 ∷ 0 ∷ 0 ∷ 0 ∷ 0 ∷ 0 ∷ 0 ∷ 0 ∷ 10 ∷ 0 ∷ 0 ∷ 0 ∷ []))

-- that lock, and a READ_ANDX of 2 to 5 behind it
unfoldable pub lock_then_read : List ℕ
lock_then_read = message 0x24 0x7F 0xFF (lock_block 0x2E 0 0 1 10 (range_of 1 2) ++ read_block 4)

-- the tables after process high × 65,536 + 1 took the lock
unfoldable pub locked_by : ℕ → Tables
locked_by high = (taken (opened 2 []) (sent_by high 1 (range_of1 0 1))).tables

-- "a 16-bit process in a lock range takes its upper half from the header": the lock is that process's. It is in the way of process 1's read and write through the same FID,
-- and the holder is that process; process 1's unlock, in both forms, names no lock. That process reads, writes and unlocks, and in a chain reads what it has just locked.
abbrev pub NotItsOwn : ℕ → ℕ → Type 0
NotItsOwn high process =
    ((locked_by high).locks ≡ lock process 2 10 ∷ [])
    × (given (locked_by high) (sent_by 0 1 read_of2) ≡ replied_to 0 1 (held_at 4 process 0 2 10 false (refusal 0x2E 1 0x21 0x00)))
    × (given (locked_by high) (sent_by 0 1 write_to2) ≡ replied_to 0 1 (held_at 4 process 0 2 10 false (refusal 0x2F 1 0x21 0x00)))
    × (given (locked_by high) (sent_by 0 1 (range_of1 1 0)) ≡ replied_to 0 1 (refusal 0x24 1 0x9E 0x00))
    × (given (locked_by high) (sent_by 0 1 (long_of1 1 0)) ≡ replied_to 0 1 (refusal 0x24 1 0x9E 0x00))
    × ((given (locked_by high) (sent_by high 1 read_of2)).size ≡ 62)
    × ((given (locked_by high) (sent_by high 1 write_to2)).size ≡ 47)
    × ((taken (locked_by high) (sent_by high 1 (range_of1 1 0))).tables.nlocks ≡ 0)
    × ((taken (locked_by high) (sent_by high 1 (long_of1 1 0))).tables.nlocks ≡ 0)
    × (given (opened 2 []) (sent_by high 1 lock_then_read) ≡ replied_to high 1 lock_read_reply.said)

-- 65,537 has equal halves, 131,073 has not
pub not-its-own : NotItsOwn 1 65537 × NotItsOwn 2 131073
unfolding sent_by replied_to range_of1 read_of2 write_to2 long_of1 locked_by lock_then_read lock_read_reply held_at range_of holder_at holder_of opened lock refusal reply message tables_with session tree open_of sizes memory given taken take-message dropped starts_smb is_reply answered served replied reply_of reply_header put run_chain blocks blocks_from blocks_within after_parse after_block before parse answer link_fits link_at may_follow shaped bare le16_at le32_at caller_of run body_meant fid_meant after_given after link_to perform area_of forms_of reply_block refused_block reply_size link_words two with_session is_session with_tree with_open is_open open_at found found_from sound within_room file_ok tree_ok permits holds_open sharing_ok catalogue_ok none_doubled open_ok sound_records lock_ok agree agree_all sound_locks file_of is_tree contains number_ok numbered any all all_tails overlaps passes_end lock_block parse_locking locking_fits is_large range_size do_locking served_type request_of locking request release_all after_find remove_at named after_releases grant_all after_walk after_grants settle ranges_of of_header ranges_at range_at range_from number_at range_passes ask_of lock_of answers answers_for in_way bars owns locking_after locking_end with_lock_list stored read_block parse_read read_fits wide_offset do_read unless_barred barring ask_by read_bytes contents size_of write_block parse_write write_fits data_inside do_write ends_past four status_number smb_number nt_bit done_reply seen_ok noting changes_of with_opens
not-its-own = ((refl, refl, refl, refl, refl, refl, refl, refl, refl, refl), (refl, refl, refl, refl, refl, refl, refl, refl, refl, refl))

-- a lock of FID 6 and that process, of the one byte there
unfoldable pub lock_on6 : ℕ → ℕ → Lock
lock_on6 process offset = record { fid = 6; process = process; offset = offset; length = 1; shared = false }

-- an open of each of processes 1 and 65,537, a lock of each through it, and one of process 1 through the other's
unfoldable pub both_processes : Tables
both_processes =
    tables_with (session 3 5 ∷ []) (tree 2 3 1 ∷ []) (open_of 4 3 2 1 1 2 ∷ open_of 6 3 2 65537 2 2 ∷ [])
    (lock 1 0 1 ∷ lock_on6 65537 0 ∷ lock_on6 1 4 ∷ [])

unfoldable pub exit : List ℕ
exit = message 0x11 0x7F 0xFF (0x00 ∷ 0x00 ∷ 0x00 ∷ [])

-- "A bench that numbers its processes beyond 65,535 lost its opens when another process on it ended": PROCESS_EXIT of the one leaves the other's open and the locks through
-- it, whatever their process
pub exit-of-one : ((taken both_processes (sent_by 0 1 exit)).tables.opens ≡ open_of 6 3 2 65537 2 2 ∷ no_open ∷ [])
    × ((taken both_processes (sent_by 0 1 exit)).tables.locks ≡ lock_on6 65537 0 ∷ lock_on6 1 4 ∷ no_lock ∷ [])
    × ((taken both_processes (sent_by 1 1 exit)).tables.opens ≡ open_of 4 3 2 1 1 2 ∷ no_open ∷ [])
    × ((taken both_processes (sent_by 1 1 exit)).tables.locks ≡ lock 1 0 1 ∷ no_lock ∷ no_lock ∷ [])
unfolding sent_by both_processes lock_on6 exit lock message tables_with session tree open_of sizes memory taken take-message dropped starts_smb is_reply answered served replied put run_chain blocks blocks_from blocks_within after_parse after_block before parse answer shaped bare le16_at caller_of run body_meant fid_meant after_given after perform with_session is_session sound within_room file_ok tree_ok permits holds_open sharing_ok catalogue_ok none_doubled open_ok sound_records lock_ok agree agree_all sound_locks file_of contains number_ok numbered any all all_tails overlaps passes_end stored parse_bare remove sweep_sessions sweep_trees sweep_opens sweep_locks session_named tree_named open_named session_stays tree_stays open_stays lock_stays keep with_sessions with_trees with_opens with_locks seen_ok
exit-of-one = (refl, refl, refl, refl)
