-- Change numbers (document 02, CR 8) as literal values: what each command and a load make of them, what an open remembers, and what the question is answered. File 1 was changed 8 times
-- and has 6 bytes; FID 4 is an open of it. Assumes nothing.
use Rattle.std.specs.Prelude.{◌≡◌, refl, ℕ, Bool, true, false, List, [], ◌∷◌, ◌++◌, get_or, replicate}
use Rattle.records.specs.declared.Tables.{Tables}
use Rattle.records.specs.Empty.{no_open, no_file, no_name}
use Rattle.catalogue.specs.Name.{catalogue_ok, none_doubled}
use Rattle.chain.specs.Chain.{after_block, after_parse, before, blocks, blocks_from, blocks_within}
use Rattle.chain.specs.Header.{dropped, is_reply, starts_smb}
use Rattle.chain.specs.Parse.{answer, bare, core_write_fits, data_inside, is_large, link_at, link_fits, locking_fits, may_follow, parse, parse_bare, parse_core_write, parse_locking, parse_read, parse_write, read_fits, shaped, wide_offset, write_fits}
use Rattle.host.specs.HostCall.{ask_unchanged, done, is_of, is_unchanged, load_file, load_number, refused, unchanged_at}
use Rattle.lists.specs.Put.{put}
use Rattle.lists.specs.Stored.{stored}
use Rattle.lists.specs.Walk.{all, all_tails, any, found, found_from}
use Rattle.literals.specs.CoreCommands.{byte_range, core_read, core_write, size_to, write_to}
use Rattle.literals.specs.Replies.{lock, lock100, lock_block, message, opened, range100, read_block, taken, write_block}
use Rattle.literals.specs.State.{memory, session, tree}
use Rattle.locks.specs.Answer.{answers, answers_for, bars, in_way, named, owns}
use Rattle.locks.specs.Range.{overlaps, passes_end}
use Rattle.locks.specs.Request.{after_find, after_grants, after_releases, after_walk, ask_of, grant_all, lock_of, locking, of_header, range_passes, ranges_of, release_all, remove_at, request, settle}
use Rattle.locks.specs.Wire.{number_at, range_at, range_from, range_size, ranges_at, small_form}
use Rattle.message.specs.Caller.{caller_of}
use Rattle.message.specs.Command.{as_core, ask_by, barring, between_sizes, core_said, do_core_write, do_locking, do_range, do_read, do_set_size, do_write, ends_past, is_open, is_session, locking_after, locking_end, one_range, open_at, perform, range_by, request_of, served_type, unless_barred, with_lock_list, with_open, with_session, with_tree}
use Rattle.message.specs.Contents.{contents, read_bytes, resized, size_of, sized_to, written}
use Rattle.message.specs.JustOpened.{body_meant, fid_meant}
use Rattle.message.specs.Message.{after, after_given, answered, area_of, data_of, link_to, only_status, replied, reply_of, run, run_chain, served, take-message}
use Rattle.message.specs.Refusal.{forms_of, holder_of, status}
use Rattle.message.specs.Reply.{four, link_words, nt_bit, refused_block, reply_block, reply_header, reply_size, smb_number, status_number, two}
use Rattle.numbers.specs.Number.{contains, number_ok, numbered}
use Rattle.records.specs.Change.{changes_of, noting}
use Rattle.records.specs.Held.{with_files, with_locks, with_opens}
use Rattle.soundness.specs.File.{file_of}
use Rattle.soundness.specs.Lookup.{is_tree}
use Rattle.soundness.specs.Sound.{agree, agree_all, file_ok, holds_open, lock_ok, open_ok, permits, seen_ok, sharing_ok, sound, sound_locks, sound_records, tree_ok, within_room}
use Rattle.wire.specs.LittleEndian.{le16_at, le32_at}

-- the tables with that change number of file 1, the largest one of file 2, and FID 4 as given: whether it has read, and the number seen
unfoldable pub noted : ℕ → Bool → ℕ → Tables
noted changes read seen =
    record {
      sessions = session 3 5 ∷ [];
      nsessions = 1;
      trees = tree 2 3 1 ∷ [];
      ntrees = 1;
      opens = record { fid = 4; uid = 3; tid = 2; process = 0x0D0C1B1A; file = 1; access = 2; sharing = 4; read = read; seen = seen } ∷ [];
      nopens = 1;
      locks = [];
      nlocks = 0;
      files = record { size = 0; changes = 3 } ∷ record { size = 6; changes = changes } ∷ record { size = 5; changes = 4294967295 } ∷ replicate 13 (record { size = 0; changes = 0 });
      names = replicate 16 no_name;
      nnames = 0;
    }

-- what stands of it after a call: the change number of file 0, size and change number of file 1, and of FID 4 whether it has read and the number seen
pub record Noted : Type 0 where
  pub other : ℕ
  pub size : ℕ
  pub changes : ℕ
  pub read : Bool
  pub seen : ℕ

unfoldable pub stands : ℕ → ℕ → ℕ → Bool → ℕ → Noted
stands other size changes read seen = record { other = other; size = size; changes = changes; read = read; seen = seen }

unfoldable pub noted_in : Tables → Noted
noted_in t =
    stands (get_or t.files 0 no_file).changes (get_or t.files 1 no_file).size (get_or t.files 1 no_file).changes (get_or t.opens 0 no_open).read (get_or t.opens 0 no_open).seen

-- ---- messages

-- WRITE_ANDX of 12 words of FID 4 with no byte
unfoldable pub write_none : List ℕ
write_none = (12 ∷ 0xFF ∷ 0 ∷ 0 ∷ 0 ∷ 4 ∷ 0 ∷ 2 ∷ 0 ∷ replicate 12 0) ++ (0 ∷ 0 ∷ 59 ∷ 0 ∷ 0 ∷ 0 ∷ [])

unfoldable pub leaves : Tables → ℕ → List ℕ → Noted
leaves t command block = noted_in (taken t (message command 0x7F 0xFF block)).tables

-- "raised by one at each granted write of at least one byte, each WRITE of count 0 that alters the size": WRITE_ANDX of 2 bytes and of none, core WRITE of 2 bytes, of count 0 to 9, to 4 and to
-- the size that it has. A WRITE refused (past 4,096) raises nothing.
pub raised_by : (leaves (noted 8 false 0) 0x2F (write_block 0xFF 2 0) ≡ stands 3 6 9 false 0)
    × (leaves (noted 8 false 0) 0x2F write_none ≡ stands 3 6 8 false 0)
    × (leaves (noted 8 false 0) 0x0B (write_to 2 0) ≡ stands 3 6 9 false 0)
    × (leaves (noted 8 false 0) 0x0B (size_to 9 0) ≡ stands 3 9 9 false 0)
    × (leaves (noted 8 false 0) 0x0B (size_to 4 0) ≡ stands 3 4 9 false 0)
    × (leaves (noted 8 false 0) 0x0B (size_to 6 0) ≡ stands 3 6 8 false 0)
    × (leaves (noted 8 false 0) 0x0B (size_to 0x01 0x10) ≡ stands 3 6 8 false 0)
unfolding noted stands noted_in write_none leaves core_read core_write write_to size_to byte_range holder_of message session tree memory taken take-message dropped starts_smb is_reply answered served replied reply_of reply_header put run_chain only_status blocks blocks_from blocks_within after_parse after_block before parse answer link_fits link_at may_follow shaped bare le16_at le32_at caller_of run body_meant fid_meant after_given after link_to perform area_of data_of status forms_of reply_block refused_block reply_size link_words two with_session is_session with_tree with_open is_open open_at found found_from sound within_room file_ok tree_ok permits holds_open sharing_ok catalogue_ok none_doubled open_ok sound_records lock_ok agree agree_all sound_locks file_of is_tree contains number_ok numbered any all all_tails overlaps passes_end lock100 lock_block range100 parse_locking locking_fits is_large range_size do_locking served_type request_of locking request release_all after_find remove_at named after_releases grant_all after_walk after_grants settle ranges_of of_header ranges_at range_at range_from number_at range_passes ask_of lock_of answers answers_for in_way bars owns locking_after locking_end with_lock_list stored do_read unless_barred barring ask_by read_bytes contents size_of do_write ends_past resized written with_files parse_bare with_locks opened lock parse_core_write core_write_fits core_said as_core range_by one_range do_range small_form between_sizes do_set_size do_core_write four status_number smb_number nt_bit seen_ok noting changes_of with_opens sized_to parse_read read_fits wide_offset parse_write write_fits data_inside read_block write_block
raised_by = (refl, refl, refl, refl, refl, refl, refl)

-- "at its largest it stays": one below it, and at it
pub at-largest : (leaves (noted 4294967294 false 0) 0x0B (write_to 2 0) ≡ stands 3 6 4294967295 false 0)
    × (leaves (noted 4294967295 false 0) 0x0B (write_to 2 0) ≡ stands 3 6 4294967295 false 0)
    × (leaves (noted 4294967295 false 0) 0x0B (size_to 9 0) ≡ stands 3 9 4294967295 false 0)
unfolding noted stands noted_in write_none leaves core_read core_write write_to size_to byte_range holder_of message session tree memory taken take-message dropped starts_smb is_reply answered served replied reply_of reply_header put run_chain only_status blocks blocks_from blocks_within after_parse after_block before parse answer link_fits link_at may_follow shaped bare le16_at le32_at caller_of run body_meant fid_meant after_given after link_to perform area_of data_of status forms_of reply_block refused_block reply_size link_words two with_session is_session with_tree with_open is_open open_at found found_from sound within_room file_ok tree_ok permits holds_open sharing_ok catalogue_ok none_doubled open_ok sound_records lock_ok agree agree_all sound_locks file_of is_tree contains number_ok numbered any all all_tails overlaps passes_end lock100 lock_block range100 parse_locking locking_fits is_large range_size do_locking served_type request_of locking request release_all after_find remove_at named after_releases grant_all after_walk after_grants settle ranges_of of_header ranges_at range_at range_from number_at range_passes ask_of lock_of answers answers_for in_way bars owns locking_after locking_end with_lock_list stored do_read unless_barred barring ask_by read_bytes contents size_of do_write ends_past resized written with_files parse_bare with_locks opened lock parse_core_write core_write_fits core_said as_core range_by one_range do_range small_form between_sizes do_set_size do_core_write four status_number smb_number nt_bit seen_ok noting changes_of with_opens sized_to parse_read read_fits wide_offset parse_write write_fits data_inside read_block write_block
at-largest = (refl, refl, refl)

-- "Each open remembers the number at its last granted read": READ_ANDX, core READ of 2 bytes, of no byte and past the file's end; of another number seen before. A READ refused (FID 5) remembers nothing.
-- In WRITE, READ of one chain the READ remembers the number after the WRITE.
pub remembered-by : (leaves (noted 8 false 0) 0x2E (read_block 4) ≡ stands 3 6 8 true 8)
    × (leaves (noted 8 false 0) 0x0A (core_read 4 2 3) ≡ stands 3 6 8 true 8)
    × (leaves (noted 8 false 0) 0x0A (core_read 4 0 3) ≡ stands 3 6 8 true 8)
    × (leaves (noted 8 true 5) 0x0A (core_read 4 2 99) ≡ stands 3 6 8 true 8)
    × (leaves (noted 8 true 5) 0x0A (core_read 5 2 3) ≡ stands 3 6 8 true 5)
    × (leaves (noted 4294967295 false 0) 0x0A (core_read 4 2 3) ≡ stands 3 6 4294967295 true 4294967295)
    × (leaves (noted 8 true 5) 0x2F (write_block 0x2E 2 0 ++ read_block 4) ≡ stands 3 6 9 true 9)
unfolding noted stands noted_in write_none leaves core_read core_write write_to size_to byte_range holder_of message session tree memory taken take-message dropped starts_smb is_reply answered served replied reply_of reply_header put run_chain only_status blocks blocks_from blocks_within after_parse after_block before parse answer link_fits link_at may_follow shaped bare le16_at le32_at caller_of run body_meant fid_meant after_given after link_to perform area_of data_of status forms_of reply_block refused_block reply_size link_words two with_session is_session with_tree with_open is_open open_at found found_from sound within_room file_ok tree_ok permits holds_open sharing_ok catalogue_ok none_doubled open_ok sound_records lock_ok agree agree_all sound_locks file_of is_tree contains number_ok numbered any all all_tails overlaps passes_end lock100 lock_block range100 parse_locking locking_fits is_large range_size do_locking served_type request_of locking request release_all after_find remove_at named after_releases grant_all after_walk after_grants settle ranges_of of_header ranges_at range_at range_from number_at range_passes ask_of lock_of answers answers_for in_way bars owns locking_after locking_end with_lock_list stored do_read unless_barred barring ask_by read_bytes contents size_of do_write ends_past resized written with_files parse_bare with_locks opened lock parse_core_write core_write_fits core_said as_core range_by one_range do_range small_form between_sizes do_set_size do_core_write four status_number smb_number nt_bit seen_ok noting changes_of with_opens sized_to parse_read read_fits wide_offset parse_write write_fits data_inside read_block write_block
remembered-by = (refl, refl, refl, refl, refl, refl, refl)

-- ---- a load: "every load, an empty one too"; of file 0, which has no open. A load refused (9: file 1 has an open) raises nothing. At its largest it stays
pub raised-load : (noted_in (load_file (noted 8 true 8) 0 [] memory).tables ≡ stands 4 6 8 true 8)
    × (noted_in (load_file (noted 8 true 8) 0 (0xAA ∷ []) memory).tables ≡ stands 4 6 8 true 8)
    × (noted_in (load_file (noted 8 true 8) 1 (0xAA ∷ []) memory).tables ≡ stands 3 6 8 true 8)
    × (get_or (load_file (noted 8 true 8) 2 [] memory).tables.files 2 no_file ≡ record { size = 0; changes = 4294967295 })
unfolding noted stands noted_in refused done is_of load_number load_file is_unchanged unchanged_at ask_unchanged found found_from changes_of with_files sound within_room file_ok tree_ok permits holds_open sharing_ok catalogue_ok none_doubled open_ok sound_records lock_ok agree agree_all sound_locks file_of is_tree contains number_ok numbered any all all_tails seen_ok session tree memory
raised-load = (refl, refl, refl, refl)

-- ---- the question: number and answer

unfoldable pub question : ℕ → Bool → ℕ → ℕ → List ℕ
question changes read seen fid = (ask_unchanged (noted changes read seen) fid).number ∷ (ask_unchanged (noted changes read seen) fid).id ∷ []

-- ""unchanged" exactly if the open has read, the numbers are equal and below the largest; otherwise "changed"": 1 is "unchanged". "6 for an unknown FID, after 4": the number seen above the file's, and a
-- change number above 32 bits
pub answered-so : (question 8 true 8 4 ≡ 0 ∷ 1 ∷ [])
    × (question 0 true 0 4 ≡ 0 ∷ 1 ∷ [])
    × (question 8 false 8 4 ≡ 0 ∷ 0 ∷ [])
    × (question 8 true 7 4 ≡ 0 ∷ 0 ∷ [])
    × (question 4294967294 true 4294967294 4 ≡ 0 ∷ 1 ∷ [])
    × (question 4294967295 true 4294967295 4 ≡ 0 ∷ 0 ∷ [])
    × (question 8 true 8 5 ≡ 6 ∷ 0 ∷ [])
    × (question 8 true 8 65540 ≡ 6 ∷ 0 ∷ [])
    × (question 8 true 9 4 ≡ 4 ∷ 0 ∷ [])
    × (question 8 false 9 5 ≡ 4 ∷ 0 ∷ [])
    × (question 4294967296 true 8 4 ≡ 4 ∷ 0 ∷ [])
unfolding question noted stands noted_in refused done is_of load_number load_file is_unchanged unchanged_at ask_unchanged found found_from changes_of with_files sound within_room file_ok tree_ok permits holds_open sharing_ok catalogue_ok none_doubled open_ok sound_records lock_ok agree agree_all sound_locks file_of is_tree contains number_ok numbered any all all_tails seen_ok session tree memory
answered-so = (refl, refl, refl, refl, refl, refl, refl, refl, refl, refl, refl)
