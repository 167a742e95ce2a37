-- A history in which a terminal is told "unchanged" is possible (document 02, CR 8), and one in which it is told to read again: a session, a tree, a file of two bytes loaded, an open of it, and a READ; then a
-- WRITE. Assumes nothing.
use Rattle.std.specs.Prelude.{◌≡◌, refl, ℕ, true, false, List, [], ◌∷◌, ◌++◌, replicate, Some}
use Rattle.catalogue.specs.Name.{catalogue_ok, none_doubled}
use Rattle.chain.specs.Chain.{after_block, after_parse, before, blocks, blocks_from, blocks_within}
use Rattle.chain.specs.Header.{dropped, is_reply, starts_smb}
use Rattle.chain.specs.Parse.{answer, bare, core_write_fits, data_inside, is_large, link_at, link_fits, locking_fits, may_follow, parse, parse_bare, parse_core_write, parse_locking, parse_read, parse_write, read_fits, shaped, wide_offset, write_fits}
use Rattle.lists.specs.Put.{put}
use Rattle.lists.specs.Stored.{stored}
use Rattle.lists.specs.Walk.{all, all_tails, any, found, found_from}
use Rattle.locks.specs.Answer.{answers, answers_for, bars, in_way, named, owns}
use Rattle.locks.specs.Range.{overlaps, passes_end}
use Rattle.locks.specs.Request.{after_find, after_grants, after_releases, after_walk, ask_of, grant_all, lock_of, locking, of_header, range_passes, ranges_of, release_all, remove_at, request, settle}
use Rattle.locks.specs.Wire.{number_at, range_at, range_from, range_size, ranges_at, small_form}
use Rattle.message.specs.Caller.{caller_of}
use Rattle.message.specs.Command.{as_core, ask_by, barring, between_sizes, core_said, do_core_write, do_locking, do_range, do_read, do_set_size, do_write, ends_past, is_open, is_session, locking_after, locking_end, one_range, open_at, perform, range_by, request_of, served_type, unless_barred, with_lock_list, with_open, with_session, with_tree}
use Rattle.message.specs.Contents.{contents, read_bytes, resized, size_of, sized_to, written}
use Rattle.message.specs.JustOpened.{body_meant, fid_meant, opened_by}
use Rattle.message.specs.Message.{after, after_given, answered, area_of, data_of, link_to, only_status, replied, reply_of, run, run_chain, served, take-message}
use Rattle.message.specs.Refusal.{forms_of, holder_of, status}
use Rattle.message.specs.Reply.{four, link_words, nt_bit, refused_block, reply_block, reply_header, reply_size, smb_number, status_number, two}
use Rattle.numbers.specs.Number.{contains, number_ok, numbered, free_from, smallest_free}
use Rattle.records.specs.Change.{changes_of, noting}
use Rattle.records.specs.Held.{with_files, with_locks, with_opens, with_sessions, with_trees}
use Rattle.soundness.specs.File.{file_of}
use Rattle.soundness.specs.Lookup.{is_tree}
use Rattle.soundness.specs.Sound.{agree, agree_all, file_ok, holds_open, lock_ok, open_ok, permits, seen_ok, sharing_ok, sound, sound_locks, sound_records, tree_ok, within_room}
use Rattle.wire.specs.LittleEndian.{le16_at, le32_at}
use Rattle.host.specs.HostCall.{refused as host_refused, done as host_done, no_tables, new_session, add_session, new_tree, add_tree, new_open, add_open, is_of, load_number, load_file, load_memory, is_unchanged, unchanged_at, ask_unchanged}
use Rattle.demands.specs.OldBytes.{Asked, ask-session, ask-tree, ask-load, ask-open, ask-message, host_told, message_told, told, memory_left, left_by}
use Rattle.demands.specs.LastRead.{reads_after, reads_call, reads_message, reads_chain, reads_run, reads_given, event_of, after_event, changed_in, read_now, none_read}
use Rattle.order.specs.Request8.{tables_left_by, last_reads}

-- a message of that command by process 7 with TID 1 and UID 1
unfoldable pub sent_by : ℕ → List ℕ → List ℕ
sent_by command block = (0xFF ∷ 0x53 ∷ 0x4D ∷ 0x42 ∷ command ∷ replicate 19 0) ++ ((1 ∷ 0 ∷ 7 ∷ 0 ∷ 1 ∷ 0 ∷ 0 ∷ 0 ∷ []) ++ block)

-- core READ of two bytes of FID 1, from its start
unfoldable pub reading : Asked
reading = ask-message 5 (sent_by 0x0A (5 ∷ 1 ∷ 0 ∷ 2 ∷ replicate 9 0)) (replicate 12292 0)

-- core WRITE of the byte BB to FID 1, at its start
unfoldable pub writing : Asked
writing = ask-message 5 (sent_by 0x0B ((5 ∷ 1 ∷ 0 ∷ 1 ∷ replicate 7 0) ++ (4 ∷ 0 ∷ 1 ∷ 1 ∷ 0 ∷ 0xBB ∷ []))) (replicate 12292 0)

unfoldable pub read_once : List Asked
read_once = ask-session 5 ∷ ask-tree 1 1 ∷ ask-load 1 (0xA0 ∷ 0xA1 ∷ []) ∷ ask-open 1 1 7 1 2 ∷ reading ∷ []

unfoldable pub then_written : List Asked
then_written = ask-session 5 ∷ ask-tree 1 1 ∷ ask-load 1 (0xA0 ∷ 0xA1 ∷ []) ∷ ask-open 1 1 7 1 2 ∷ reading ∷ writing ∷ []

-- the file memory that is lent first
unfoldable pub lent : List ℕ
lent = replicate 65536 0

pub told-unchanged : (ask_unchanged (tables_left_by read_once lent) 1).id ≡ 1
unfolding sent_by reading writing read_once then_written lent holder_of take-message dropped starts_smb is_reply answered served replied reply_of reply_header put run_chain only_status blocks blocks_from blocks_within after_parse after_block before parse answer link_fits link_at may_follow shaped bare le16_at le32_at caller_of run body_meant fid_meant after_given after link_to perform area_of data_of status forms_of reply_block refused_block reply_size link_words two with_session is_session with_tree with_open is_open open_at found found_from sound within_room file_ok tree_ok permits holds_open sharing_ok catalogue_ok none_doubled open_ok sound_records lock_ok agree agree_all sound_locks file_of is_tree contains number_ok numbered any all all_tails overlaps passes_end parse_locking locking_fits is_large range_size do_locking served_type request_of locking request release_all after_find remove_at named after_releases grant_all after_walk after_grants settle ranges_of of_header ranges_at range_at range_from number_at range_passes ask_of lock_of answers answers_for in_way bars owns locking_after locking_end with_lock_list stored do_read unless_barred barring ask_by read_bytes contents size_of do_write ends_past resized written with_files parse_bare with_locks parse_core_write core_write_fits core_said as_core range_by one_range do_range small_form between_sizes do_set_size do_core_write four status_number smb_number nt_bit seen_ok noting changes_of with_opens sized_to parse_read read_fits wide_offset parse_write write_fits data_inside host_refused host_done no_tables new_session add_session new_tree add_tree new_open add_open is_of load_number load_file load_memory is_unchanged unchanged_at ask_unchanged free_from smallest_free with_sessions with_trees host_told message_told told memory_left left_by reads_after reads_call reads_message reads_chain reads_run reads_given event_of after_event changed_in read_now none_read opened_by
told-unchanged = refl

pub told-changed : ((ask_unchanged (tables_left_by then_written lent) 1).number ≡ 0) × ((ask_unchanged (tables_left_by then_written lent) 1).id ≡ 0)
unfolding sent_by reading writing read_once then_written lent holder_of take-message dropped starts_smb is_reply answered served replied reply_of reply_header put run_chain only_status blocks blocks_from blocks_within after_parse after_block before parse answer link_fits link_at may_follow shaped bare le16_at le32_at caller_of run body_meant fid_meant after_given after link_to perform area_of data_of status forms_of reply_block refused_block reply_size link_words two with_session is_session with_tree with_open is_open open_at found found_from sound within_room file_ok tree_ok permits holds_open sharing_ok catalogue_ok none_doubled open_ok sound_records lock_ok agree agree_all sound_locks file_of is_tree contains number_ok numbered any all all_tails overlaps passes_end parse_locking locking_fits is_large range_size do_locking served_type request_of locking request release_all after_find remove_at named after_releases grant_all after_walk after_grants settle ranges_of of_header ranges_at range_at range_from number_at range_passes ask_of lock_of answers answers_for in_way bars owns locking_after locking_end with_lock_list stored do_read unless_barred barring ask_by read_bytes contents size_of do_write ends_past resized written with_files parse_bare with_locks parse_core_write core_write_fits core_said as_core range_by one_range do_range small_form between_sizes do_set_size do_core_write four status_number smb_number nt_bit seen_ok noting changes_of with_opens sized_to parse_read read_fits wide_offset parse_write write_fits data_inside host_refused host_done no_tables new_session add_session new_tree add_tree new_open add_open is_of load_number load_file load_memory is_unchanged unchanged_at ask_unchanged free_from smallest_free with_sessions with_trees host_told message_told told memory_left left_by reads_after reads_call reads_message reads_chain reads_run reads_given event_of after_event changed_in read_now none_read opened_by
told-changed = (refl, refl)

-- and what the history tells of the READ
pub read-once : last_reads read_once lent 1 ≡ Some (record { file = 1; size = 2; bytes = 0xA0 ∷ 0xA1 ∷ []; changed = false })
unfolding sent_by reading writing read_once then_written lent holder_of take-message dropped starts_smb is_reply answered served replied reply_of reply_header put run_chain only_status blocks blocks_from blocks_within after_parse after_block before parse answer link_fits link_at may_follow shaped bare le16_at le32_at caller_of run body_meant fid_meant after_given after link_to perform area_of data_of status forms_of reply_block refused_block reply_size link_words two with_session is_session with_tree with_open is_open open_at found found_from sound within_room file_ok tree_ok permits holds_open sharing_ok catalogue_ok none_doubled open_ok sound_records lock_ok agree agree_all sound_locks file_of is_tree contains number_ok numbered any all all_tails overlaps passes_end parse_locking locking_fits is_large range_size do_locking served_type request_of locking request release_all after_find remove_at named after_releases grant_all after_walk after_grants settle ranges_of of_header ranges_at range_at range_from number_at range_passes ask_of lock_of answers answers_for in_way bars owns locking_after locking_end with_lock_list stored do_read unless_barred barring ask_by read_bytes contents size_of do_write ends_past resized written with_files parse_bare with_locks parse_core_write core_write_fits core_said as_core range_by one_range do_range small_form between_sizes do_set_size do_core_write four status_number smb_number nt_bit seen_ok noting changes_of with_opens sized_to parse_read read_fits wide_offset parse_write write_fits data_inside host_refused host_done no_tables new_session add_session new_tree add_tree new_open add_open is_of load_number load_file load_memory is_unchanged unchanged_at ask_unchanged free_from smallest_free with_sessions with_trees host_told message_told told memory_left left_by reads_after reads_call reads_message reads_chain reads_run reads_given event_of after_event changed_in read_now none_read opened_by
read-once = refl

pub then-written : last_reads then_written lent 1 ≡ Some (record { file = 1; size = 2; bytes = 0xA0 ∷ 0xA1 ∷ []; changed = true })
unfolding sent_by reading writing read_once then_written lent holder_of take-message dropped starts_smb is_reply answered served replied reply_of reply_header put run_chain only_status blocks blocks_from blocks_within after_parse after_block before parse answer link_fits link_at may_follow shaped bare le16_at le32_at caller_of run body_meant fid_meant after_given after link_to perform area_of data_of status forms_of reply_block refused_block reply_size link_words two with_session is_session with_tree with_open is_open open_at found found_from sound within_room file_ok tree_ok permits holds_open sharing_ok catalogue_ok none_doubled open_ok sound_records lock_ok agree agree_all sound_locks file_of is_tree contains number_ok numbered any all all_tails overlaps passes_end parse_locking locking_fits is_large range_size do_locking served_type request_of locking request release_all after_find remove_at named after_releases grant_all after_walk after_grants settle ranges_of of_header ranges_at range_at range_from number_at range_passes ask_of lock_of answers answers_for in_way bars owns locking_after locking_end with_lock_list stored do_read unless_barred barring ask_by read_bytes contents size_of do_write ends_past resized written with_files parse_bare with_locks parse_core_write core_write_fits core_said as_core range_by one_range do_range small_form between_sizes do_set_size do_core_write four status_number smb_number nt_bit seen_ok noting changes_of with_opens sized_to parse_read read_fits wide_offset parse_write write_fits data_inside host_refused host_done no_tables new_session add_session new_tree add_tree new_open add_open is_of load_number load_file load_memory is_unchanged unchanged_at ask_unchanged free_from smallest_free with_sessions with_trees host_told message_told told memory_left left_by reads_after reads_call reads_message reads_chain reads_run reads_given event_of after_event changed_in read_now none_read opened_by
then-written = refl
