-- Whole replies in the NT form (document 02, CR 7), their numbers a second time: requests of Replies.antt, CoreCommands.antt and Opening.antt with the bit 0x4000 of Flags2 set. Assumes
-- nothing.
use Rattle.std.specs.Prelude.{true, false, ◌≡◌, refl, ℕ, List, [], ◌∷◌, ◌++◌, map, set}
use Rattle.lists.specs.Put.{put}
use Rattle.catalogue.specs.Name.{catalogue_ok, none_doubled, is_named, same_name, folded, name_bytes, name_ok, not_zero, differ}
use Rattle.chain.specs.Chain.{blocks, blocks_from, blocks_within, after_parse, after_block, before}
use Rattle.chain.specs.Header.{dropped, starts_smb, is_reply}
use Rattle.chain.specs.Parse.{parse, answer, link_fits, link_at, may_follow, shaped, bare, parse_locking, locking_fits, is_large, parse_read, read_fits, wide_offset, parse_write, write_fits, data_inside, parse_logoff, parse_bare, parse_core_write, core_write_fits, parse_open, open_fits, terminated}
use Rattle.lists.specs.Stored.{stored}
use Rattle.lists.specs.Walk.{found, found_from, any, all, all_tails, keep}
use Rattle.locks.specs.Answer.{named, answers, answers_for, in_way, bars, owns}
use Rattle.locks.specs.Range.{overlaps, passes_end}
use Rattle.locks.specs.Request.{locking, request, release_all, after_find, remove_at, after_releases, grant_all, after_walk, after_grants, settle, ranges_of, of_header, range_passes, ask_of, lock_of, holder_at}
use Rattle.locks.specs.Wire.{range_size, ranges_at, range_at, range_from, number_at, small_form}
use Rattle.message.specs.Caller.{caller_of}
use Rattle.message.specs.Command.{open_named, perform, with_session, is_session, with_tree, with_open, is_open, open_at, do_locking, served_type, request_of, locking_after, locking_end, with_lock_list, do_read, unless_barred, barring, ask_by, do_write, ends_past, core_said, as_core, range_by, one_range, do_range, between_sizes, do_set_size, do_core_write, do_open, codes_served, name_asked, open_file, open_by, opened_said}
use Rattle.message.specs.Contents.{read_bytes, contents, size_of, resized, written, sized_to}
use Rattle.message.specs.JustOpened.{body_meant, fid_meant, opened_by}
use Rattle.message.specs.Message.{take-message, answered, served, replied, reply_of, run_chain, only_status, run, after_given, after, link_to, area_of, data_of}
use Rattle.message.specs.Refusal.{holder_of, status, forms_of}
use Rattle.message.specs.Reply.{reply_header, reply_block, refused_block, reply_size, link_words, two, four, status_number, smb_number, nt_bit}
use Rattle.message.specs.Sharing.{kept_out, denied, reads, writes, denies_reading, denies_writing}
use Rattle.numbers.specs.Number.{contains, number_ok, numbered, free_from, smallest_free}
use Rattle.records.specs.Held.{with_files, with_sessions, with_trees, with_opens, with_locks}
use Rattle.removal.specs.Removal.{remove, sweep_sessions, sweep_trees, sweep_opens, sweep_locks, session_named, tree_named, session_stays, tree_stays, open_stays, lock_stays, open_named as open_gone}
use Rattle.soundness.specs.File.{file_of}
use Rattle.soundness.specs.Lookup.{is_tree}
use Rattle.soundness.specs.Sound.{sound, within_room, file_ok, tree_ok, permits, holds_open, sharing_ok, open_ok, sound_records, lock_ok, agree, agree_all, sound_locks, seen_ok}
use Rattle.wire.specs.LittleEndian.{le16_at, le32_at}
use Rattle.literals.specs.CoreCommands.{row as core, sent, core_read, core_write, write_to, size_to, byte_range}
use Rattle.literals.specs.Counting.{count_from}
use Rattle.literals.specs.Opening.{row as to_open, attributes, opens_crl, open_crl, moded, asking, no_opens, having, beside, another, all_used, opening, crl_bytes, crl, open_words, b_bytes, a_bytes, catalogued, twelve, five_names, two_sizes}
use Rattle.literals.specs.Replies.{Row, locking_reply, read_reply, write_reply, close_reply, logoff_reply, disconnect_reply, exit_reply, lock_read_reply, lock_refused_reply, unserved, malformed, no_session, no_tree, no_open, no_read, no_write, lock_type, no_such_lock, passes_top, no_record, no_space, read_held, write_held, lock_held, own_range_held, chain_held, message_of, message, given, refusal, reply, done_reply, taken, opened, lock, contested, held_at, lock100, lock_block, range100, range_of, read_block, write_block, close_block}
use Rattle.literals.specs.State.{session, tree, open_of, sizes, tables_with, few_records, memory, name}
use Rattle.records.specs.Change.{changes_of, noting}

-- "With the bit set in a request, the reply sets it and carries": of that request with Flags2 0xFFFF, Flags2 being the request's & 0x4001 (docs/DECISIONS.md, 127), 0x40 at 11, and at 5 those four bytes; all else is the
-- same
unfoldable pub with_bit : Row → ℕ → ℕ → ℕ → ℕ → Row
with_bit r b5 b6 b7 b8 =
    record {
      tables = r.tables;
      request = set r.request 11 0xFF;
      said = record { number = r.said.number; size = r.said.size; holder = r.said.holder; reply = set (put r.said.reply 5 (b5 ∷ b6 ∷ b7 ∷ b8 ∷ [])) 11 0x40 };
    }

-- also with Status 0 (docs/DECISIONS.md, 127): each command done, and a chain
unfoldable pub all_done : List Row
all_done =
    with_bit locking_reply 0x00 0x00 0x00 0x00
    ∷ with_bit read_reply 0x00 0x00 0x00 0x00
    ∷ with_bit write_reply 0x00 0x00 0x00 0x00
    ∷ with_bit close_reply 0x00 0x00 0x00 0x00
    ∷ with_bit logoff_reply 0x00 0x00 0x00 0x00
    ∷ with_bit disconnect_reply 0x00 0x00 0x00 0x00
    ∷ with_bit exit_reply 0x00 0x00 0x00 0x00
    ∷ with_bit
    (core few_records 0x0A (core_read 4 3 2)
    (done_reply 51 0x0A ((0x05 ∷ 0x03 ∷ 0x00 ∷ 0x00 ∷ 0x00 ∷ 0x00 ∷ 0x00 ∷ 0x00 ∷ 0x00 ∷ 0x00 ∷ 0x00 ∷ []) ++ (0x06 ∷ 0x00 ∷ 0x01 ∷ 0x03 ∷ 0x00 ∷ 0xA2 ∷ 0xA3 ∷ 0xA4 ∷ []))))
    0x00 0x00 0x00 0x00
    ∷ with_bit (core few_records 0x0B (write_to 2 0) (done_reply 37 0x0B (0x01 ∷ 0x02 ∷ 0x00 ∷ 0x00 ∷ 0x00 ∷ []))) 0x00 0x00 0x00 0x00
    ∷ with_bit (core few_records 0x0C (byte_range 4 10 100) (done_reply 35 0x0C (0x00 ∷ 0x00 ∷ 0x00 ∷ []))) 0x00 0x00 0x00 0x00
    ∷ with_bit (core (opened 2 (lock 0x0D0C1B1A 100 10 ∷ [])) 0x0D (byte_range 4 10 100) (done_reply 35 0x0D (0x00 ∷ 0x00 ∷ 0x00 ∷ []))) 0x00 0x00 0x00 0x00
    ∷ with_bit (to_open no_opens (open_crl 0x42) (opens_crl 0x01 0x02)) 0x00 0x00 0x00 0x00
    ∷ with_bit lock_read_reply 0x00 0x00 0x00 0x00
    ∷ []

-- "00160002 (2/22), 00010002 (2/1), 005B0002, 00050002, C0000008 (1/6), C0000022 (1/5), C00000BB, C000007E, C000000D (1/87), .. C0000205, C000007F", little-endian at 5; the last in a chain
unfoldable pub refusals : List Row
refusals =
    with_bit unserved 0x02 0x00 0x16 0x00
    ∷ with_bit malformed 0x02 0x00 0x01 0x00
    ∷ with_bit no_session 0x02 0x00 0x5B 0x00
    ∷ with_bit no_tree 0x02 0x00 0x05 0x00
    ∷ with_bit no_open 0x08 0x00 0x00 0xC0
    ∷ with_bit no_read 0x22 0x00 0x00 0xC0
    ∷ with_bit no_write 0x22 0x00 0x00 0xC0
    ∷ with_bit lock_type 0xBB 0x00 0x00 0xC0
    ∷ with_bit no_such_lock 0x7E 0x00 0x00 0xC0
    ∷ with_bit passes_top 0x0D 0x00 0x00 0xC0
    ∷ with_bit no_record 0x05 0x02 0x00 0xC0
    ∷ with_bit no_space 0x7F 0x00 0x00 0xC0
    ∷ with_bit lock_refused_reply 0x08 0x00 0x00 0xC0
    ∷ []

-- "C0000055 for a lock refused, C0000054 for a read or write refused": the READ_ANDX of the last is behind a LOCKING that is done
unfoldable pub conflicts : List Row
conflicts =
    with_bit lock_held 0x55 0x00 0x00 0xC0
    ∷ with_bit own_range_held 0x55 0x00 0x00 0xC0
    ∷ with_bit read_held 0x54 0x00 0x00 0xC0
    ∷ with_bit write_held 0x54 0x00 0x00 0xC0
    ∷ with_bit chain_held 0x54 0x00 0x00 0xC0
    ∷ []

unfoldable pub core_refusals : List Row
core_refusals =
    with_bit (core contested 0x0C (byte_range 4 10 100) (held_at 4 0x0D0C1B1A 4 109 11 false (refusal 0x0C 1 0x21 0x00))) 0x55 0x00 0x00 0xC0
    ∷ with_bit (core contested 0x0A (core_read 4 3 2) (held_at 9 8 3 4 6 false (refusal 0x0A 1 0x21 0x00))) 0x54 0x00 0x00 0xC0
    ∷ with_bit (core contested 0x0B (write_to 2 0) (held_at 9 8 1 0 3 true (refusal 0x0B 1 0x21 0x00))) 0x54 0x00 0x00 0xC0
    ∷ with_bit (core (opened 2 (lock 7 4 1 ∷ [])) 0x0B (size_to 4 0) (held_at 4 7 0 4 1 false (refusal 0x0B 1 0x21 0x00))) 0x54 0x00 0x00 0xC0
    ∷ with_bit (core few_records 0x0B (size_to 0x01 0x10) (refusal 0x0B 3 0x27 0x00)) 0x7F 0x00 0x00 0xC0
    ∷ []

-- "CR 6 adds 000C0001 (1/12), C000000F (1/2), C0000043 (1/32), C000011F (1/4)"; C00000BB is 2/65535 of both kinds, C0000022 1/5 of both kinds (docs/DECISIONS.md, 127)
unfoldable pub open_refusals : List Row
open_refusals =
    with_bit (to_open no_opens (moded 0x00 0x00 0x40 crl_bytes) (refusal 0x2D 2 0xFF 0xFF)) 0xBB 0x00 0x00 0xC0
    ∷ with_bit (to_open no_opens (open_crl 0x43) (refusal 0x2D 1 0x0C 0x00)) 0x01 0x00 0x0C 0x00
    ∷ with_bit (to_open no_opens (opening 0x40 b_bytes) (refusal 0x2D 1 0x02 0x00)) 0x0F 0x00 0x00 0xC0
    ∷ with_bit (to_open (having 0 []) (open_crl 0x41) (refusal 0x2D 1 0x05 0x00)) 0x22 0x00 0x00 0xC0
    ∷ with_bit (to_open (beside 1 (another 1 1 0 2 ∷ [])) (open_crl 0x41) (refusal 0x2D 1 0x20 0x00)) 0x43 0x00 0x00 0xC0
    ∷ with_bit (to_open (all_used 1 0 4) (open_crl 0x40) (refusal 0x2D 1 0x04 0x00)) 0x1F 0x01 0x00 0xC0
    ∷ []

unfoldable pub table : List Row
table = all_done ++ (refusals ++ (conflicts ++ (core_refusals ++ open_refusals)))

-- what the definitions give is what the paper says, in every row
pub nt-replies : map (λ r. given r.tables r.request) table ≡ map (λ r. r.said) table
unfolding with_bit done_reply attributes opens_crl all_done refusals conflicts core core_refusals to_open open_refusals table locking_reply read_reply write_reply close_reply logoff_reply disconnect_reply exit_reply lock_read_reply lock_refused_reply unserved no_session no_tree no_open no_read no_write lock_type no_such_lock passes_top no_record no_space holder_of message message_of few_records tables_with session tree open_of sizes memory given taken take-message dropped starts_smb is_reply answered served replied reply_of reply_header put run_chain only_status blocks blocks_from blocks_within after_parse after_block before parse answer link_fits link_at may_follow shaped bare le16_at le32_at caller_of run body_meant fid_meant after_given after link_to perform area_of data_of status forms_of reply_block refused_block reply_size link_words two with_session is_session with_tree with_open is_open open_at found found_from sound within_room file_ok tree_ok permits holds_open sharing_ok catalogue_ok none_doubled open_ok sound_records lock_ok agree agree_all sound_locks file_of is_tree contains number_ok numbered any all all_tails overlaps passes_end reply close_block lock100 lock_block range100 parse_locking locking_fits is_large range_size do_locking served_type request_of locking request release_all after_find remove_at named after_releases grant_all after_walk after_grants settle ranges_of of_header ranges_at range_at range_from number_at range_passes ask_of lock_of answers answers_for in_way bars owns locking_after locking_end with_lock_list stored read_block parse_read read_fits wide_offset do_read unless_barred barring ask_by read_bytes contents size_of write_block parse_write write_fits data_inside do_write ends_past resized written with_files parse_logoff parse_bare remove sweep_sessions sweep_trees sweep_opens sweep_locks session_named tree_named open_named session_stays tree_stays open_stays lock_stays keep with_sessions with_trees with_opens with_locks refusal opened lock four status_number smb_number nt_bit read_held write_held lock_held own_range_held chain_held held_at contested range_of holder_at sent core_read core_write write_to size_to byte_range parse_core_write core_write_fits core_said as_core range_by one_range do_range small_form between_sizes do_set_size do_core_write crl twelve five_names two_sizes catalogued having no_opens another beside open_words opening crl_bytes a_bytes b_bytes open_crl asking moded all_used name parse_open open_fits terminated opened_by do_open codes_served name_asked is_named same_name folded name_bytes open_file open_by kept_out denied reads writes denies_reading denies_writing opened_said free_from smallest_free name_ok not_zero differ open_gone count_from malformed seen_ok noting changes_of sized_to
nt-replies = refl

-- the bit alone, and all but the bit and 0x0001: of Flags2 0x4000 the reply has it, of 0xBFFE nothing
pub bit_kept :
    ((given few_records (message_of 0x71 0x00 0x00 0x40 (0x00 ∷ 0x00 ∷ 0x00 ∷ []))).reply
    ≡ set (reply 35 0x71 0 0 0 0x80 0x00 (0x00 ∷ 0x00 ∷ 0x00 ∷ [])).reply 11 0x40)
    × ((given few_records (message_of 0x71 0x00 0xFE 0xBF (0x00 ∷ 0x00 ∷ 0x00 ∷ []))).reply ≡ (reply 35 0x71 0 0 0 0x80 0x00 (0x00 ∷ 0x00 ∷ 0x00 ∷ [])).reply)
unfolding locking_reply read_reply write_reply close_reply logoff_reply disconnect_reply exit_reply lock_read_reply lock_refused_reply unserved no_session no_tree no_open no_read no_write lock_type no_such_lock passes_top no_record no_space holder_of message message_of few_records tables_with session tree open_of sizes memory given taken take-message dropped starts_smb is_reply answered served replied reply_of reply_header put run_chain only_status blocks blocks_from blocks_within after_parse after_block before parse answer link_fits link_at may_follow shaped bare le16_at le32_at caller_of run body_meant fid_meant after_given after link_to perform area_of data_of status forms_of reply_block refused_block reply_size link_words two with_session is_session with_tree with_open is_open open_at found found_from sound within_room file_ok tree_ok permits holds_open sharing_ok catalogue_ok none_doubled open_ok sound_records lock_ok agree agree_all sound_locks file_of is_tree contains number_ok numbered any all all_tails overlaps passes_end reply close_block lock100 lock_block range100 parse_locking locking_fits is_large range_size do_locking served_type request_of locking request release_all after_find remove_at named after_releases grant_all after_walk after_grants settle ranges_of of_header ranges_at range_at range_from number_at range_passes ask_of lock_of answers answers_for in_way bars owns locking_after locking_end with_lock_list stored read_block parse_read read_fits wide_offset do_read unless_barred barring ask_by read_bytes contents size_of write_block parse_write write_fits data_inside do_write ends_past resized written with_files parse_logoff parse_bare remove sweep_sessions sweep_trees sweep_opens sweep_locks session_named tree_named open_named session_stays tree_stays open_stays lock_stays keep with_sessions with_trees with_opens with_locks refusal opened lock four status_number smb_number nt_bit read_held write_held lock_held own_range_held chain_held held_at contested range_of holder_at sent core_read core_write write_to size_to byte_range parse_core_write core_write_fits core_said as_core range_by one_range do_range small_form between_sizes do_set_size do_core_write crl twelve five_names two_sizes catalogued having no_opens another beside open_words opening crl_bytes a_bytes b_bytes open_crl asking moded all_used name parse_open open_fits terminated opened_by do_open codes_served name_asked is_named same_name folded name_bytes open_file open_by kept_out denied reads writes denies_reading denies_writing opened_said free_from smallest_free name_ok not_zero differ open_gone count_from malformed seen_ok noting changes_of sized_to
bit_kept = (refl, refl)
