-- The premises of change request 6's page, and of demand 1's and demand 2's rows `opening`, are possible: tables with a catalogue that the host has set, an OPEN_ANDX that is carried out, one
-- that is refused 1/32, and a chain of an OPEN_ANDX and a READ_ANDX of FID 0xFFFF. Each is an instance that the checker computes. (Whole replies, and each other refusal:
-- literals/specs/Opening.antt.) Assumes nothing.
use Rattle.std.specs.Prelude.{◌≡◌, refl, ℕ, true, false, List, [], ◌∷◌, ◌++◌, length, replicate}
use Rattle.std.proofs.Common.{◌∙◌}
use mathlib.Core.List.Memᴰ.{head as first}
use Rattle.lists.specs.Walk.{any, all, all_tails, found, found_from}
use Rattle.lists.specs.Stored.{stored}
use Rattle.wire.specs.LittleEndian.{le16_at, le32_at}
use Rattle.records.specs.declared.Name.{Name}
use Rattle.records.specs.declared.Tables.{Tables}
use Rattle.records.specs.Empty.{no_session, no_tree, no_open, no_lock, no_file, no_name}
use Rattle.records.specs.Held.{with_opens, with_catalogue}
use Rattle.numbers.specs.Number.{contains, number_ok, numbered, free_from, smallest_free}
use Rattle.locks.specs.Range.{overlaps, passes_end}
use Rattle.catalogue.specs.Name.{folded, same_name, name_bytes, is_named, not_zero, name_ok, differ, none_doubled, catalogue_ok}
use Rattle.soundness.specs.File.{file_of}
use Rattle.soundness.specs.Lookup.{is_tree}
use Rattle.soundness.specs.Sound.{within_room, file_ok, tree_ok, permits, holds_open, sharing_ok, open_ok, sound_records, lock_ok, agree, agree_all, sound_locks, sound, seen_ok}
use Rattle.host.specs.HostCall.{done, set_catalogue}
use Rattle.chain.specs.Layout.{READ, OPEN, fid_after_andx}
use Rattle.chain.specs.Grammar.{Span, Reading}
use Rattle.chain.specs.Header.{starts_smb, is_reply, dropped}
use Rattle.chain.specs.Parse.{shaped, bare, read_fits, terminated, open_fits, may_follow, link_fits, link_at, answer, wide_offset, parse_read, parse_open, parse}
use Rattle.chain.specs.Chain.{before, after_block, after_parse, blocks_within, blocks_from, blocks}
use Rattle.message.specs.Caller.{caller_of}
use Rattle.message.specs.Refusal.{status, forms_of}
use Rattle.message.specs.declared.refusal.Status.{Status}
use Rattle.message.specs.Contents.{size_of, contents, read_bytes}
use Rattle.message.specs.Sharing.{reads, writes, denies_reading, denies_writing, denied, kept_out}
use Rattle.message.specs.Command.{is_session, with_session, with_tree, is_open, open_at, with_open, ask_by, unless_barred, barring, do_read, codes_served, name_asked, open_by, opened_said, open_file, open_named, do_open, perform}
use Rattle.message.specs.Reply.{reply_size}
use Rattle.message.specs.JustOpened.{opened_by, fid_meant, body_meant}
use Rattle.message.specs.Message.{area_of, data_of, after, after_given, run, served, run_chain, answered}
use Rattle.invariants.specs.Sound.{Good}
use Rattle.invariants.specs.ReaderSound.{span_of, reader-sound}
use Rattle.claims.proofs.CataloguePlain.{same-name-plain}
use Rattle.literals.specs.State.{name, memory}
use Rattle.literals.specs.Replies.{message}
use Rattle.literals.specs.Opening.{crl, open_words, opening, crl_bytes, open_crl, crl_then_read, read_of, asking}
use Rattle.demands.proofs.Calls.{status-call}
use Rattle.demands.specs.Alone.{named_andx, end_set, data_set}
use Rattle.demands.specs.Carrying.{asks_opened, carrying}
use Rattle.demands.specs.Sharing.{writes-1, writing, writing-by-2, asks-denied, KeptOut}
use Rattle.demands.specs.OpenReasons.{NamesFile}
use Rattle.demands.specs.OpenEffects.{OpenDone}
use Rattle.demands.specs.SpansOneByOne.{alone_span, own_span}
use Rattle.demands.specs.SpansRefused.{last_returned}
use Rattle.demands.specs.WireFields.{open_name}
use Rattle.order.specs.Call.{Call, gives, Answerable, OneCommand, Says, some_room, own_message}
use Rattle.records.specs.Change.{changes_of, noting}

-- ---- tables with a catalogue

-- CRL.PEM is file 1, which has 6 bytes, and A is file 2
unfoldable pub two_names : List Name
two_names = name crl 1 ∷ name (0x41 ∷ []) 2 ∷ replicate 14 no_name

-- UID 3 on connection 5 and its tree TID 2; where `others` is 1 an open of file 1 for reading, FID 1, that denies writing; those names, so many of them in use
unfoldable pub office : List Name → ℕ → ℕ → Tables
office names count others =
    record {
      sessions = record { uid = 3; connection = 5 } ∷ replicate 15 no_session;
      nsessions = 1;
      trees = record { tid = 2; uid = 3; right = 1 } ∷ replicate 31 no_tree;
      ntrees = 1;
      opens = record { fid = 1; uid = 3; tid = 2; process = 9; file = 1; access = 0; sharing = 2; read = false; seen = 0 } ∷ replicate 63 no_open;
      nopens = others;
      locks = replicate 128 no_lock;
      nlocks = 0;
      files = no_file ∷ record { size = 6; changes = 2 } ∷ replicate 14 no_file;
      names = names;
      nnames = count;
    }

-- the host sets the catalogue
pub set_so : set_catalogue (office (replicate 16 no_name) 0 0) two_names 2 ≡ done 0 (office two_names 2 0)
unfolding set_catalogue done with_catalogue office two_names crl name folded same_name name_bytes is_named not_zero name_ok differ none_doubled catalogue_ok sound within_room file_ok tree_ok permits holds_open sharing_ok open_ok sound_records lock_ok agree agree_all sound_locks any all all_tails contains number_ok numbered overlaps passes_end file_of seen_ok
set_so = refl

pub office-sound : (sound (office two_names 2 0) ≡ true) × (sound (office two_names 2 1) ≡ true)
unfolding office two_names crl name folded same_name name_bytes is_named not_zero name_ok differ none_doubled catalogue_ok sound within_room file_ok tree_ok permits holds_open sharing_ok open_ok sound_records lock_ok agree agree_all sound_locks any all all_tails contains number_ok numbered overlaps passes_end file_of seen_ok
office-sound = (refl, refl)

pub good : (others : ℕ) → sound (office two_names 2 others) ≡ true → Good (office two_names 2 others)
unfolding office two_names
good others ok = record { sound = ok; shaped = record { sessions16 = refl; trees32 = refl; opens64 = refl; locks128 = refl; files16 = refl; names16 = refl } }

-- a message of the office, with file memory and room as a host lends them
unfoldable pub asked : List ℕ → ℕ → Call
asked message others = record { connection = 5; message = message; tables = office two_names 2 others; memory = memory; room = replicate 12292 0 }

pub memory-whole : length memory ≡ 65536
unfolding memory
memory-whole = refl

-- ---- what is given

-- the messages: CRL.PEM for reading, for writing, each denying nothing; for reading with a READ_ANDX of 0xFFFF behind it; and the first of that chain's commands in its own message
unfoldable pub to_read : List ℕ
to_read = asking (open_crl 0x40)

unfoldable pub to_write : List ℕ
to_write = asking (open_crl 0x41)

unfoldable pub open_then_read : List ℕ
open_then_read = asking (crl_then_read 0x40 ++ read_of 0xFF 0xFF 0xFF)

unfoldable pub open_first : List ℕ
open_first = asking (open_words 0xFF 73 0 0 0x40 0 1 0 ++ crl_bytes)

pub kept : (dropped to_read ≡ false) × (dropped to_write ≡ false) × (dropped open_then_read ≡ false) × (dropped open_first ≡ false)
unfolding dropped starts_smb is_reply to_read to_write open_then_read open_first asking message open_crl opening open_words crl_bytes crl_then_read read_of
kept = (refl, refl, refl, refl)

pub given-here : ((answered 5 to_read (office two_names 2 0) memory).forms.status ≡ status 0 0)
    × ((answered 5 to_write (office two_names 2 1) memory).forms.status ≡ status 1 32)
    × ((answered 5 open_then_read (office two_names 2 0) memory).forms.status ≡ status 0 0)
    × ((answered 5 open_first (office two_names 2 0) memory).forms.status ≡ status 0 0)
unfolding to_read to_write open_then_read open_first asking message open_crl opening open_words crl_bytes crl_then_read read_of office two_names crl name memory blocks blocks_from blocks_within after_parse after_block before parse parse_open parse_read answer open_fits terminated read_fits wide_offset link_fits link_at may_follow shaped bare le16_at le32_at answered served run_chain run body_meant fid_meant opened_by after_given after perform with_open with_tree with_session is_session is_tree is_open open_at found found_from any do_open codes_served sharing_ok name_asked open_named is_named same_name folded name_bytes open_file open_by holds_open permits kept_out denied reads writes denies_reading denies_writing opened_said smallest_free free_from contains with_opens stored do_read unless_barred barring ask_by file_of caller_of area_of data_of status forms_of read_bytes contents size_of reply_size noting changes_of
given-here = (refl, refl, refl, refl)

-- the same of the call
pub call-says : (s : List ℕ) (others : ℕ) (a : Answerable (asked s others)) (n : Status) → (answered 5 s (office two_names 2 others) memory).forms.status ≡ n → Says (asked s others) n.class n.code
unfolding asked status
call-says s others a n h = status-call 5 s (office two_names 2 others) memory (replicate 12292 0) a.fit ∙ h

-- each is one OPEN_ANDX
pub one-open : OneCommand (asked to_read 0) OPEN × OneCommand (asked to_write 1) OPEN × OneCommand (asked open_first 0) OPEN
unfolding asked to_read to_write open_first asking message open_crl opening open_words crl_bytes blocks blocks_from blocks_within after_parse after_block parse parse_open answer open_fits terminated link_fits link_at may_follow shaped le16_at le32_at span_of
one-open = (
  record { span = record { command = OPEN; place = 32; size = 41 }; reading = reader-sound to_read _ refl; is = refl },
  record { span = record { command = OPEN; place = 32; size = 41 }; reading = reader-sound to_write _ refl; is = refl },
  record { span = record { command = OPEN; place = 32; size = 41 }; reading = reader-sound open_first _ refl; is = refl },
)

-- ---- carried out

-- ---- refused 1/32

-- session, tree, OpenMode, codes, name and the tree's right are in order
pub named_here : NamesFile (office two_names 2 1) (open_name to_write) 1
unfolding office two_names crl name to_write asking message open_crl opening open_words crl_bytes le16_at name_bytes same_name folded
named_here = record { entry = name crl 1; listed = first refl; same = (same-name-plain _ _).0 refl; of-file = refl }

-- the other open denies the writing that is asked
pub write-kept-out : KeptOut (office two_names 2 1) 1 1 4
unfolding office
write-kept-out =
    record { another = record { fid = 1; uid = 3; tid = 2; process = 9; file = 1; access = 0; sharing = 2; read = false; seen = 0 }; listed = first refl; of-file = refl; clash = asks-denied writing writes-1 writing-by-2 }

-- ---- an OPEN_ANDX, and a READ_ANDX of the file just opened

abbrev pub open_span : Span
open_span = record { command = OPEN; place = 32; size = 41 }

abbrev pub read_span : Span
read_span = record { command = READ; place = 73; size = 23 }

pub chain-reading : Reading open_then_read (open_span ∷ read_span ∷ [])
unfolding open_then_read asking message open_words crl_bytes crl_then_read read_of blocks blocks_from blocks_within after_parse after_block before parse parse_open parse_read answer open_fits terminated read_fits wide_offset link_fits link_at may_follow shaped bare le16_at le32_at span_of
chain-reading = reader-sound open_then_read _ refl

pub chain-nobody : fid_after_andx open_then_read 73 ≡ 0xFFFF
unfolding open_then_read asking message open_words crl_bytes crl_then_read read_of le16_at
chain-nobody = refl

-- the first command's own message, and that it is carried out
pub first-message : own_message (asked open_then_read 0) [] open_span ≡ open_first
unfolding asked last_returned own_span alone_span carrying asks_opened named_andx end_set data_set open_then_read open_first asking message open_words crl_bytes crl_then_read read_of le16_at
first-message = refl

abbrev pub on : List ℕ → Call
on s = record { connection = 5; message = s; tables = office two_names 2 0; memory = memory; room = some_room }

abbrev pub DoneBy : List ℕ → Type 0
DoneBy s = OpenDone 5 s (office two_names 2 0) memory (gives (on s))
