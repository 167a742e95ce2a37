-- The premises of the page are possible: a plant's tables, a message fit to be answered, a chain whose second command is refused, a lock that is refused and one
-- that is not, two messages that differ in a free byte and in length, two whose senders differ in the upper half of the process only. Each is an instance that the checker computes. (Each command alone in its message, carried out and
-- refused: literals/specs/Replies.antt; host calls that are done: literals/specs/Codes.antt.) Assumes nothing.
use Rattle.std.specs.Prelude.{◌≡◌, refl, ℕ, zero, suc, ◌+◌, ◌-◌, ◌≤◌, ◌<◌, true, false, length, take, drop, replicate, get_or, ltb, None as Nobody, Some as held_by}
use Rattle.std.proofs.Common.{sym, ap, ◌∙◌, arith, get_or-take, get_or-drop, ltb-true}
use mathlib.Core.List.Memᴰ.{head as first}
use mathlib.Core.List.Memᴰ.{tail as later}
use mathlib.Core.List.{List, [], ◌∷◌, ◌++◌, Memᴰ as In}
use Rattle.lists.specs.Truth.{both_hold}
use Rattle.lists.specs.Put.{put}
use Rattle.lists.specs.Walk.{any, all, all_tails, found, found_from}
use Rattle.lists.specs.Stored.{stored}
use Rattle.wire.specs.LittleEndian.{byte_at, le16_at, le32_at}
use Rattle.records.specs.declared.Tables.{Tables}
use Rattle.records.specs.Empty.{no_session, no_tree, no_open, no_lock, no_file, no_name}
use Rattle.numbers.specs.Number.{contains, number_ok, numbered}
use Rattle.locks.specs.Range.{overlaps, passes_end}
use Rattle.locks.specs.Wire.{range_size, number_at, range_from, range_at, ranges_at}
use Rattle.locks.specs.Answer.{owns, bars, in_way, named, answers_for, answers}
use Rattle.locks.specs.Request.{of_header, ranges_of, holder_at, ask_of, lock_of, remove_at, after_find, release_all, after_walk, grant_all, after_grants, range_passes, after_releases, request, settle, locking}
use Rattle.soundness.specs.File.{file_of}
use Rattle.soundness.specs.Lookup.{is_tree}
use Rattle.catalogue.specs.Name.{none_doubled, catalogue_ok}
use Rattle.soundness.specs.Sound.{within_room, file_ok, tree_ok, permits, holds_open, sharing_ok, open_ok, sound_records, lock_ok, agree, agree_all, sound_locks, sound, seen_ok}
use Rattle.chain.specs.Layout.{FIRST, lock_type}
use Rattle.chain.specs.Grammar.{Span, Reading}
use Rattle.chain.specs.Header.{starts_smb, is_reply, dropped}
use Rattle.chain.specs.Parse.{shaped, bare, is_large, locking_fits, read_fits, may_follow, link_fits, link_at, answer, wide_offset, parse_locking, parse_read, parse}
use Rattle.chain.specs.Chain.{before, after_block, after_parse, blocks_within, blocks_from, blocks}
use Rattle.message.specs.Caller.{caller_of}
use Rattle.message.specs.Refusal.{status, forms_of, holder_of}
use Rattle.message.specs.HeldBy.{HeldBy}
use Rattle.message.specs.Command.{is_session, with_session, with_tree, is_open, open_at, with_open, served_type, request_of, with_lock_list, locking_end, locking_after, do_locking, ask_by, unless_barred, barring, do_read, perform}
use Rattle.message.specs.Contents.{size_of, contents, read_bytes}
use Rattle.message.specs.Reply.{two, link_words, reply_size, reply_block, refused_block}
use Rattle.message.specs.JustOpened.{fid_meant, body_meant}
use Rattle.message.specs.Message.{area_of, data_of, after, link_to, after_given, run, served, run_chain, answered}
use Rattle.invariants.specs.Sound.{Good}
use Rattle.invariants.specs.ReaderSound.{span_of, reader-sound}
use Rattle.claims.specs.Cases.{message}
use Rattle.demands.specs.NotServed.{known-locking}
use Rattle.claims.specs.HostReasons.{HasTree}
use Rattle.demands.specs.Admitted.{SessionHere}
use Rattle.demands.specs.CommandReasons.{OnlyTwoBits}
use Rattle.claims.specs.StreamKept.{Bytes}
use Rattle.literals.specs.Replies.{message as requested}
use Rattle.literals.specs.TwoProcesses.{sent_by, exit}
use Rattle.demands.specs.WireFields.{sender_process}
use Rattle.demands.specs.Processes.{UpperHalvesDiffer}
use Rattle.order.specs.Demand2.{range_asked, AsksOneLock, ValidOpen}
use Rattle.order.specs.Call.{Call, BeginsKnown}
use Rattle.records.specs.Change.{changes_of, noting}
use Rattle.records.specs.Held.{with_opens}

-- one terminal on connection 5: a session, its tree, one open of file 0 with that access by process 7; and, where `held` is 1, a shared lock of process 9 on the
-- bytes 105 to 124
unfoldable pub plant : ℕ → ℕ → Tables
plant access held =
    record {
      sessions = record { uid = 1; connection = 5 } ∷ replicate 15 no_session;
      nsessions = 1;
      trees = record { tid = 1; uid = 1; right = 1 } ∷ replicate 31 no_tree;
      ntrees = 1;
      opens = record { fid = 1; uid = 1; tid = 1; process = 7; file = 0; access = access; sharing = 4; read = false; seen = 0 } ∷ replicate 63 no_open;
      nopens = 1;
      locks = record { fid = 1; process = 9; offset = 105; length = 20; shared = true } ∷ replicate 127 no_lock;
      nlocks = held;
      files = replicate 16 no_file;
      names = replicate 16 no_name;
      nnames = 0;
    }

-- a message of that terminal, with file memory and room as a host lends them
unfoldable pub asked : List ℕ → Tables → Call
asked message t = record { connection = 5; message = message; tables = t; memory = replicate 65536 0; room = replicate 12292 0 }

-- ---- the tables are sound and have their room

pub plant-sound : (sound (plant 2 0) ≡ true) × (sound (plant 1 0) ≡ true) × (sound (plant 2 1) ≡ true)
unfolding sound within_room file_ok tree_ok permits holds_open sharing_ok catalogue_ok none_doubled open_ok sound_records lock_ok agree agree_all sound_locks any all all_tails contains number_ok numbered overlaps passes_end file_of plant seen_ok
plant-sound = (refl, refl, refl)

pub good : (access held : ℕ) → sound (plant access held) ≡ true → Good (plant access held)
unfolding plant
good access held ok = record { sound = ok; shaped = record { sessions16 = refl; trees32 = refl; opens64 = refl; locks128 = refl; files16 = refl; names16 = refl } }

-- ---- fit to be answered, known, a sentence and not one

-- document 01's message, a lock and a read
pub kept-61 : dropped (message 61 []) ≡ false
unfolding dropped starts_smb is_reply message
kept-61 = refl

pub chain-known : BeginsKnown (asked (message 61 []) (plant 2 0))
unfolding asked message
chain-known = known-locking

-- its reading: LOCKING at 32, 29 bytes, and READ at 61, 23 bytes
unfoldable pub chain_spans : List Span
chain_spans = record { command = 0x24; place = 32; size = 29 } ∷ record { command = 0x2E; place = 61; size = 23 } ∷ []

pub chain-reading : Reading (message 61 []) chain_spans
unfolding chain_spans message blocks blocks_from blocks_within after_parse after_block before parse parse_locking parse_read answer locking_fits read_fits link_fits link_at may_follow shaped bare is_large le16_at le32_at wide_offset range_size span_of
chain-reading = reader-sound (message 61 []) _ refl

-- with AndXOffset 60 it is fit to be answered and known too, and no sentence
pub kept-60 : dropped (message 60 []) ≡ false
unfolding dropped starts_smb is_reply message
kept-60 = refl

-- ---- carried out, refused at its second command, refused for conflict

unfoldable pub answer-to : List ℕ → Tables → ℕ → ℕ → ℕ → HeldBy → Type 0
answer-to s t class code size held =
    ((answered 5 s t (replicate 65536 0)).forms.status ≡ status class code) × (length (answered 5 s t (replicate 65536 0)).blocks ≡ size)
    × ((answered 5 s t (replicate 65536 0)).holder ≡ held)

-- the lock of process 9, the first in the list
unfoldable pub process_nine : HeldBy
process_nine = held_by (record { lock = record { fid = 1; process = 9; offset = 105; length = 20; shared = true }; place = 0 })

-- on an open for both LOCKING and READ are done; on one for writing READ is refused (1/5) behind LOCKING's block; beside the shared lock LOCKING is (1/33), and has
-- its holder
pub answers-given : answer-to (message 61 []) (plant 2 0) 0 0 34 Nobody × answer-to (message 61 []) (plant 1 0) 1 5 10 Nobody × answer-to (message 61 []) (plant 2 1) 1 33 3 process_nine
unfolding asked message blocks blocks_from blocks_within after_parse after_block before parse parse_locking parse_read answer locking_fits read_fits link_fits link_at may_follow shaped bare is_large le16_at le32_at wide_offset range_size answered served run_chain run body_meant fid_meant after_given after perform do_locking with_open with_tree with_session is_session is_tree is_open open_at found found_from any served_type request_of locking_after locking_end with_lock_list locking ranges_of of_header ranges_at range_from range_at number_at request after_releases after_grants grant_all after_walk holder_at holder_of process_nine release_all after_find remove_at range_passes passes_end ask_of lock_of answers answers_for in_way bars named owns overlaps settle stored do_read unless_barred barring ask_by file_of caller_of area_of data_of status forms_of plant answer-to read_bytes contents size_of reply_size reply_block refused_block link_to link_words two noting changes_of with_opens
answers-given = ((refl, refl, refl), (refl, refl, refl), (refl, refl, refl))

-- its LOCKING is a lock alone in its request, of a served type, on a valid open and within range
pub asks-one-lock : AsksOneLock (asked (message 61 []) (plant 2 1))
unfolding asked message le16_at
asks-one-lock = record { is-locking = refl; no-unlock = refl; one-lock = refl }

pub served-type : OnlyTwoBits (lock_type (message 61 []) FIRST)
unfolding message
served-type = refl

pub valid-open : ValidOpen (asked (message 61 []) (plant 2 1)) (record { fid = 1; uid = 1; tid = 1; process = 7; file = 0; access = 2; sharing = 4; read = false; seen = 0 })
unfolding asked message plant caller_of le16_at SessionHere HasTree
valid-open =
    record {
      session = (_, first refl, refl, refl);
      tree = (_, first refl, refl, refl);
      opened = record { listed = first refl; of-fid = refl; of-uid = refl; of-tid = refl };
    }

pub within-range : (range_asked (asked (message 61 []) (plant 2 1))).offset + (range_asked (asked (message 61 []) (plant 2 1))).length ≡ 110
unfolding asked message range_at range_from number_at range_size le16_at le32_at
within-range = refl

-- ---- two messages that differ in a free byte and in length

unfoldable pub one_free : List ℕ
one_free = message 62 (0 ∷ [])

unfoldable pub other_free : List ℕ
other_free = message 62 (7 ∷ []) ++ (9 ∷ 9 ∷ [])

unfoldable pub free_spans : List Span
free_spans = record { command = 0x24; place = 32; size = 29 } ∷ record { command = 0x2E; place = 62; size = 23 } ∷ []

pub free-differ : (length one_free ≡ 85) × (length other_free ≡ 87) × (byte_at one_free 61 ≡ 0) × (byte_at other_free 61 ≡ 7) × (take 32 other_free ≡ take 32 one_free)
unfolding one_free other_free message
free-differ = (refl, refl, refl, refl, refl)

pub free-reading : Reading one_free free_spans
unfolding one_free free_spans message blocks blocks_from blocks_within after_parse after_block before parse parse_locking parse_read answer locking_fits read_fits link_fits link_at may_follow shaped bare is_large le16_at le32_at wide_offset range_size span_of
free-reading = reader-sound one_free _ refl

-- bytes of a part that is the same
part_bytes : (s t : List ℕ) (from size : ℕ) → take size (drop from t) ≡ take size (drop from s) → (k : ℕ) → from ≤ k → k < from + size → byte_at t k ≡ byte_at s k
part_bytes s t from size e k low high =
    let d : k ≡ from + (k - from) = omega arith in
    rw d (sym (get_or-drop from t (k - from) 0) ∙ sym (get_or-take size (drop from t) (k - from) 0 (omega arith)) ∙ ap (λ (l : List ℕ). get_or l (k - from) 0) e
    ∙ get_or-take size (drop from s) (k - from) 0 (omega arith) ∙ get_or-drop from s (k - from) 0)

pub free-stand : (x : Span) → In x free_spans → (k : ℕ) → x.place ≤ k → k < x.place + x.size → byte_at other_free k ≡ byte_at one_free k
unfolding free_spans one_free other_free message
free-stand x (first e) = rw e (part_bytes one_free other_free 32 29 refl)
free-stand x (later (first e)) = rw e (part_bytes one_free other_free 62 23 refl)
free-stand x (later (later none)) = elim none [ ]

-- ---- two senders whose processes differ in the upper half only (what their calls give: literals/specs/TwoProcesses.antt)

bytes-all : (s : List ℕ) → all (λ x. ltb x 256) s ≡ true → (i : ℕ) → get_or s i 0 < 256
unfolding all
bytes-all [] e i = omega arith
bytes-all (x ∷ xs) e zero = ltb-true x 256 (both_hold (ltb x 256) (all (λ x. ltb x 256) xs) e).0
bytes-all (x ∷ xs) e (suc i) = bytes-all xs (both_hold (ltb x 256) (all (λ x. ltb x 256) xs) e).1 i

pub exits-of-bytes : Bytes (sent_by 0 1 exit) × Bytes (sent_by 1 1 exit)
unfolding all sent_by exit requested put
exits-of-bytes = (record { small = bytes-all (sent_by 0 1 exit) refl }, record { small = bytes-all (sent_by 1 1 exit) refl })

pub two-senders : UpperHalvesDiffer (sent_by 1 1 exit) (sent_by 0 1 exit) × (sender_process (sent_by 0 1 exit) ≡ 1) × (sender_process (sent_by 1 1 exit) ≡ 65537)
unfolding sent_by exit requested put le16_at
two-senders = (record { same_low = refl; other-high = λ e. let z : ◌≡◌ {A = ℕ} 1 0 = e in omega arith }, refl, refl)
