-- The premises of change request 3's page are possible: a count of 0 that is done, one past 4,096, one past 4,096 that meets a lock, a file that is cut and grows again over bytes that are not 0, a LOCK that is
-- refused, an UNLOCK of what isn't locked, each of the four pairs of messages, a chain of a LOCKING and a READ, and a data block that is none. Each is an instance that the
-- checker computes. (Whole replies: literals/specs/CoreCommands.antt.) Assumes nothing.
use Rattle.std.specs.Prelude.{◌≡◌, refl, ℕ, ◌+◌, true, false, List, [], ◌∷◌, ◌++◌, length, replicate, get_or, None as Nobody, Some as held_by}
use Rattle.std.proofs.Common.{ap, ◌∙◌, arith}
use mathlib.Core.List.Memᴰ.{head as first}
use Rattle.std.proofs.lemmas.List.{length-replicate}
use Rattle.lists.specs.Put.{put}
use Rattle.lists.specs.Walk.{any, all, all_tails, found, found_from}
use Rattle.lists.specs.Stored.{stored}
use Rattle.wire.specs.LittleEndian.{le16_at, le32_at}
use Rattle.records.specs.declared.Open.{Open}
use Rattle.records.specs.declared.Lock.{Lock}
use Rattle.records.specs.declared.Tables.{Tables}
use Rattle.records.specs.Empty.{no_session, no_tree, no_open, no_lock, no_file, no_name}
use Rattle.records.specs.Held.{with_files, with_opens}
use Rattle.numbers.specs.Number.{contains, number_ok, numbered}
use Rattle.locks.specs.Range.{overlaps, passes_end}
use Rattle.locks.specs.Wire.{range_size, number_at, range_from, range_at, ranges_at, small_form}
use Rattle.locks.specs.Answer.{owns, bars, in_way, named, answers_for, answers}
use Rattle.locks.specs.Request.{of_header, ranges_of, holder_at, ask_of, lock_of, remove_at, after_find, release_all, after_walk, grant_all, after_grants, range_passes, after_releases, request, settle, locking}
use Rattle.soundness.specs.File.{file_of}
use Rattle.soundness.specs.Lookup.{is_tree}
use Rattle.catalogue.specs.Name.{none_doubled, catalogue_ok}
use Rattle.soundness.specs.Sound.{within_room, file_ok, tree_ok, permits, holds_open, sharing_ok, open_ok, sound_records, lock_ok, agree, agree_all, sound_locks, sound, seen_ok}
use Rattle.chain.specs.Layout.{LOCKING, CORE-READ, CORE-WRITE, LOCK_BYTE_RANGE, UNLOCK_BYTE_RANGE}
use Rattle.chain.specs.Header.{starts_smb, is_reply, dropped}
use Rattle.chain.specs.Parse.{shaped, bare, is_large, locking_fits, core_write_fits, may_follow, link_fits, link_at, answer, parse_locking, parse_bare, parse_core_write, parse}
use Rattle.chain.specs.Chain.{before, after_block, after_parse, blocks_within, blocks_from, blocks}
use Rattle.message.specs.Caller.{caller_of}
use Rattle.message.specs.Refusal.{status, forms_of, holder_of}
use Rattle.message.specs.HeldBy.{HeldBy}
use Rattle.message.specs.Command.{is_session, with_session, with_tree, is_open, open_at, with_open, served_type, request_of, with_lock_list, locking_end, locking_after, do_locking, ask_by, unless_barred, barring, do_read, ends_past, do_write, core_said, as_core, range_by, one_range, do_range, between_sizes, do_set_size, do_core_write, perform}
use Rattle.message.specs.Contents.{size_of, contents, read_bytes, written, resized, sized_to}
use Rattle.message.specs.Reply.{two, link_words, reply_size, reply_block, refused_block}
use Rattle.message.specs.JustOpened.{fid_meant, body_meant}
use Rattle.message.specs.Message.{area_of, data_of, Ran, after, link_to, after_given, run, served, run_chain, answered, Taken, replied}
use Rattle.invariants.specs.Sound.{Good}
use Rattle.invariants.specs.Fit.{fit-answered}
use Rattle.invariants.specs.ReaderSound.{span_of, reader-sound}
use Rattle.claims.specs.HostReasons.{HasTree}
use Rattle.claims.specs.StreamKept.{Bytes}
use Rattle.literals.specs.State.{memory}
use Rattle.literals.specs.CoreCommands.{core_write as core_write_of, size_to}
use Rattle.demands.proofs.Calls.{status-call}
use Rattle.demands.specs.Calls.{length-call}
use Rattle.demands.specs.Admitted.{SessionHere, Admitted}
use Rattle.demands.specs.CorePairCalls.{EqualFields}
use Rattle.demands.specs.CorePairCases.{sent, core_read, core_write, core_bytes, andx_locking, short100, BothSent, ChainSent}
use Rattle.order.specs.Call.{Call, gives, Answerable, OneCommand, Says, sending}
use Rattle.order.specs.Demand2.{ValidCoreOpen}
use Rattle.order.specs.Request3.{SentInstead, OnWhatItLeft}
use Rattle.records.specs.Change.{changes_of, noting}

-- ---- a bench

-- UID 3 on connection 5, its tree TID 2, and FID 4, an open of file 1 for both by process 65,543, whose file has 6 bytes; and, where `held` is 1, that lock
unfoldable pub bench_open : Open
bench_open = record { fid = 4; uid = 3; tid = 2; process = 65543; file = 1; access = 2; sharing = 4; read = false; seen = 0 }

unfoldable pub bench : Lock → ℕ → Tables
bench lock held =
    record {
      sessions = record { uid = 3; connection = 5 } ∷ replicate 15 no_session;
      nsessions = 1;
      trees = record { tid = 2; uid = 3; right = 1 } ∷ replicate 31 no_tree;
      ntrees = 1;
      opens = record { fid = 4; uid = 3; tid = 2; process = 65543; file = 1; access = 2; sharing = 4; read = false; seen = 0 } ∷ replicate 63 no_open;
      nopens = 1;
      locks = lock ∷ replicate 127 no_lock;
      nlocks = held;
      files = no_file ∷ record { size = 6; changes = 2 } ∷ replicate 14 no_file;
      names = replicate 16 no_name;
      nnames = 0;
    }

-- a shared lock of process 9 on the bytes 105 to 124, and the bench's own exclusive one on 100 to 109
unfoldable pub others : Lock
others = record { fid = 4; process = 9; offset = 105; length = 20; shared = true }

unfoldable pub own : Lock
own = record { fid = 4; process = 65543; offset = 100; length = 10; shared = false }

pub bench-sound : (sound (bench others 0) ≡ true) × (sound (bench others 1) ≡ true) × (sound (bench own 1) ≡ true)
unfolding sound within_room file_ok tree_ok permits holds_open sharing_ok catalogue_ok none_doubled open_ok sound_records lock_ok agree agree_all sound_locks any all all_tails contains number_ok numbered overlaps passes_end file_of bench others own seen_ok
bench-sound = (refl, refl, refl)

pub good : (lock : Lock) (held : ℕ) → sound (bench lock held) ≡ true → Good (bench lock held)
unfolding bench
good lock held ok = record { sound = ok; shaped = record { sessions16 = refl; trees32 = refl; opens64 = refl; locks128 = refl; files16 = refl; names16 = refl } }

-- a message of the bench, with file memory and room as a host lends them; file 1 holds A0 to A5
unfoldable pub asked : List ℕ → Tables → Call
asked message t = record { connection = 5; message = message; tables = t; memory = memory; room = replicate 12292 0 }

pub memory-whole : length memory ≡ 65536
unfolding memory
memory-whole = refl

pub answerable : (s : List ℕ) (t : Tables) → Good t → dropped s ≡ false → Answerable (asked s t)
unfolding asked
answerable s t ok kept =
    record {
      fit = record {
        room-enough = rw (length-replicate {A = ℕ} 12292 0) (omega arith);
        memory-whole = memory-whole;
        tables-sound = ok.sound;
        not-dropped = kept;
      };
      good = ok;
    }

-- ---- what is given

-- the messages: a size of 4, of 9 and of 4,097; a LOCKING and a core READ behind it; a data block marked 0x02
unfoldable pub cut : List ℕ
cut = sent CORE-WRITE (size_to 4 0)

unfoldable pub grow : List ℕ
grow = sent CORE-WRITE (size_to 9 0)

unfoldable pub too_large : List ℕ
too_large = sent CORE-WRITE (size_to 0x01 0x10)

unfoldable pub lock_then_read : List ℕ
lock_then_read = sent LOCKING (andx_locking CORE-READ 0 0 1 10 short100 ++ core_read)

unfoldable pub bad_block : List ℕ
bad_block = sent CORE-WRITE (core_write_of 2 2 0 5 2 2 (0xBB ∷ 0xCC ∷ []))

-- Status, length of the reply blocks, and holder
unfoldable pub Given : Ran → ℕ → ℕ → ℕ → HeldBy → Type 0
Given r class code size held = (r.forms.status ≡ status class code) × (length r.blocks ≡ size) × (r.holder ≡ held)

unfoldable pub others_hold : HeldBy
others_hold = held_by (record { lock = record { fid = 4; process = 9; offset = 105; length = 20; shared = true }; place = 0 })

-- a cut and, on what it left, a growth; one past 4,096; a LOCK where the others' lock is, an UNLOCK where its own is not and where it is; a READ, a WRITE; the chain; the size
-- past 4,096 over the others' lock
pub given-here : Given (answered 5 cut (bench others 0) memory) 0 0 5 Nobody
    × Given (answered 5 grow (answered 5 cut (bench others 0) memory).tables (answered 5 cut (bench others 0) memory).memory) 0 0 5 Nobody
    × Given (answered 5 too_large (bench others 0) memory) 3 39 3 Nobody
    × Given (answered 5 (sent LOCK_BYTE_RANGE core_bytes) (bench others 1) memory) 1 33 3 others_hold
    × Given (answered 5 (sent UNLOCK_BYTE_RANGE core_bytes) (bench others 1) memory) 1 158 3 Nobody
    × Given (answered 5 (sent UNLOCK_BYTE_RANGE core_bytes) (bench own 1) memory) 0 0 3 Nobody
    × Given (answered 5 (sent CORE-READ core_read) (bench others 0) memory) 0 0 19 Nobody
    × Given (answered 5 (sent CORE-WRITE core_write) (bench others 0) memory) 0 0 5 Nobody
    × Given (answered 5 lock_then_read (bench others 0) memory) 0 0 26 Nobody
    × Given (answered 5 too_large (bench others 1) memory) 1 33 3 others_hold
unfolding Given cut grow too_large lock_then_read others_hold sent size_to core_write_of core_read core_write core_bytes andx_locking short100 bench others own memory blocks blocks_from blocks_within after_parse after_block before parse parse_locking parse_bare parse_core_write answer locking_fits core_write_fits link_fits link_at may_follow shaped bare is_large le16_at le32_at range_size answered served run_chain run body_meant fid_meant after_given after perform with_open with_tree with_session is_session is_tree is_open open_at found found_from any served_type request_of locking_after locking_end with_lock_list do_locking locking ranges_of of_header ranges_at range_from range_at number_at request after_releases after_grants grant_all after_walk holder_at holder_of release_all after_find remove_at range_passes passes_end ask_of lock_of answers answers_for in_way bars named owns overlaps settle stored do_read unless_barred barring ask_by file_of caller_of area_of data_of status forms_of read_bytes contents size_of reply_size reply_block refused_block link_to link_words two core_said as_core range_by one_range do_range small_form between_sizes do_set_size do_core_write do_write ends_past resized written put with_files noting changes_of with_opens sized_to
given-here = (
  (refl, refl, refl),
  (refl, refl, refl),
  (refl, refl, refl),
  (refl, refl, refl),
  (refl, refl, refl),
  (refl, refl, refl),
  (refl, refl, refl),
  (refl, refl, refl),
  (refl, refl, refl),
  (refl, refl, refl),
)

-- the same of the call
pub call-says : (s : List ℕ) (t : Tables) (a : Answerable (asked s t)) (class code size : ℕ) (held : HeldBy) → Given (answered 5 s t memory) class code size held
    → Says (asked s t) class code × ((gives (asked s t)).length ≡ 32 + size) × ((gives (asked s t)).holder ≡ held)
unfolding asked Given replied
call-says s t a class code size held h = (
  status-call 5 s t memory (replicate 12292 0) a.fit ∙ h.0,
  length-call 5 s t memory (replicate 12292 0) a.fit ∙ ap (λ (n : ℕ). 32 + n) h.1,
  ap (λ (k : Taken). k.holder) (fit-answered 5 s t memory (replicate 12292 0) a.fit) ∙ h.2,
)

-- ---- count 0

pub kept : (dropped cut ≡ false) × (dropped grow ≡ false) × (dropped too_large ≡ false) × (dropped bad_block ≡ false)
unfolding dropped starts_smb is_reply cut grow too_large bad_block sent size_to core_write_of
kept = (refl, refl, refl, refl)

-- each is one core WRITE of count 0
pub one-write : OneCommand (asked cut (bench others 0)) CORE-WRITE × OneCommand (asked too_large (bench others 0)) CORE-WRITE
unfolding asked cut too_large sent size_to core_write_of blocks blocks_from blocks_within after_parse after_block parse parse_core_write answer core_write_fits shaped le16_at le32_at span_of
one-write = (
  record { span = record { command = CORE-WRITE; place = 32; size = 16 }; reading = reader-sound cut _ refl; is = refl },
  record { span = record { command = CORE-WRITE; place = 32; size = 16 }; reading = reader-sound too_large _ refl; is = refl },
)

pub valid-open : ValidCoreOpen (asked cut (bench others 0)) bench_open
    × ValidCoreOpen (asked too_large (bench others 0)) bench_open
    × ValidCoreOpen (asked too_large (bench others 1)) bench_open
unfolding asked cut too_large sent size_to core_write_of bench bench_open caller_of le16_at SessionHere HasTree
valid-open = (
  record { session = (_, first refl, refl, refl); tree = (_, first refl, refl, refl); opened = record { listed = first refl; of-fid = refl; of-uid = refl; of-tid = refl } },
  record { session = (_, first refl, refl, refl); tree = (_, first refl, refl, refl); opened = record { listed = first refl; of-fid = refl; of-uid = refl; of-tid = refl } },
  record { session = (_, first refl, refl, refl); tree = (_, first refl, refl, refl); opened = record { listed = first refl; of-fid = refl; of-uid = refl; of-tid = refl } },
)

-- ---- and grows again to 9, on what the cut left

unfoldable pub grown : Call
grown =
    record {
      connection = 5;
      message = grow;
      tables = (gives (asked cut (bench others 0))).tables;
      memory = (gives (asked cut (bench others 0))).memory;
      room = replicate 12292 0;
    }

pub grown-on-it : OnWhatItLeft (asked cut (bench others 0)) grown
unfolding grown
grown-on-it = record { same_tables = refl; same_memory = refl }

-- its open stands, and of the file memory the bytes A4 A5 stand at 4,100, where the file has ended
pub left_there : Admitted (caller_of 5 grow) (answered 5 cut (bench others 0) memory).tables 4 bench_open
    × (get_or (answered 5 cut (bench others 0) memory).memory 4100 0 ≡ 0xA4)
unfolding grow bench_open SessionHere HasTree cut sent size_to core_write_of bench others memory blocks blocks_from blocks_within after_parse after_block parse parse_core_write answer core_write_fits shaped le16_at le32_at answered served run_chain run body_meant fid_meant after_given after perform with_open with_tree with_session is_session is_tree is_open open_at found found_from any unless_barred barring ask_by file_of caller_of area_of data_of size_of between_sizes do_set_size do_core_write put with_files answers answers_for in_way bars owns overlaps sized_to
left_there = (
  record { session = (_, first refl, refl, refl); tree = (_, first refl, refl, refl); opened = record { listed = first refl; of-fid = refl; of-uid = refl; of-tid = refl } },
  refl,
)

-- ---- each core command and its counterpart

-- two messages of one pair, on those tables: all that change request 3's page asks of them
pub record PairPossible (s other : List ℕ) (core counterpart : ℕ) (t : Tables) : Type 0 where
  pub instead : SentInstead (asked s t) other
  pub of-bytes : Bytes s
  pub one : OneCommand (asked s t) core
  pub two : OneCommand (sending (asked s t) other) counterpart
  pub equal : EqualFields s other core counterpart

pub both-sent : (s other : List ℕ) (t : Tables) → Good t → BothSent s other → SentInstead (asked s t) other
unfolding asked
both-sent s other t ok h =
    record { answerable = answerable s t ok h.kept-one; other-answerable = answerable other t ok h.kept-other; same-sender = h.sender }

-- ---- a chain of a LOCKING and a READ

pub record ChainPossible (s other : List ℕ) (core counterpart : ℕ) (t : Tables) : Type 0 where
  pub instead : SentInstead (asked s t) other
  pub sent-so : ChainSent s other core counterpart

-- ---- a data block marked 0x02
