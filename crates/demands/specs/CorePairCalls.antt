-- Document 02, CR 3: "Prove once that a core command and its counterpart with equal fields change the same things, count 0 excepted", said of two messages of one
-- sender and of the calls that take them. Equal fields are said of the messages' bytes, where the layout has them. Assumes nothing.
use Rattle.std.specs.Prelude.{◌≡◌, refl, ℕ, zero, suc, ◌+◌, ◌*◌, ◌/◌, ◌%◌, List, [], ◌∷◌, ◌++◌, length, take, drop, eqb, Some, None as End, None as no_link}
use Rattle.std.proofs.Math.Path.{sym}
use Rattle.std.proofs.Common.{ap, ◌∙◌, zero-add, suc-add, arith, append-nil, drop-drop, eqb-true}
use Rattle.std.proofs.Math.Seq.{take-nil}
use Rattle.lists.specs.Truth.{both_hold, test-cases}
use Rattle.lists.specs.Put.{put}
use Rattle.wire.specs.LittleEndian.{le16_at, le32_at, le16-below}
use Rattle.records.specs.declared.Tables.{Tables}
use Rattle.locks.specs.Wire.{range_size}
use Rattle.locks.specs.declared.types.LockRange.{LockRange}
use Rattle.chain.specs.Layout.{LOCKING, READ, WRITE, CORE-READ, CORE-WRITE, LOCK_BYTE_RANGE, UNLOCK_BYTE_RANGE, header_command, FIRST, word_count, byte_area, byte_count, andx_command, andx_offset, fid_after_andx, lock_type, unlock_count, lock_count, offset_low, read_max, read_offset_high, data_length, data_offset, write_offset_high, first_fid, core_count, core_offset, marked_data, range_length, range_offset}
use Rattle.chain.specs.Grammar.{IsBlock, Span, ReadingFrom, plain_end, andx-end, andx-next}
use Rattle.chain.specs.Parse.{shaped, is_large, locking_fits, wide_offset}
use Rattle.chain.specs.Chain.{blocks_from}
use Rattle.chain.specs.Next.{Follow, Next}
use Rattle.chain.specs.declared.block.Block.{Block}
use Rattle.invariants.specs.BlockTests.{fits, fits-complete}
use Rattle.invariants.specs.BlockParse.{body_at, block_at, Linked, link-plain, link-end, link-next}
use Rattle.invariants.specs.Chained.{chained-end, chained_more, chained-read}
use Rattle.readings.specs.MovedBytes.{part, area_at}
use Rattle.claims.specs.StreamKept.{Bytes}
use Rattle.message.specs.declared.refusal.Forms.{Forms}
use Rattle.message.specs.declared.caller.Caller.{Caller}
use Rattle.message.specs.Caller.{caller_of}
use Rattle.message.specs.Refusal.{status}
use Rattle.message.specs.declared.refusal.Status.{Status}
use Rattle.message.specs.Command.{Said, locked, Given, do_locking, perform}
use Rattle.message.specs.JustOpened.{NOBODY, opened_by, body_meant}
use Rattle.message.specs.Reply.{reply_header, reply_block, refused_block, reply_size}
use Rattle.message.specs.Message.{area_of, Ran, after, link_to, after_given, run, Taken}
use Rattle.demands.specs.StatusRead.{status_read}
use Rattle.demands.specs.ChainReasons.{refusal-not-zero}
use Rattle.demands.specs.CommandReasons.{OnlyTwoBits}
use Rattle.demands.specs.LoneCall.{locking_fields}
use Rattle.demands.specs.WireFields.{sender_process}
use Rattle.demands.specs.LockEffects.{RangeOn, short-range, long-range}
use Rattle.demands.specs.DataBlock.{marked-block, reading-block}
use Rattle.demands.specs.CorePairs.{Pair, read-pair, write-pair, SaidAlike, Alike, refused-alike, done-alike, LockingSays, locking-refused, locking-done}

-- ---- the plain words

-- a core READ or WRITE block at a place of s, and a READ or WRITE block at a place of t: the same FID, offset and count; "with 32-bit offsets", so the upper half is 0
-- where the other block has one. Of a WRITE the data are the same, and "count 0 excepted"
pub data EqualReadWrite (s : List ℕ) (at : ℕ) (t : List ℕ) (to : ℕ) : ℕ → ℕ → Type 0 where
  read-fields : fid_after_andx t to ≡ first_fid s at → offset_low t to ≡ core_offset s at → (word_count t to ≡ 12 → read_offset_high t to ≡ 0) → read_max t to ≡ core_count s at
      → EqualReadWrite s at t to CORE-READ READ
  write-fields : fid_after_andx t to ≡ first_fid s at → offset_low t to ≡ core_offset s at → (word_count t to ≡ 14 → write_offset_high t to ≡ 0) → data_length t to ≡ core_count s at
      → (core_count s at ≡ 0 → ⊥) → part t (data_offset t to) (data_length t to) ≡ part s (marked_data s at) (core_count s at) → EqualReadWrite s at t to CORE-WRITE WRITE

-- the range of a LOCK_BYTE_RANGE or an UNLOCK_BYTE_RANGE: "the process from the header"
abbrev pub core_range_on : List ℕ → LockRange
core_range_on s = record { process = sender_process s; offset = range_offset s FIRST; length = range_length s FIRST }

-- a core command's block at 32 in s and its counterpart's at 32 in t have equal fields. LOCK_BYTE_RANGE: "the lock is exclusive", and the LOCKING locks that one range
-- and unlocks none; UNLOCK_BYTE_RANGE: it unlocks that one range and locks none. Its range is in either form (LockEffects.antt: `RangeOn`).
pub data EqualFields (s t : List ℕ) : ℕ → ℕ → Type 0 where
  read-or-write : {core other : ℕ} → EqualReadWrite s FIRST t FIRST core other → EqualFields s t core other
  lock-fields : fid_after_andx t FIRST ≡ first_fid s FIRST → OnlyTwoBits (lock_type t FIRST) → lock_type t FIRST % 2 ≡ 0 → unlock_count t FIRST ≡ 0 → lock_count t FIRST ≡ 1
      → RangeOn t 0 (core_range_on s) → EqualFields s t LOCK_BYTE_RANGE LOCKING
  unlock-fields : fid_after_andx t FIRST ≡ first_fid s FIRST → OnlyTwoBits (lock_type t FIRST) → unlock_count t FIRST ≡ 1 → lock_count t FIRST ≡ 0
      → RangeOn t 0 (core_range_on s) → EqualFields s t UNLOCK_BYTE_RANGE LOCKING

-- one reply block of each, with the Status of both: refused alike, or done and what each says of the same
pub data BlocksAlike (place : ℕ) : Status → List ℕ → List ℕ → Type 0 where
  refused-blocks : {why : Status} → (why ≡ status 0 0 → ⊥) → BlocksAlike place why refused_block refused_block
  said-blocks : {said said' : Said} → SaidAlike said said' → BlocksAlike place (status 0 0) (reply_block said place no_link) (reply_block said' place no_link)

-- two calls, with messages s and t, in the same room: the same number, holder, tables and file memory, the same Status, each in its form, and reply blocks that are alike, with nothing
-- behind them
pub record SameCalls (Blocks : Status → List ℕ → List ℕ → Type 0) (s t room : List ℕ) (one other : Taken) : Type 0 where
  pub same_number : one.number ≡ other.number
  pub same-holder : one.holder ≡ other.holder
  pub same_tables : one.tables ≡ other.tables
  pub same_memory : one.memory ≡ other.memory
  pub why : Forms
  pub status-one : status_read one.room ≡ why.status
  pub status-other : status_read other.room ≡ why.status
  pub blocks-one : List ℕ
  pub blocks-other : List ℕ
  pub reply-one : one.room ≡ put room 0 (reply_header s why ++ blocks-one)
  pub reply-other : other.room ≡ put room 0 (reply_header t why ++ blocks-other)
  pub length-one : one.length ≡ 32 + length blocks-one
  pub length-other : other.length ≡ 32 + length blocks-other
  pub blocks-alike : Blocks why.status blocks-one blocks-other

-- ---- from the bytes to the fields

-- the upper half of an offset is 0 where there is one
wide_low : (low high words full : ℕ) → (words ≡ full → high ≡ 0) → wide_offset low high (eqb words full) ≡ low
unfolding wide_offset
wide_low low high words full none =
    test-cases (eqb words full) (λ p. let z : high ≡ 0 = none (eqb-true words full p) in rw p (omega arith)) (λ p. rw p)

-- behind the first n of n + m stand the next m
drop-taken : (n m : ℕ) (l : List ℕ) → drop n (take (n + m) l) ≡ take m (drop n l)
drop-taken zero m l = ap (λ (k : ℕ). take k l) (zero-add m)
drop-taken (suc n) m [] = ap (drop (suc n)) (take-nil (suc n + m)) ∙ sym (take-nil m)
drop-taken (suc n) m (x ∷ xs) = ap (λ (k : ℕ). drop (suc n) (take k (x ∷ xs))) (suc-add n m) ∙ drop-taken n m xs

-- a core WRITE's data stand behind the mark and the length of its data block
pub marked-part : {s : List ℕ} {at : ℕ} → IsBlock s at CORE-WRITE → drop 3 (area_at s at) ≡ part s (marked_data s at) (core_count s at)
marked-part {s} {at} h =
    rw (marked-block h).filled (drop-taken 3 (core_count s at) (drop (byte_area s at) s) ∙ ap (take (core_count s at)) (drop-drop 3 (byte_area s at) s))

module _ {s : List ℕ} {at : ℕ} {t : List ℕ} {to : ℕ} where
  pub read-write-pair : {core other : ℕ} → EqualReadWrite s at t to core other → IsBlock s at core → (c : Caller)
      → Pair c (body_at s core at) (area_at s at) (body_at t other to) (area_at t to) (part t (data_offset t to) (data_length t to))
  unfolding body_at
  read-write-pair (read-fields fid offset none count) h c =
      rw (fid, wide_low (offset_low t to) (read_offset_high t to) (word_count t to) 12 none, offset, count) read-pair
  read-write-pair (write-fields fid offset none count counts same) h c =
      write-pair fid (wide_low (offset_low t to) (write_offset_high t to) (word_count t to) 14 none ∙ offset) count counts (same ∙ sym (marked-part h))

-- four bytes make 32 bits
pub below-32 : (s : List ℕ) → Bytes s → (at : ℕ) → le32_at s at ≡ le32_at s at % 4294967296
unfolding le32_at
below-32 s b at = let low = le16-below s b.small at in let high = le16-below s b.small (at + 2) in omega arith

-- a LOCKING block of the table has just the bytes of its ranges
pub ranges-counted : {t : List ℕ} {at : ℕ} → IsBlock t at LOCKING → byte_count t at ≡ (unlock_count t at + lock_count t at) * range_size (eqb (lock_type t at / 16 % 2) 1)
unfolding fits locking_fits is_large
ranges-counted {t} {at} h = eqb-true (byte_count t at) _ (both_hold (shaped t at 8) _ (fits-complete t at h)).1

-- a range of a message is one
pub one-range-on : {t : List ℕ} {k : ℕ} {q r : LockRange} → RangeOn t k q → RangeOn t k r → (q.process ≡ r.process) × (q.offset ≡ r.offset) × (q.length ≡ r.length)
one-range-on (short-range z p o l) (short-range y p' o' l') = (p ∙ sym p', o ∙ sym o', l ∙ sym l')
one-range-on (short-range z p o l) (long-range y p' o' l') = absurd (omega arith)
one-range-on (long-range z p o l) (short-range y p' o' l') = absurd (omega arith)
one-range-on (long-range z p o l) (long-range y p' o' l') = (p ∙ sym p', o ∙ sym o', l ∙ sym l')

-- ---- the calls

-- what two chains leave: the same, with reply blocks that are alike
pub record RunsAlike (Blocks : Status → List ℕ → List ℕ → Type 0) (one other : Ran) : Type 0 where
  pub same-forms : one.forms ≡ other.forms
  pub same-holder : one.holder ≡ other.holder
  pub same_tables : one.tables ≡ other.tables
  pub same_memory : one.memory ≡ other.memory
  pub blocks-alike : Blocks one.forms.status one.blocks other.blocks

-- of the last command of each
pub last-alike : {g h : Given} → Alike g h → (c d : Caller) (s t : List ℕ) (place : ℕ) (u : Tables) (memory : List ℕ)
    → RunsAlike (BlocksAlike place) (after_given g [] place u memory (λ j p v m. run c s j [] p v m)) (after_given h [] place u memory (λ j p v m. run d t j [] p v m))
unfolding after_given after run link_to
last-alike (refused-alike why) c d s t place u memory =
    record { same-forms = refl; same-holder = refl; same_tables = refl; same_memory = refl; blocks-alike = refused-blocks (refusal-not-zero why) }
last-alike (done-alike {said = said} {said' = said'} says) c d s t place u memory =
    record {
      same-forms = refl;
      same-holder = refl;
      same_tables = refl;
      same_memory = refl;
      blocks-alike = rw (append-nil (reply_block said place no_link), append-nil (reply_block said' place no_link)) (said-blocks says);
    }

-- the sender: UID at 28, TID at 24, PIDHigh at 12, PIDLow at 26
pub same-sender : (connection : ℕ) (s t : List ℕ) → le16_at s 28 ≡ le16_at t 28 → le16_at s 24 ≡ le16_at t 24 → le16_at s 12 ≡ le16_at t 12 → le16_at s 26 ≡ le16_at t 26
    → caller_of connection s ≡ caller_of connection t
unfolding caller_of
same-sender connection s t uid tid high low = rw (uid, tid, high, low)

-- ---- behind a LOCKING: "READ and WRITE may end a chain after LOCKING_ANDX"

-- both messages begin with a LOCKING of the same fields and the same ranges
pub record SameLocking (s t : List ℕ) : Type 0 where
  pub first_one : header_command s ≡ LOCKING
  pub first-other : header_command t ≡ LOCKING
  pub same-fid : fid_after_andx s FIRST ≡ fid_after_andx t FIRST
  pub same-type : lock_type s FIRST ≡ lock_type t FIRST
  pub same-unlocks : unlock_count s FIRST ≡ unlock_count t FIRST
  pub same-locks : lock_count s FIRST ≡ lock_count t FIRST
  pub same-ranges : area_at s FIRST ≡ area_at t FIRST

-- the reply blocks: LOCKING is refused in both, or its block, which stands at 32 and names the next command and its place, has the other command's behind it
pub data ChainsAlike (core other : ℕ) : Status → List ℕ → List ℕ → Type 0 where
  locking-refused-alike : {why : Status} → (why ≡ status 0 0 → ⊥) → ChainsAlike core other why refused_block refused_block
  locking-then : {why : Status} {one two : List ℕ} → BlocksAlike 39 why one two
      → ChainsAlike core other why (reply_block locked FIRST (Follow core 39) ++ one) (reply_block locked FIRST (Follow other 39) ++ two)

-- a reading of two blocks, from a place on
pub record TwoBlocks (s : List ℕ) (command at : ℕ) : Type 0 where
  pub second : IsBlock s (andx_offset s at) (andx_command s at)
  pub is_read : blocks_from s command at ≡ Some (block_at s command at (Follow (andx_command s at) (andx_offset s at)) ∷ block_at s (andx_command s at) (andx_offset s at) End ∷ [])

some_block : {s : List ℕ} {command at : ℕ} {spans : List Span} → ReadingFrom s command at spans → spans ≡ [] → ⊥
some_block (plain_end h p) e = let z : ◌≡◌ {A = ℕ} 0 1 = cc in omega arith
some_block (andx-end h a f) e = let z : ◌≡◌ {A = ℕ} 0 1 = cc in omega arith
some_block (andx-next h m g r) e = let z : ◌≡◌ {A = ℕ} 0 1 = cc in omega arith

last_block : {s : List ℕ} {command at : ℕ} {x : Span} {spans : List Span} → ReadingFrom s command at spans → spans ≡ x ∷ [] → Linked s command at End
last_block (plain_end h p) e = link-plain p
last_block (andx-end h a f) e = link-end a f
last_block (andx-next {rest = rest} h m g r) e = let z : rest ≡ [] = cc in absurd (some_block r z)

pub two_blocks : {s : List ℕ} {command at : ℕ} {w x : Span} {spans : List Span} → ReadingFrom s command at spans → spans ≡ w ∷ x ∷ [] → TwoBlocks s command at
two_blocks (plain_end h p) e = let z : ◌≡◌ {A = ℕ} 0 1 = cc in absurd (omega arith)
two_blocks (andx-end h a f) e = let z : ◌≡◌ {A = ℕ} 0 1 = cc in absurd (omega arith)
two_blocks {x = x} (andx-next {rest = rest} h m g r) e =
    let z : rest ≡ x ∷ [] = cc in
    record { second = reading-block r; is_read = chained-read (chained_more h (link-next m g) (chained-end (reading-block r) (last_block r z))) }

-- a LOCKING in front of two chains that are alike
pub locking-before : {g : Given} → LockingSays g → (b d : Block) (u : Tables) (memory : List ℕ) (one other : ℕ → ℕ → Tables → List ℕ → Ran)
    → ((place : ℕ) (v : Tables) (m : List ℕ) → RunsAlike (BlocksAlike place) (one NOBODY place v m) (other NOBODY place v m))
    → RunsAlike (ChainsAlike b.command d.command) (after_given g (b ∷ []) FIRST u memory one) (after_given g (d ∷ []) FIRST u memory other)
unfolding after_given after link_to reply_size opened_by
locking-before (locking-refused {why}) b d u memory one other alike =
    record { same-forms = refl; same-holder = refl; same_tables = refl; same_memory = refl; blocks-alike = locking-refused-alike (refusal-not-zero why) }
locking-before (locking-done {t = v} {memory = m}) b d u memory one other alike =
    let k = alike 39 v m in
    record {
      same-forms = k.same-forms;
      same-holder = k.same-holder;
      same_tables = k.same_tables;
      same_memory = k.same_memory;
      blocks-alike = locking-then k.blocks-alike;
    }

-- the chain of a LOCKING and one command behind it
pub chain_run : (c : Caller) (s : List ℕ) → header_command s ≡ LOCKING → (nx : Next) (b : Block) (u : Tables) (memory : List ℕ)
    → run c s NOBODY (block_at s (header_command s) FIRST nx ∷ b ∷ []) FIRST u memory
    ≡ after_given (do_locking c u memory (locking_fields s) (area_at s FIRST)) (b ∷ []) FIRST u memory (λ j p v m. run c s j (b ∷ []) p v m)
unfolding run block_at area_of body_at body_meant perform
chain_run c s e nx b u memory = rw e
