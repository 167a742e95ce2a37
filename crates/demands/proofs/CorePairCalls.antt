-- Of specs/CorePairCalls.antt: what rests on its other theorems. Assumes nothing.
use Rattle.std.specs.Prelude.{◌≡◌, refl, ℕ, ◌+◌, ◌*◌, List, [], ◌∷◌, ◌++◌, None as End}
use Rattle.std.proofs.Math.Path.{sym}
use Rattle.std.proofs.Common.{ap, ◌∙◌, arith}
use Rattle.lists.specs.Put.{put}
use Rattle.records.specs.declared.Tables.{Tables}
use Rattle.locks.specs.Wire.{range_size, range_at}
use Rattle.locks.specs.Request.{of_header}
use Rattle.chain.specs.Layout.{LOCKING, FIRST, byte_count, andx_command, andx_offset, unlock_count, lock_count, data_length, data_offset}
use Rattle.chain.specs.Grammar.{IsBlock, Span, Reading}
use Rattle.chain.specs.Parse.{range_fields}
use Rattle.chain.specs.Chain.{blocks}
use Rattle.chain.specs.Next.{Follow}
use Rattle.invariants.specs.BlockParse.{body_at, block_at}
use Rattle.invariants.specs.Fit.{Fit, fit-answered}
use Rattle.invariants.specs.JustOpenedLaws.{run-first}
use Rattle.readings.specs.MovedBytes.{part, area_at}
use Rattle.claims.specs.StreamKept.{Bytes}
use Rattle.message.specs.declared.refusal.Forms.{Forms}
use Rattle.message.specs.declared.caller.Caller.{Caller}
use Rattle.message.specs.Caller.{caller_of}
use Rattle.message.specs.declared.refusal.Status.{Status}
use Rattle.message.specs.Command.{do_locking}
use Rattle.message.specs.JustOpened.{NOBODY}
use Rattle.message.specs.Reply.{reply_header}
use Rattle.message.specs.Message.{area_of, data_of, run, answered, reply_of, Taken, replied, take-message}
use Rattle.demands.specs.Malformed.{length-area}
use Rattle.demands.proofs.Calls.{status-call}
use Rattle.demands.specs.Calls.{length-call, sentence-answered}
use Rattle.demands.specs.LoneCall.{locking_fields}
use Rattle.demands.specs.WireFields.{sender_process, upper_half}
use Rattle.demands.specs.LockEffects.{RangeOn, large, area}
use Rattle.demands.proofs.LockEffects.{range-on}
use Rattle.demands.specs.CorePairs.{JustRange, Pair, lock-pair, unlock-pair, locking-says}
use Rattle.demands.proofs.CorePairs.{pair-alike}
use Rattle.demands.specs.CorePairCalls.{BlocksAlike, ChainsAlike, EqualFields, EqualReadWrite, RunsAlike, SameCalls, SameLocking, below-32, chain_run, core_range_on, last-alike, locking-before, one-range-on, ranges-counted, read-write-pair, two_blocks}
use Rattle.demands.specs.CorePairCalls.{lock-fields}
use Rattle.demands.specs.CorePairCalls.{read-or-write}
use Rattle.demands.specs.CorePairCalls.{unlock-fields}

-- the LOCKING block's byte area is that one range
pub just-range : {s t : List ℕ} → Bytes s → IsBlock t FIRST LOCKING → unlock_count t FIRST + lock_count t FIRST ≡ 1 → RangeOn t 0 (core_range_on s) → sender_process t ≡ sender_process s
    → (c : Caller) → c.process ≡ sender_process s → JustRange c (range_fields s FIRST) (large t) (area_at t FIRST)
unfolding area_of block_at of_header
just-range {s} {t} b h one on same c of =
    let size = range_size (large t) in
    let counted : byte_count t FIRST ≡ 1 * size = rw one at (ranges-counted h) in
    let equal = one-range-on (range-on t 1 (omega arith) 0 (omega arith)) on in
    let whole : 65536 * upper_half t + (range_at (large t) (area t) 0).process ≡ sender_process s = equal.0 in
    record {
      no_more = length-area h End ∙ counted ∙ omega arith;
      of-process = omega arith;
      of-offset = equal.1 ∙ below-32 s b (FIRST + 7);
      of_length = equal.2 ∙ below-32 s b (FIRST + 3);
    }

pub fields-pair : {s t : List ℕ} {core other : ℕ} → EqualFields s t core other → Bytes s → IsBlock s FIRST core → IsBlock t FIRST other → sender_process t ≡ sender_process s
    → (c : Caller) → c.process ≡ sender_process s
    → Pair c (body_at s core FIRST) (area_at s FIRST) (body_at t other FIRST) (area_at t FIRST) (part t (data_offset t FIRST) (data_length t FIRST))
unfolding body_at
fields-pair (read-or-write e) b h k same c of = read-write-pair e h c
fields-pair (lock-fields fid bits exclusive u l on) b h k same c of = lock-pair fid bits exclusive u l (just-range b k (omega arith) on same c of)
fields-pair (unlock-fields fid bits u l on) b h k same c of = unlock-pair fid bits u l (just-range b k (omega arith) on same c of)

-- of two messages fit to be answered
pub calls-alike : {Blocks : Status → List ℕ → List ℕ → Type 0} (connection : ℕ) (s t : List ℕ) (u : Tables) (memory room : List ℕ) → Fit s u memory room → Fit t u memory room
    → RunsAlike Blocks (answered connection s u memory) (answered connection t u memory)
    → SameCalls Blocks s t room (take-message connection s u memory room) (take-message connection t u memory room)
unfolding replied reply_of
calls-alike connection s t u memory room f g alike =
    let one = fit-answered connection s u memory room f in
    let other = fit-answered connection t u memory room g in
    let r = answered connection s u memory in
    let q = answered connection t u memory in
    record {
      same_number = ap (λ (k : Taken). k.number) one ∙ sym (ap (λ (k : Taken). k.number) other);
      same-holder = ap (λ (k : Taken). k.holder) one ∙ alike.same-holder ∙ sym (ap (λ (k : Taken). k.holder) other);
      same_tables = ap (λ (k : Taken). k.tables) one ∙ alike.same_tables ∙ sym (ap (λ (k : Taken). k.tables) other);
      same_memory = ap (λ (k : Taken). k.memory) one ∙ alike.same_memory ∙ sym (ap (λ (k : Taken). k.memory) other);
      why = r.forms;
      status-one = status-call connection s u memory room f;
      status-other = status-call connection t u memory room g ∙ ap (λ (f : Forms). f.status) (sym alike.same-forms);
      blocks-one = r.blocks;
      blocks-other = q.blocks;
      reply-one = ap (λ (k : Taken). k.room) one;
      reply-other = ap (λ (k : Taken). k.room) other ∙ ap (λ (f : Forms). put room 0 (reply_header t f ++ q.blocks)) (sym alike.same-forms);
      length-one = length-call connection s u memory room f;
      length-other = length-call connection t u memory room g;
      blocks-alike = alike.blocks-alike;
    }

-- a message that is a LOCKING and a core READ or WRITE, and one that is the same LOCKING and its counterpart
pub chain-calls : (connection : ℕ) (s t : List ℕ) → SameLocking s t → {core other : ℕ} → andx_command s FIRST ≡ core → andx_command t FIRST ≡ other
    → EqualReadWrite s (andx_offset s FIRST) t (andx_offset t FIRST) core other → caller_of connection s ≡ caller_of connection t
    → {w x y z : Span} → Reading s (w ∷ x ∷ []) → Reading t (y ∷ z ∷ []) → (u : Tables) (memory room : List ℕ) → Fit s u memory room → Fit t u memory room
    → SameCalls (ChainsAlike core other) s t room (take-message connection s u memory room) (take-message connection t u memory room)
unfolding blocks run block_at area_of data_of
chain-calls connection s t same {core} {other} is is' equal sender r q u memory room f g =
    let c = caller_of connection s in
    let d = caller_of connection t in
    let a = two_blocks r refl in
    let b = two_blocks q refl in
    let one = block_at s (andx_command s FIRST) (andx_offset s FIRST) End in
    let two = block_at t (andx_command t FIRST) (andx_offset t FIRST) End in
    let lock : do_locking c u memory (locking_fields s) (area_at s FIRST) ≡ do_locking d u memory (locking_fields t) (area_at t FIRST) =
    rw (sender, same.same-fid, same.same-type, same.same-unlocks, same.same-locks, same.same-ranges) in
    let pair = read-write-pair equal (rw is at a.second) c in
    let behind : (place : ℕ) (v : Tables) (m : List ℕ) → RunsAlike (BlocksAlike place) (run c s NOBODY (one ∷ []) place v m) (run d t NOBODY (two ∷ []) place v m) =
    λ place v m. rw (run-first c s one [] place v m, run-first d t two [] place v m) (last-alike (rw (is, is', ← sender) (pair-alike pair v m _)) c d s t place v m) in
    calls-alike connection s t u memory room f g
    (rw (
      sentence-answered connection s u memory _ a.is_read,
      sentence-answered connection t u memory _ b.is_read,
      chain_run c s same.first_one (Follow (andx_command s FIRST) (andx_offset s FIRST)) one u memory,
      chain_run d t same.first-other (Follow (andx_command t FIRST) (andx_offset t FIRST)) two u memory,
      lock,
      ← is,
      ← is',
    )
    (locking-before (locking-says d u memory (locking_fields t) (area_at t FIRST)) one two u memory (λ j p v m. run c s j (one ∷ []) p v m) (λ j p v m. run d t j (two ∷ []) p v m) behind))
