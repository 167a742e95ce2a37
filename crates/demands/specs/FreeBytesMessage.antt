-- "Free bytes" (document 01): a message gives what its header and the blocks of its reading say, whatever stands between and after, and
-- whatever stands in them where it is not looked at.
-- Assumes nothing.
use Rattle.std.specs.Prelude.{◌≡◌, refl, ℕ, ◌+◌, ◌≤◌, ◌<◌, List, [], map, length, take, drop, Some}
use Rattle.std.proofs.Common.{sym, ◌∙◌, ap, arith, length-take, length-drop, get_or-take, get_or-drop, ext_get_or}
use mathlib.Core.List.Memᴰ.{head as first}
use mathlib.Core.List.Memᴰ.{tail as later}
use Rattle.wire.specs.LittleEndian.{byte_at, le16_at}
use Rattle.records.specs.declared.Tables.{Tables}
use Rattle.message.specs.declared.refusal.Forms.{Forms}
use Rattle.chain.specs.Layout.{header_command, FIRST}
use Rattle.chain.specs.Grammar.{IsBlock, Span, span_at, Reading}
use Rattle.chain.specs.Chain.{blocks}
use Rattle.chain.specs.declared.block.Block.{Block}
use Rattle.chain.specs.Next.{Next}
use Rattle.invariants.specs.BlockParse.{body_at, block_at}
use Rattle.invariants.specs.ReaderSound.{span_of}
use Rattle.readings.specs.ReaderComplete.{reader-complete-from}
use Rattle.readings.specs.FreeBytes.{Alike, AllStand, AllAlike}
use Rattle.readings.proofs.FreeBytes.{unmoved, all_alike, unread-blocks}
use Rattle.readings.specs.SameNumbers.{same-16}
use Rattle.invariants.specs.Chained.{Chained, chained-end, chained_more, read-chained}
use Rattle.message.specs.Caller.{caller_of}
use Rattle.message.specs.declared.caller.Caller.{Caller}
use Rattle.message.specs.Command.{Given, refused, done, perform}
use Rattle.message.specs.JustOpened.{NOBODY, body_meant}
use Rattle.message.specs.Reply.{nt_bit, status_number, reply_header}
use Rattle.message.specs.Message.{area_of, data_of, Ran, after, after_given, run, run_chain, answered, reply_of}
use Rattle.demands.specs.PerformMoved.{perform_bytes}

-- ---- equal headers

-- another header that differs at most in the upper byte of Flags2, at 11
pub record HeaderBut11 (s t : List ℕ) : Type 0 where
  pub same : (k : ℕ) → k < 32 → (k ≡ 11 → ⊥) → byte_at t k ≡ byte_at s k

module _ {s t : List ℕ} (sender : HeaderBut11 s t) where
  sender-number : (k : ℕ) → 12 ≤ k → k + 1 < 32 → le16_at t k ≡ le16_at s k
  sender-number k l h = same-16 s k t k (λ j m. sender.same (k + j) (omega arith) (λ e. omega arith))

  -- the same caller
  pub sender-caller : (connection : ℕ) → caller_of connection t ≡ caller_of connection s
  unfolding caller_of
  sender-caller connection =
      rw (
        sender-number 28 (omega arith) (omega arith),
        sender-number 24 (omega arith) (omega arith),
        sender-number 12 (omega arith) (omega arith),
        sender-number 26 (omega arith) (omega arith),
      )

module _ (s t : List ℕ) (header : take 32 t ≡ take 32 s) where
  pub header-byte : (k : ℕ) → k < 32 → byte_at t k ≡ byte_at s k
  header-byte k h = sym (get_or-take 32 t k 0 h) ∙ ap (λ (l : List ℕ). byte_at l k) header ∙ get_or-take 32 s k 0 h

  header-sender : HeaderBut11 s t
  header-sender = record { same = λ k h _. header-byte k h }

  -- its last eight bytes
  header-last : take 8 (drop 24 t) ≡ take 8 (drop 24 s)
  header-last =
      let e = ap length header in
      let f : length (take 32 t) ≡ length (take 32 s) = e in
      let n : length (take 8 (drop 24 t)) ≡ length (take 8 (drop 24 s)) =
      rw (length-take, length-take, length-drop, length-drop) (omega (arith, length-take 32 t, length-take 32 s)) in
      ext_get_or 0 (take 8 (drop 24 t)) (take 8 (drop 24 s)) n
      (λ k h. let l : k < 8 = omega (arith, length-take 8 (drop 24 t)) in
      get_or-take 8 (drop 24 t) k 0 l ∙ get_or-drop 24 t k 0 ∙ header-byte (24 + k) (omega arith) ∙ sym (get_or-take 8 (drop 24 s) k 0 l ∙ get_or-drop 24 s k 0))

  -- the same header of the reply
  pub header-reply : (why : Forms) → reply_header t why ≡ reply_header s why
  unfolding reply_header status_number nt_bit
  header-reply why =
      rw (header-byte 4 (omega arith), header-byte 9 (omega arith), header-byte 10 (omega arith), header-byte 11 (omega arith), header-byte 12 (omega arith), header-byte 13 (omega arith), header-last)

-- ---- equal blocks

-- a block that is alike does the same, whatever FID 0xFFFF means in it
alike_same : {s t : List ℕ} {command at : ℕ} (c : Caller) (u : Tables) (memory : List ℕ) (just : ℕ) (next : Next) → IsBlock s at command → Alike s t (span_at s command at)
    → perform c u memory (body_meant just (body_at s command at)) (area_of t (block_at s command at next)) (data_of t (block_at s command at next))
    ≡ perform c u memory (body_meant just (body_at s command at)) (area_of s (block_at s command at next)) (data_of s (block_at s command at next))
unfolding area_of data_of block_at
alike_same c u memory just next h alike = perform_bytes c u memory h (unmoved h alike) just

-- what follows is the same: so is the whole
after_same : (g : Given) (bs : List Block) (place : ℕ) (t : Tables) (memory : List ℕ) (f h : ℕ → ℕ → Tables → List ℕ → Ran)
    → ((j p : ℕ) (u : Tables) (m : List ℕ) → f j p u m ≡ h j p u m) → after_given g bs place t memory f ≡ after_given g bs place t memory h
unfolding after_given
after_same (refused why) bs place t memory f h e = refl
after_same (done u m said) bs place t memory f h e = ap (after _) (e _ _ u m)

-- the blocks of a reading that are alike do the same
run-same : {s : List ℕ} (t : List ℕ) {command at : ℕ} {bs : List Block} (c : Caller) → Chained s command at bs → AllAlike s t (map span_of bs)
    → (just place : ℕ) (u : Tables) (memory : List ℕ) → run c t just bs place u memory ≡ run c s just bs place u memory
unfolding run block_at span_of span_at
run-same {s} t c (chained-end {command} {at} h l) alike just place u memory =
    ap (λ (g : Given). after_given g [] place u memory (λ j p v m. run c s j [] p v m)) (alike_same c u memory just _ h (alike _ (first refl)))
run-same {s} t c (chained_more {command} {at} {rest = rest} h l r) alike just place u memory =
    ap (λ (g : Given). after_given g rest place u memory (λ j p v m. run c t j rest p v m)) (alike_same c u memory just _ h (alike _ (first refl)))
    ∙ after_same _ rest place u memory (λ j p v m. run c t j rest p v m) (λ j p v m. run c s j rest p v m) (λ j p v m. run-same t c r (λ x i. alike x (later i)) j p v m)

module _ (s t : List ℕ) (sender : HeaderBut11 s t) {spans : List Span} (r : Reading s spans) where
  -- the whole chain
  chain_same : AllAlike s t spans → (c : Caller) (u : Tables) (memory : List ℕ) → run_chain c t (blocks t) u memory ≡ run_chain c s (blocks s) u memory
  unfolding run_chain blocks
  chain_same alike c u memory =
      let a = reader-complete-from r in
      let e : blocks s ≡ Some a.bs = a.answer in
      let f : blocks t ≡ blocks s = unread-blocks t (sender.same 4 (omega arith) (λ e. omega arith)) r alike in
      let g : AllAlike s t (map span_of a.bs) = rw a.same alike in
      rw (f, e) (run-same t c (read-chained s (header_command s) FIRST a.bs e) g NOBODY FIRST u memory)

  -- bytes that are not looked at change nothing of what the message leaves
  pub sent-answered : AllAlike s t spans → (connection : ℕ) (u : Tables) (memory : List ℕ) → answered connection t u memory ≡ answered connection s u memory
  unfolding answered
  sent-answered alike connection u memory =
      rw (sender.same 4 (omega arith) (λ e. omega arith), sender-caller sender connection, chain_same alike (caller_of connection s) u memory)

module _ (s t : List ℕ) (header : take 32 t ≡ take 32 s) {spans : List Span} (r : Reading s spans) where
  pub unread-answered : AllAlike s t spans → (connection : ℕ) (u : Tables) (memory : List ℕ) → answered connection t u memory ≡ answered connection s u memory
  unread-answered = sent-answered s t (header-sender s t header) r

  -- nor of the reply
  pub unread-reply : AllAlike s t spans → (connection : ℕ) (u : Tables) (memory : List ℕ)
      → reply_of t (answered connection t u memory) ≡ reply_of s (answered connection s u memory)
  unfolding reply_of
  unread-reply alike connection u memory = rw (unread-answered alike connection u memory, header-reply s t header (answered connection s u memory).forms)

  -- "number, reply, tables, files and whatever else the call gives are equal": what the message leaves
  pub free-answered : AllStand s t spans → (connection : ℕ) (u : Tables) (memory : List ℕ) → answered connection t u memory ≡ answered connection s u memory
  free-answered stands = unread-answered (all_alike stands)

  -- and the reply
  pub free-reply : AllStand s t spans → (connection : ℕ) (u : Tables) (memory : List ℕ)
      → reply_of t (answered connection t u memory) ≡ reply_of s (answered connection s u memory)
  free-reply stands = unread-reply (all_alike stands)
