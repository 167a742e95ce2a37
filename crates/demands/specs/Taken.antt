-- The call itself, `take-message`: free bytes, malformed messages and the messages sent one by one, of what the call gives. Assumes nothing.
use Rattle.std.specs.Prelude.{◌≡◌, refl, ℕ, ◌+◌, ◌≤◌, ◌<◌, true, false, not, ◌||◌, List, [], ◌∷◌, take, ltb, Some, None as End}
use Rattle.std.proofs.Common.{sym, ap, ◌∙◌}
use native.Mathlib.Omega.{arith}
use Rattle.std.proofs.Math.ListN.{length}
use borrow.Author.Tests.{ltb-false, le-ltb}
use Rattle.lists.specs.Truth.{neither-holds}
use Rattle.wire.specs.LittleEndian.{byte_at}
use Rattle.records.specs.declared.Tables.{Tables}
use Rattle.message.specs.Refusal.{forms}
use Rattle.chain.specs.Layout.{header_command, FIRST, block_end}
use Rattle.chain.specs.Grammar.{IsBlock, Span, Reading, Sentence}
use Rattle.chain.specs.Header.{starts_smb, is_reply, dropped}
use Rattle.chain.specs.Chain.{blocks}
use Rattle.chain.specs.declared.block.Block.{Block}
use Rattle.chain.specs.Next.{Next, Follow}
use Rattle.invariants.specs.BlockParse.{block_at, block_inside, block_size, behind}
use Rattle.readings.specs.FreeBytes.{AllAlike}
use Rattle.invariants.specs.Chained.{Chained, chained-end, chained_more, read-chained}
use Rattle.message.specs.Message.{served, only_status, answered, reply_of, replied, take-message}
use Rattle.invariants.specs.Fit.{Fit, fit-answered}
use Rattle.demands.specs.Malformed.{malformed-nothing, not-served}
use Rattle.demands.specs.FreeBytesMessage.{unread-answered, unread-reply}
use Rattle.message.specs.JustOpened.{NOBODY}
use Rattle.demands.specs.Alone.{length-alone}
use Rattle.demands.specs.Returned.{returned_fid}
use Rattle.demands.specs.OneByOne.{own, own-header, length-own, own-returned}
use Rattle.invariants.specs.Sound.{Good, answered-good}
use Rattle.demands.specs.MemorySize.{answered-memory}

-- "Timeout fields are not looked at", "0xFF ends the chain and the offset is ignored": of two messages fit to be answered, let header, connection, tables and
-- files be equal. If the blocks of a reading of one stand at the same places in the other, but for bytes that are not looked at (`Unread`), number, reply,
-- tables, files and whatever else the call gives are equal.
pub unread-taken : (connection : ℕ) (s t : List ℕ) → take 32 t ≡ take 32 s → {spans : List Span} → Reading s spans → AllAlike s t spans
    → (u : Tables) (memory room : List ℕ) → Fit s u memory room → Fit t u memory room → take-message connection t u memory room ≡ take-message connection s u memory room
unfolding replied
unread-taken connection s t header r alike u memory room f g =
    fit-answered connection t u memory room g
    ∙ rw (unread-reply s t header r alike connection u memory, unread-answered s t header r alike connection u memory)
    (sym (fit-answered connection s u memory room f))

-- "Answered as malformed: 0, Status 2/1": a message with a served command that is no sentence changes nothing
pub malformed-taken : (connection : ℕ) (s : List ℕ) (t : Tables) (memory room : List ℕ) → Fit s t memory room → served (header_command s) ≡ true → (Sentence s → ⊥)
    → take-message connection s t memory room ≡ replied s room (only_status (forms 2 1 0x00010002) t memory)
malformed-taken connection s t memory room f e n = fit-answered connection s t memory room f ∙ ap (replied s room) (malformed-nothing connection s t memory e n)

-- "2/22 header command not served": nor does one whose command is not served
pub not-served-taken : (connection : ℕ) (s : List ℕ) (t : Tables) (memory room : List ℕ) → Fit s t memory room → served (header_command s) ≡ false
    → take-message connection s t memory room ≡ replied s room (only_status (forms 2 22 0x00160002) t memory)
not-served-taken connection s t memory room f e = fit-answered connection s t memory room f ∙ ap (replied s room) (not-served connection s t memory e)

-- ---- the messages sent one by one are fit to be answered

module _ (s : List ℕ) (fit : dropped s ≡ false) where
  -- what a message that is not dropped has
  pub not_short : 35 ≤ length s
  unfolding dropped
  not_short = ltb-false (length s) 35 (neither-holds (ltb (length s) 35) (ltb 8192 (length s) || (not (starts_smb s) || is_reply s)) fit).0

  pub not-long : length s ≤ 8192
  unfolding dropped
  not-long =
      let a = neither-holds (ltb (length s) 35) (ltb 8192 (length s) || (not (starts_smb s) || is_reply s)) fit in
      let b = neither-holds (ltb 8192 (length s)) (not (starts_smb s) || is_reply s) a.1 in
      ltb-false 8192 (length s) b.0

  header-fits : (not (starts_smb s) || is_reply s) ≡ false
  unfolding dropped
  header-fits =
      let a = neither-holds (ltb (length s) 35) (ltb 8192 (length s) || (not (starts_smb s) || is_reply s)) fit in
      (neither-holds (ltb 8192 (length s)) (not (starts_smb s) || is_reply s) a.1).1

  -- a block's own message is not dropped
  own-kept : {command at : ℕ} (just : ℕ) (nx : Next) → IsBlock s at command → 32 ≤ at → dropped (own s just (block_at s command at nx)) ≡ false
  unfolding dropped starts_smb is_reply block_at
  own-kept {command} {at} just nx h from =
      let i : block_end s at ≤ length s = block_inside h in
      let m : length s ≤ 8192 = not-long in
      let long : 32 ≤ length s = omega arith in
      let n : length (own s just (block_at s command at nx)) ≡ 32 + block_size s at = length-own s just (block_at s command at nx) ∙ length-alone s (block_at s command at nx) long (omega arith) in
      let b : (k : ℕ) → k < 32 → (k ≡ 4 → ⊥) → byte_at (own s just (block_at s command at nx)) k ≡ byte_at s k = own-header s just (block_at s command at nx) long in
      rw (
        le-ltb (length (own s just (block_at s command at nx))) 35 (omega arith),
        le-ltb 8192 (length (own s just (block_at s command at nx))) (omega arith),
        b 0 (omega arith) (λ e. omega arith),
        b 1 (omega arith) (λ e. omega arith),
        b 2 (omega arith) (λ e. omega arith),
        b 3 (omega arith) (λ e. omega arith),
        b 9 (omega arith) (λ e. omega arith),
      )
      header-fits

-- each message in turn, with what the last one left, is fit to be answered in any room of 12,292
pub data AllFit (connection : ℕ) (s : List ℕ) : ℕ → List Block → Tables → List ℕ → Type 0 where
  none_left : {just : ℕ} {t : Tables} {memory : List ℕ} → AllFit connection s just [] t memory
  next_fits : {just : ℕ} {b : Block} {bs : List Block} {t : Tables} {memory : List ℕ} → just < 65536 → ((room : List ℕ) → 12292 ≤ length room → Fit (own s just b) t memory room)
      → AllFit connection s (returned_fid (reply_of (own s just b) (answered connection (own s just b) t memory))) bs (answered connection (own s just b) t memory).tables
      (answered connection (own s just b) t memory).memory
      → AllFit connection s just (b ∷ bs) t memory

all-fit-from : {s : List ℕ} {command at : ℕ} {bs : List Block} (connection : ℕ) → Chained s command at bs → 32 ≤ at → dropped s ≡ false → (just : ℕ) (t : Tables) (memory : List ℕ) → Good t
    → length memory ≡ 65536 → just < 65536 → AllFit connection s just bs t memory
all-fit-from {s} connection (chained-end {command} {at} h l) from fit just t memory g full low =
    next_fits low (λ room e. record { room-enough = e; memory-whole = full; tables-sound = g.sound; not-dropped = own-kept s fit just End h from }) none_left
all-fit-from {s} connection (chained_more {command} {at} {c} {a} h l r) from fit just t memory g full low =
    let i : block_end s at ≤ a = behind c a l refl in
    next_fits low (λ room e. record { room-enough = e; memory-whole = full; tables-sound = g.sound; not-dropped = own-kept s fit just (Follow c a) h from })
    (all-fit-from connection r (omega arith) fit _ _ _ (answered-good connection (own s just (block_at s command at (Follow c a))) t memory g)
    (answered-memory connection (own s just (block_at s command at (Follow c a))) t memory g full) (own-returned connection just (Follow c a) t memory h from (not-long s fit) low))

-- "Each is taken by demand 2's definition, same connection, reply room 12,292": of a sentence that is not dropped, on sound tables, every block's
-- message is fit to be answered, so that the call gives it number 0 and what `answered` says (`fit-answered`)
pub all_fit : (connection : ℕ) (s : List ℕ) (bs : List Block) → blocks s ≡ Some bs → dropped s ≡ false → (t : Tables) (memory : List ℕ) → Good t → length memory ≡ 65536
    → AllFit connection s NOBODY bs t memory
unfolding blocks
all_fit connection s bs e fit t memory g full = all-fit-from connection (read-chained s (header_command s) FIRST bs e) (omega arith) fit NOBODY t memory g full (omega arith)
