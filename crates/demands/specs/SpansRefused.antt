-- A refusal in a chain, over the blocks of a reading and their messages sent one by one (document 01, "Refusals on the wire"): "A command refused changes no table
-- and no file byte, its own unlocks included. Commands before it in the chain stand; those after it aren't begun." Assumes nothing.
use Rattle.std.specs.Prelude.{◌≡◌, ℕ, ◌-◌, ◌≤◌, ◌<◌, true, false, length, Some, None as End}
use Rattle.std.proofs.Math.Path.{refl, ap}
use Rattle.std.proofs.Common.{◌∙◌, arith}
use mathlib.Core.List.{List, [], ◌∷◌, ◌++◌}
use Rattle.lists.specs.Truth.{not-decided-twice}
use Rattle.wire.specs.LittleEndian.{le32_at}
use Rattle.records.specs.declared.Tables.{Tables}
use Rattle.chain.specs.Layout.{FIRST, block_end}
use Rattle.chain.specs.Grammar.{IsBlock, Span}
use Rattle.chain.specs.Chain.{blocks}
use Rattle.chain.specs.declared.block.Block.{Block}
use Rattle.chain.specs.Next.{Next}
use Rattle.invariants.specs.BlockParse.{block_at, block_inside}
use Rattle.invariants.specs.ReaderSound.{span_of}
use Rattle.invariants.specs.Fit.{Fit}
use Rattle.readings.specs.Moved.{Moved}
use Rattle.readings.proofs.Moved.{moved-block, moved-size}
use Rattle.message.specs.Refusal.{status}
use Rattle.message.specs.declared.refusal.Status.{Status}
use Rattle.message.specs.HeldBy.{HeldBy}
use Rattle.message.specs.Message.{Ran, answered, reply_of, Taken, take-message}
use Rattle.demands.specs.Returned.{returned_fid}
use Rattle.demands.specs.Carrying.{carried-block}
use Rattle.demands.specs.Alone.{alone, alone-command, alone-moved, alone-ends}
use Rattle.demands.specs.OneByOne.{Sent, reply_then, send_on, own, send_all}
use Rattle.demands.specs.CallsOneByOne.{Calls, last_call, call_then, carried_out, reply_in}
use Rattle.demands.specs.StatusRead.{status_read, succeeded}
use Rattle.demands.specs.RefusedCall.{Untouched}
use Rattle.demands.specs.SpansOneByOne.{own_span, call_span_on, call_spans}

-- ---- the plain words

module _ (connection : ℕ) (s small : List ℕ) where
  -- what the message of a block gives, where `just` is the FID that the reply before it returned, and what the messages of some give one by one
  abbrev pub sent : ℕ → Span → Tables → List ℕ → Taken
  sent just b t memory = take-message connection (own_span s just b) t memory small

  abbrev pub calls : ℕ → List Span → Tables → List ℕ → Calls
  calls just bs t memory = call_spans connection s small just bs t memory

  -- the FID that it returns for the next one
  abbrev pub returned : ℕ → Span → Tables → List ℕ → ℕ
  returned just b t memory = returned_fid (reply_in (sent just b t memory))

  -- and the last of some
  unfoldable pub last_returned : ℕ → List Span → Tables → List ℕ → ℕ
  last_returned just [] t memory = just
  last_returned just (b ∷ bs) t memory = last_returned (returned just b t memory) bs (sent just b t memory).tables (sent just b t memory).memory

  -- each is carried out (number 0 and Status 0) on what the last one left
  pub data AllCarried : ℕ → List Span → Tables → List ℕ → Type 0 where
    none-sent : {just : ℕ} {t : Tables} {memory : List ℕ} → AllCarried just [] t memory
    carried-then : {just : ℕ} {b : Span} {bs : List Span} {t : Tables} {memory : List ℕ} → carried_out (sent just b t memory) ≡ true
        → AllCarried (returned just b t memory) bs (sent just b t memory).tables (sent just b t memory).memory → AllCarried just (b ∷ bs) t memory

  -- how a chain of these blocks was refused with status n, whose four bytes are those of that number, with which holder, and which tables and file memory it left
  pub record RefusedAt (just : ℕ) (spans : List Span) (t : Tables) (memory : List ℕ) (n : Status) (bytes : ℕ) (holder : HeldBy) (tables : Tables) (left : List ℕ) : Type 0 where
    -- the blocks: those before the one refused, this one, those after it
    pub front : List Span
    pub command : Span
    pub later : List Span
    pub split : spans ≡ front ++ (command ∷ later)
    -- "Commands before it in the chain stand": each was carried out, and what they left is left
    pub front-carried : AllCarried just front t memory
    pub tables-left : tables ≡ (calls just front t memory).tables
    pub memory-left : left ≡ (calls just front t memory).memory
    -- its message, sent on these, is answered with the chain's Status, in its form, and has the chain's holder
    pub number-so : (sent (last_returned just front t memory) command (calls just front t memory).tables (calls just front t memory).memory).number ≡ 0
    pub status-so : status_read (sent (last_returned just front t memory) command (calls just front t memory).tables (calls just front t memory).memory).room ≡ n
    pub bytes-so : le32_at (sent (last_returned just front t memory) command (calls just front t memory).tables (calls just front t memory).memory).room 5 ≡ bytes
    pub holder-so : (sent (last_returned just front t memory) command (calls just front t memory).tables (calls just front t memory).memory).holder ≡ holder
    -- "A command refused changes no table and no file byte"
    pub untouched : Untouched (calls just front t memory).tables (calls just front t memory).memory
        (sent (last_returned just front t memory) command (calls just front t memory).tables (calls just front t memory).memory)
    -- "those after it aren't begun": the messages sent are those up to it
    pub not-begun : calls just spans t memory ≡ calls just (front ++ (command ∷ [])) t memory

-- ---- every block's message is read as one block

-- the block at 32, where it stands in its own message
unfoldable pub at_first : Span → Span
at_first b = record { command = b.command; place = FIRST; size = b.size }

-- of every block, whatever 0xFFFF means in it
pub data AllLone (s : List ℕ) : List Block → Type 0 where
  lone-none : AllLone s []
  lone-then : {b : Block} {bs : List Block} → ((just : ℕ) → just < 65536 → (d : Block) × (blocks (own s just b) ≡ Some (d ∷ [])) × (span_of d ≡ at_first (span_of b))) → AllLone s bs → AllLone s (b ∷ bs)

pub lone-block : {s : List ℕ} {command at : ℕ} (just : ℕ) (nx : Next) → IsBlock s at command → 32 ≤ at → length s ≤ 8192 → just < 65536
    → (d : Block) × (blocks (own s just (block_at s command at nx)) ≡ Some (d ∷ [])) × (span_of d ≡ at_first (span_of (block_at s command at nx)))
unfolding block_at own span_of at_first
lone-block {s} {command} {at} just nx h from small fits =
    let i : block_end s at ≤ length s = block_inside h in
    let m : Moved s at (alone s (block_at s command at nx)) FIRST command = alone-moved (block_at s command at nx) h refl from small in
    let one = carried-block (alone s (block_at s command at nx)) (moved-block h m) (alone-command s (block_at s command at nx) (omega arith)) (alone-ends (block_at s command at nx) h refl from) just fits in
    let size : block_end (own s just (block_at s command at nx)) FIRST - FIRST ≡ block_end s at - at = ap (λ (n : ℕ). n - FIRST) one.1 ∙ moved-size m h in
    (block_at (own s just (block_at s command at nx)) command FIRST End, one.0, ap (λ (n : ℕ). record { command = command; place = FIRST; size = n }) size)

-- ---- a message that is carried out, and the calls

module _ (connection : ℕ) (s small : List ℕ) where
  -- the messages of the blocks behind it get what it left
  pub carried-calls : (just : ℕ) (b : Span) (bs : List Span) (t : Tables) (memory : List ℕ) → carried_out (sent connection s small just b t memory) ≡ true
      → ((calls connection s small just (b ∷ bs) t memory).tables
      ≡ (calls connection s small (returned connection s small just b t memory) bs (sent connection s small just b t memory).tables (sent connection s small just b t memory).memory).tables)
      × ((calls connection s small just (b ∷ bs) t memory).memory
      ≡ (calls connection s small (returned connection s small just b t memory) bs (sent connection s small just b t memory).tables (sent connection s small just b t memory).memory).memory)
  unfolding call_spans call_span_on last_call call_then
  carried-calls just b [] t memory e = (refl, refl)
  carried-calls just b (d ∷ bs) t memory e = rw e (refl, refl)

  -- with some behind it, the calls are its own and theirs
  pub carried-more : (just : ℕ) (b : Span) (front : List Span) (d : Span) (later : List Span) (t : Tables) (memory : List ℕ) → carried_out (sent connection s small just b t memory) ≡ true
      → calls connection s small just (b ∷ (front ++ (d ∷ later))) t memory
      ≡ call_then (reply_in (sent connection s small just b t memory))
      (calls connection s small (returned connection s small just b t memory) (front ++ (d ∷ later)) (sent connection s small just b t memory).tables (sent connection s small just b t memory).memory)
  unfolding call_spans call_span_on
  carried-more just b [] d later t memory e = rw e
  carried-more just b (x ∷ front) d later t memory e = rw e

  -- one that is not carried out is the last
  pub refused-last : (just : ℕ) (b : Span) (bs : List Span) (t : Tables) (memory : List ℕ) → carried_out (sent connection s small just b t memory) ≡ false
      → calls connection s small just (b ∷ bs) t memory ≡ calls connection s small just (b ∷ []) t memory
  unfolding call_spans call_span_on
  refused-last just b [] t memory e = refl
  refused-last just b (d ∷ bs) t memory e = rw e

  -- ---- the message of one of the reader's blocks, fit to be answered

  module _ (just : ℕ) (b : Block) (t : Tables) (memory : List ℕ) (fits : Fit (own s just b) t memory small) where
    abbrev pub ran : Ran
    ran = answered connection (own s just b) t memory

    abbrev pub taken : Taken
    taken = sent connection s small just (span_of b) t memory

    pub not-zero : succeeded ran.forms.status ≡ false → ran.forms.status ≡ status 0 0 → ⊥
    unfolding succeeded status
    not-zero e z = not-decided-twice (succeeded ran.forms.status) (ap succeeded z) e

  -- ---- all of them

  pub send-none : (just : ℕ) (t : Tables) (memory : List ℕ) → (send_all connection s just [] t memory).forms.status ≡ status 0 0
  unfolding send_all
  send-none just t memory = refl

  module _ (just : ℕ) (b : Block) (bs : List Block) (t : Tables) (memory : List ℕ) where
    abbrev pub gave : Ran
    gave = answered connection (own s just b) t memory

    abbrev pub whole : Sent
    whole = send_all connection s just (b ∷ bs) t memory

    abbrev pub later-just : ℕ
    later-just = returned_fid (reply_of (own s just b) gave)

    -- what the messages leave is what those behind one carried out leave, or what the one refused does
    pub send-on : succeeded gave.forms.status ≡ true
        → (whole.forms ≡ (send_all connection s later-just bs gave.tables gave.memory).forms) × (whole.holder ≡ (send_all connection s later-just bs gave.tables gave.memory).holder)
        × (whole.tables ≡ (send_all connection s later-just bs gave.tables gave.memory).tables)
        × (whole.memory ≡ (send_all connection s later-just bs gave.tables gave.memory).memory)
    unfolding send_all send_on reply_then
    send-on e = rw e (refl, refl, refl, refl)

    pub send-off : succeeded gave.forms.status ≡ false → (whole.forms ≡ gave.forms) × (whole.holder ≡ gave.holder) × (whole.tables ≡ gave.tables) × (whole.memory ≡ gave.memory)
    unfolding send_all send_on
    send-off e = rw e (refl, refl, refl, refl)
