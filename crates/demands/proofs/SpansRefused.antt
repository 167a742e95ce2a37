-- Of specs/SpansRefused.antt: what rests on its other theorems. Assumes nothing.
use Rattle.std.specs.Prelude.{◌≡◌, ℕ, ◌≤◌, true, false, length, Some, None as End}
use Rattle.std.proofs.Math.Path.{refl, sym, ap}
use Rattle.std.proofs.Common.{◌∙◌, arith}
use mathlib.Core.List.{List, [], ◌∷◌}
use Rattle.records.specs.declared.Tables.{Tables}
use Rattle.chain.specs.Layout.{block_end}
use Rattle.chain.specs.Grammar.{Span}
use Rattle.chain.specs.Chain.{blocks}
use Rattle.chain.specs.declared.block.Block.{Block}
use Rattle.chain.specs.Next.{Follow}
use Rattle.invariants.specs.BlockParse.{behind}
use Rattle.invariants.specs.ReaderSound.{span_of}
use Rattle.invariants.specs.Chained.{Chained, chained-end, chained_more}
use Rattle.invariants.specs.Fit.{Fit, fit-answered}
use Rattle.message.specs.declared.refusal.Status.{Status}
use Rattle.message.specs.HeldBy.{HeldBy}
use Rattle.message.specs.Message.{answered, reply_of, Taken, replied, take-message}
use Rattle.demands.specs.Returned.{returned_fid}
use Rattle.claims.specs.StatusList.{answered-ended}
use Rattle.claims.proofs.StatusList.{ended-says}
use Rattle.demands.specs.OneByOne.{own}
use Rattle.demands.specs.CallsOneByOne.{call_then, carried_out, reply_in, reply-read}
use Rattle.demands.specs.StatusRead.{status_read, succeeded, status_zero, status-zero}
use Rattle.demands.proofs.Calls.{status-call}
use Rattle.demands.specs.RefusedCall.{Untouched}
use Rattle.demands.proofs.RefusedCall.{alone-refused}
use Rattle.demands.proofs.SpansOneByOne.{own-span}
use Rattle.demands.specs.SpansRefused.{AllLone, RefusedAt, calls, carried-calls, carried-more, last_returned, lone-block, not-zero, ran, returned, sent, taken}
use Rattle.demands.specs.SpansRefused.{carried-then}
use Rattle.demands.specs.SpansRefused.{lone-none}
use Rattle.demands.specs.SpansRefused.{lone-then}

pub all-lone : {s : List ℕ} {command at : ℕ} {bs : List Block} → Chained s command at bs → 32 ≤ at → length s ≤ 8192 → AllLone s bs
all-lone {s} (chained-end {command} {at} h l) from small = lone-then (λ just fits. lone-block just End h from small fits) lone-none
all-lone {s} (chained_more {command} {at} {c} {a} h l r) from small =
    let g : block_end s at ≤ a = behind c a l refl in
    let i : 32 ≤ a = omega arith in
    lone-then (λ just fits. lone-block just (Follow c a) h from small fits) (all-lone r i small)

-- a message fit to be answered is carried out just if it succeeds
pub carried-succeeds : (connection : ℕ) (message : List ℕ) (t : Tables) (memory room : List ℕ) → Fit message t memory room
    → carried_out (take-message connection message t memory room) ≡ succeeded (answered connection message t memory).forms.status
unfolding carried_out replied
carried-succeeds connection message t memory room fit =
    let ran = answered connection message t memory in
    ap carried_out (fit-answered connection message t memory room fit)
    ∙ ap status_zero (reply-read message room ran)
    ∙ status-zero message ran (ended-says (answered-ended connection message t memory))

module _ (connection : ℕ) (s small : List ℕ) where
  -- a refusal behind a message that is carried out
  pub refused-later : (just : ℕ) (b : Span) (bs : List Span) (t : Tables) (memory : List ℕ) (n : Status) (bytes : ℕ) (holder : HeldBy) (tables : Tables) (left : List ℕ)
      → carried_out (sent connection s small just b t memory) ≡ true
      → RefusedAt connection s small (returned connection s small just b t memory) bs (sent connection s small just b t memory).tables (sent connection s small just b t memory).memory n bytes holder tables left
      → RefusedAt connection s small just (b ∷ bs) t memory n bytes holder tables left
  unfolding last_returned
  refused-later just b bs t memory n bytes holder tables left e q =
      let k = (carried-calls connection s small) just b q.front t memory e in
      record {
        front = b ∷ q.front;
        command = q.command;
        later = q.later;
        split = ap (λ (l : List Span). b ∷ l) q.split;
        front-carried = carried-then e q.front-carried;
        tables-left = q.tables-left ∙ sym k.0;
        memory-left = q.memory-left ∙ sym k.1;
        number-so = rw (k.0, k.1) q.number-so;
        status-so = rw (k.0, k.1) q.status-so;
        bytes-so = rw (k.0, k.1) q.bytes-so;
        holder-so = rw (k.0, k.1) q.holder-so;
        untouched = rw (k.0, k.1) q.untouched;
        not-begun =
            ap (λ (l : List Span). calls connection s small just (b ∷ l) t memory) q.split
            ∙ (carried-more connection s small) just b q.front q.command q.later t memory e
            ∙ ap (call_then (reply_in (sent connection s small just b t memory)))
            (ap (λ (l : List Span). calls connection s small (returned connection s small just b t memory) l (sent connection s small just b t memory).tables (sent connection s small just b t memory).memory) (sym q.split) ∙ q.not-begun)
            ∙ sym ((carried-more connection s small) just b q.front q.command [] t memory e);
      }

  module _ (just : ℕ) (b : Block) (t : Tables) (memory : List ℕ) (fits : Fit (own s just b) t memory small) where
    pub taken-alone : (taken connection s small just b t memory fits) ≡ take-message connection (own s just b) t memory small
    taken-alone = ap (λ (l : List ℕ). take-message connection l t memory small) (sym (own-span s just b))

    pub taken_is : (taken connection s small just b t memory fits) ≡ replied (own s just b) small (ran connection s small just b t memory fits)
    taken_is = taken-alone ∙ fit-answered connection (own s just b) t memory small fits

    pub carried-is : carried_out (taken connection s small just b t memory fits) ≡ succeeded (ran connection s small just b t memory fits).forms.status
    carried-is = ap carried_out taken-alone ∙ carried-succeeds connection (own s just b) t memory small fits

    pub tables-is : (taken connection s small just b t memory fits).tables ≡ (ran connection s small just b t memory fits).tables
    unfolding replied
    tables-is = ap (λ (x : Taken). x.tables) taken_is

    pub memory-is : (taken connection s small just b t memory fits).memory ≡ (ran connection s small just b t memory fits).memory
    unfolding replied
    memory-is = ap (λ (x : Taken). x.memory) taken_is

    pub returned-is : returned connection s small just (span_of b) t memory ≡ returned_fid (reply_of (own s just b) (ran connection s small just b t memory fits))
    returned-is = ap (λ (x : Taken). returned_fid (reply_in x)) taken_is ∙ ap returned_fid (reply-read (own s just b) small (ran connection s small just b t memory fits))

    pub number_is : (taken connection s small just b t memory fits).number ≡ 0
    unfolding replied
    number_is = ap (λ (x : Taken). x.number) taken_is

    pub holder-is : (taken connection s small just b t memory fits).holder ≡ (ran connection s small just b t memory fits).holder
    unfolding replied
    holder-is = ap (λ (x : Taken). x.holder) taken_is

    pub status-is : status_read (taken connection s small just b t memory fits).room ≡ (ran connection s small just b t memory fits).forms.status
    status-is = ap (λ (x : Taken). status_read x.room) taken-alone ∙ status-call connection (own s just b) t memory small fits

    -- refused, it changes nothing
    pub refused-same : (d : Block) → blocks (own s just b) ≡ Some (d ∷ []) → succeeded (ran connection s small just b t memory fits).forms.status ≡ false → Untouched t memory (taken connection s small just b t memory fits)
    refused-same d one e =
        rw taken-alone (alone-refused connection (own s just b) t memory small fits d one (λ z. (not-zero connection s small just b t memory fits) e (sym (status-call connection (own s just b) t memory small fits) ∙ z)))
