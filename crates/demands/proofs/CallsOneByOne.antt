-- Of specs/CallsOneByOne.antt: what rests on its other theorems. Assumes nothing.
use Rattle.std.specs.Prelude.{◌≡◌, ℕ, ◌≤◌, List, [], ◌∷◌, length, Some}
use Rattle.std.proofs.Common.{◌∙◌, ap, arith}
use Rattle.records.specs.declared.Tables.{Tables}
use Rattle.chain.specs.Chain.{blocks}
use Rattle.chain.specs.declared.block.Block.{Block}
use Rattle.message.specs.Message.{answered, reply_of, Taken, replied, take-message}
use Rattle.message.specs.JustOpened.{NOBODY}
use Rattle.claims.specs.StatusList.{answered-ended}
use Rattle.claims.proofs.StatusList.{ended-says}
use Rattle.demands.specs.StatusRead.{succeeded, status-zero}
use Rattle.demands.specs.Returned.{returned_fid}
use Rattle.demands.specs.OneByOne.{send_on, own, send_all, compared, one_by_one}
use Rattle.demands.specs.OneByOneReply.{compared_reply, one-by-one-reply}
use Rattle.invariants.specs.Sound.{Good}
use Rattle.invariants.specs.Fit.{Fit, fit-answered}
use Rattle.demands.specs.Taken.{not-long, AllFit, none_left, next_fits, all_fit}
use Rattle.demands.specs.CallsOneByOne.{answered-nobody, call_all, call_on, calls_of, carried_out, chain_reply, compared_call, last-sent, last_call, more-sent, nothing-called, reply-read}

-- one call, and the rest
pub step : (connection : ℕ) (s room : List ℕ) (just : ℕ) (b : Block) (bs : List Block) (t : Tables) (memory : List ℕ)
    → (let r = answered connection (own s just b) t memory in
    call_all connection s room (returned_fid (reply_of (own s just b) r)) bs r.tables r.memory ≡ calls_of (send_all connection s (returned_fid (reply_of (own s just b) r)) bs r.tables r.memory))
    → call_on (replied (own s just b) room (answered connection (own s just b) t memory)) bs (λ j u m. call_all connection s room j bs u m)
    ≡ calls_of (send_on (own s just b) (answered connection (own s just b) t memory) (λ j u m. send_all connection s j bs u m))
unfolding call_on carried_out last_call send_on send_all replied
step connection s room just b [] t memory e =
    rw (reply-read (own s just b) room (answered connection (own s just b) t memory))
    (last-sent (succeeded (answered connection (own s just b) t memory).forms.status) (reply_of (own s just b) (answered connection (own s just b) t memory)) _ _ _ _
    (answered-nobody connection (own s just b) t memory))
step connection s room just b (d ∷ bs) t memory e =
    rw (
      reply-read (own s just b) room (answered connection (own s just b) t memory),
      status-zero (own s just b) (answered connection (own s just b) t memory) (ended-says (answered-ended connection (own s just b) t memory)),
    )
    (more-sent (succeeded (answered connection (own s just b) t memory).forms.status) (reply_of (own s just b) (answered connection (own s just b) t memory)) _ _ _ _ _ _ e)

-- all of them
pub calls-sent : (connection : ℕ) (s room : List ℕ) → 12292 ≤ length room → {just : ℕ} {bs : List Block} {t : Tables} {memory : List ℕ} → AllFit connection s just bs t memory
    → call_all connection s room just bs t memory ≡ calls_of (send_all connection s just bs t memory)
unfolding call_all send_all
calls-sent connection s room enough {t = t} {memory = memory} none_left = nothing-called t memory
calls-sent connection s room enough {t = t} {memory = memory} (next_fits {just} {b} {bs} low fit more) =
    ap (λ (r : Taken). call_on r bs (λ j u m. call_all connection s room j bs u m)) (fit-answered connection (own s just b) t memory room (fit room enough))
    ∙ step connection s room just b bs t memory (calls-sent connection s room enough more)

-- "This is a single claim about the whole list of blocks": of a sentence fit to be answered, the call gives what the calls of its blocks give, each sent
-- in a message of its own with reply room 12,292
pub calls-one-by-one : (connection : ℕ) (s : List ℕ) (bs : List Block) → blocks s ≡ Some bs → (t : Tables) (memory room small : List ℕ) → Good t → Fit s t memory room
    → length small ≡ 12292 → take-message connection s t memory room ≡ compared_call s room (call_all connection s small NOBODY bs t memory)
unfolding compared_call replied calls_of chain_reply compared_reply compared
calls-one-by-one connection s bs e t memory room small g fit n =
    let c : call_all connection s small NOBODY bs t memory ≡ calls_of (send_all connection s NOBODY bs t memory) =
    calls-sent connection s small (omega arith) (all_fit connection s bs e fit.not-dropped t memory g fit.memory-whole) in
    let h : length s ≤ 8192 = not-long s fit.not-dropped in
    fit-answered connection s t memory room fit
    ∙ rw (one-by-one-reply connection s bs e h t memory, one_by_one connection s bs e h t memory, c)
