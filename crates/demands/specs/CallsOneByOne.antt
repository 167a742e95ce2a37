-- Demand 3's single claim, said of the calls themselves (document 01, "Sent one to a message" and "Compared"): the chain's call gives the number,
-- holder, tables, file memory and reply that the calls of its blocks' own messages give. Assumes nothing.
use Rattle.std.specs.Prelude.{◌≡◌, refl, ℕ, Bool, true, false, cond, ◌&&◌, List, [], ◌∷◌, ◌++◌, length, take, set, eqb, None as Nobody}
use Rattle.std.proofs.Common.{sym, ◌∙◌, ap}
use Rattle.std.proofs.lemmas.Bool.{false≢true}
use Rattle.std.proofs.Math.Seq.{take-append_seam}
use Rattle.lists.specs.Put.{put}
use Rattle.records.specs.declared.Tables.{Tables}
use Rattle.chain.specs.Layout.{header_command, FIRST}
use Rattle.chain.specs.declared.block.Block.{Block}
use Rattle.message.specs.declared.refusal.Forms.{Forms}
use Rattle.message.specs.Refusal.{status, success}
use Rattle.message.specs.HeldBy.{HeldBy}
use Rattle.message.specs.Message.{Ran, answered, reply_of, Taken, replied, take-message}
use Rattle.demands.specs.StatusRead.{status_zero, succeeded}
use Rattle.demands.specs.Returned.{returned_fid}
use Rattle.demands.specs.HolderBeside.{nobody-exact, answered-beside}
use Rattle.demands.specs.OneByOne.{Sent, reply_then, own, joined}
use Rattle.demands.specs.OneByOneReply.{last_reply}

-- what the calls give: the last one's number, holder, tables and file memory, and the replies in turn
pub record Calls : Type 0 where
  pub number : ℕ
  pub holder : HeldBy
  pub tables : Tables
  pub memory : List ℕ
  pub replies : List (List ℕ)

-- the reply that a call wrote, of its stated length
unfoldable pub reply_in : Taken → List ℕ
reply_in r = take r.length r.room

unfoldable pub last_call : Taken → Calls
last_call r = record { number = r.number; holder = r.holder; tables = r.tables; memory = r.memory; replies = reply_in r ∷ [] }

unfoldable pub call_then : List ℕ → Calls → Calls
call_then reply calls = record { number = calls.number; holder = calls.holder; tables = calls.tables; memory = calls.memory; replies = reply ∷ calls.replies }

-- a message that was carried out: number 0 ("done; for a message, a reply of stated length was written") and Status 0
unfoldable pub carried_out : Taken → Bool
carried_out r = eqb r.number 0 && status_zero (reply_in r)

-- "It stops after the first one refused (Status not 0) or the last block." The next gets the FID that the reply returned (document 02, CR 6)
unfoldable pub call_on : Taken → List Block → (ℕ → Tables → List ℕ → Calls) → Calls
call_on r [] rest = last_call r
call_on r (b ∷ bs) rest = cond (carried_out r) (call_then (reply_in r) (rest (returned_fid (reply_in r)) r.tables r.memory)) (last_call r)

-- "each block in turn makes a message", taken by the definition: "The first gets the sound tables and files that the chain got, each next those the last one left"
unfoldable pub call_all : ℕ → List ℕ → List ℕ → ℕ → List Block → Tables → List ℕ → Calls
call_all connection s room just [] t memory = record { number = 0; holder = Nobody; tables = t; memory = memory; replies = [] }
call_all connection s room just (b ∷ bs) t memory =
    call_on (take-message connection (own s just b) t memory room) bs (λ j t' m. call_all connection s room j bs t' m)

-- "the last reply's header with the chain's Command, then a block for each message sent"
unfoldable pub chain_reply : List ℕ → List (List ℕ) → List ℕ
chain_reply s replies = set (take 32 (last_reply replies)) 4 (header_command s) ++ joined FIRST replies

-- "Compared: the chain's number, tables and file memory, every byte, are the last message's", so is the holder, and the reply is written into the
-- chain's room
unfoldable pub compared_call : List ℕ → List ℕ → Calls → Taken
compared_call s room calls =
    record {
      number = calls.number;
      length = length (chain_reply s calls.replies);
      holder = calls.holder;
      tables = calls.tables;
      memory = calls.memory;
      room = put room 0 (chain_reply s calls.replies);
    }

-- ---- a reply and its status

-- a message that succeeds has no holder
pub answered-nobody : (connection : ℕ) (s : List ℕ) (t : Tables) (memory : List ℕ)
    → succeeded (answered connection s t memory).forms.status ≡ true → (answered connection s t memory).holder ≡ Nobody
unfolding succeeded status
answered-nobody connection s t memory e =
    (nobody-exact (answered-beside connection s t memory)).1 (λ (q : (answered connection s t memory).forms.status ≡ status 1 33). false≢true (sym (ap succeeded q) ∙ e))

-- the reply stands in the room
pub reply-read : (message room : List ℕ) (r : Ran) → reply_in (replied message room r) ≡ reply_of message r
unfolding reply_in replied put
reply-read message room r = take-append_seam (reply_of message r) _

-- ---- the calls are the messages sent

unfoldable pub calls_of : Sent → Calls
calls_of sent = record { number = 0; holder = sent.holder; tables = sent.tables; memory = sent.memory; replies = sent.replies }

pub last-sent : (b : Bool) (reply : List ℕ) (h : HeldBy) (u : Tables) (m : List ℕ) (why : Forms) → (b ≡ true → h ≡ Nobody)
    → ◌≡◌ {A = Calls} (record { number = 0; holder = h; tables = u; memory = m; replies = reply ∷ [] })
    (calls_of (cond b (reply_then reply (record { forms = success; holder = Nobody; tables = u; memory = m; replies = [] }))
    (record { forms = why; holder = h; tables = u; memory = m; replies = reply ∷ [] })))
unfolding calls_of reply_then
last-sent true reply h u m why nobody = rw (nobody refl)
last-sent false reply h u m why nobody = refl

pub more-sent : (b : Bool) (reply : List ℕ) (calls : Calls) (sent : Sent) (h : HeldBy) (u : Tables) (m : List ℕ) (why : Forms) → calls ≡ calls_of sent
    → cond b (call_then reply calls) (record { number = 0; holder = h; tables = u; memory = m; replies = reply ∷ [] })
    ≡ calls_of (cond b (reply_then reply sent) (record { forms = why; holder = h; tables = u; memory = m; replies = reply ∷ [] }))
unfolding calls_of reply_then call_then
more-sent true reply calls sent h u m why e = rw e
more-sent false reply calls sent h u m why e = refl

-- with no block, none is sent
pub nothing-called : (t : Tables) (memory : List ℕ)
    → ◌≡◌ {A = Calls} (record { number = 0; holder = Nobody; tables = t; memory = memory; replies = [] })
    (calls_of (record { forms = success; holder = Nobody; tables = t; memory = memory; replies = [] }))
unfolding calls_of
nothing-called t memory = refl
