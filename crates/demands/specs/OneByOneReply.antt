-- "Compared" (document 01): the chain's whole reply, against the replies of its blocks sent one to a message. Assumes nothing.
use Rattle.std.specs.Prelude.{◌≡◌, refl, ℕ, ◌+◌, ◌≤◌, ◌<◌, Bool, true, false, cond, length, take, drop, Some}
use Rattle.std.proofs.Common.{◌∙◌, arith, take_at}
use Rattle.std.proofs.Math.Path.{ap}
use mathlib.Core.List.{List, [], ◌∷◌, ◌++◌}
use Rattle.std.proofs.Math.ListN.{set}
use Rattle.wire.specs.LittleEndian.{byte_at}
use Rattle.records.specs.declared.Tables.{Tables}
use Rattle.message.specs.Refusal.{success}
use Rattle.message.specs.declared.refusal.Forms.{Forms}
use Rattle.message.specs.HeldBy.{HeldBy}
use Rattle.chain.specs.Layout.{header_command, FIRST, block_end}
use Rattle.chain.specs.Chain.{blocks}
use Rattle.chain.specs.declared.block.Block.{Block}
use Rattle.invariants.specs.BlockParse.{block_inside}
use Rattle.readings.specs.MovedBytes.{part_same}
use Rattle.invariants.specs.Chained.{Chained, chained-end, chained_more, read-chained}
use Rattle.message.specs.Reply.{two, four, nt_bit, status_number, reply_header}
use Rattle.message.specs.Message.{Ran, answered, reply_of}
use Rattle.invariants.specs.ReplySize.{length-header}
use Rattle.message.specs.JustOpened.{NOBODY}
use Rattle.claims.specs.StatusList.{Ended, answered-ended}
use Rattle.claims.proofs.StatusList.{ended-says}
use Rattle.demands.specs.StatusRead.{succeeded, zero-succeeded}
use Rattle.demands.specs.Alone.{length-alone-more}
use Rattle.demands.specs.Returned.{returned_fid}
use Rattle.demands.specs.OneByOne.{Sent, reply_then, send_on, own, own-header, length-own, send_all, joined, compared, one_by_one}

-- the last of the replies
unfoldable pub last_reply : List (List ℕ) → List ℕ
last_reply [] = []
last_reply (r ∷ []) = r
last_reply (r ∷ (q ∷ rs)) = last_reply (q ∷ rs)

-- "the last reply's header with the chain's Command, then a block for each message sent"
unfoldable pub compared_reply : List ℕ → Sent → List ℕ
compared_reply s sent = set (take 32 (last_reply sent.replies)) 4 (header_command s) ++ joined FIRST sent.replies

module _ (s : List ℕ) (just : ℕ) (b : Block) (long : 32 ≤ length s) where
  own-more : 32 ≤ length (own s just b)
  own-more = omega (arith, length-own s just b, length-alone-more s b long)

  -- the header's last eight bytes are the chain's
  last-bytes : take 8 (drop 24 (own s just b)) ≡ take 8 (drop 24 s)
  last-bytes =
      let n : 32 ≤ length (own s just b) = own-more in
      part_same s (own s just b) 24 24 8 (omega arith) (omega arith) (λ k h. own-header s just b long (24 + k) (omega arith) (λ e. omega arith))

  -- so the reply's header is the chain's but for the command
  header-again : (why : Forms) → set (reply_header (own s just b) why) 4 (header_command s) ≡ reply_header s why
  unfolding reply_header two four status_number nt_bit
  header-again why =
      let n : (k : ℕ) → 4 < k → k < 32 → byte_at (own s just b) k ≡ byte_at s k = λ k l h. own-header s just b long k h (λ e. omega arith) in
      rw (n 9 (omega arith) (omega arith), n 10 (omega arith) (omega arith), n 11 (omega arith) (omega arith), n 12 (omega arith) (omega arith), n 13 (omega arith) (omega arith), last-bytes)

  header_of : (r : Ran) → set (take 32 (reply_of (own s just b) r)) 4 (header_command s) ≡ reply_header s r.forms
  unfolding reply_of
  header_of r =
      ap (λ (l : List ℕ). set l 4 (header_command s))
      (take_at (reply_header (own s just b) r.forms) r.blocks 32 (length-header (own s just b) r.forms own-more))
      ∙ header-again r.forms

-- status 0 is success in both forms
status-done : {f : Forms} {h : HeldBy} → Ended f h → succeeded f.status ≡ true → f ≡ success
status-done {f} ended e = (ended-says ended).zero-old (zero-succeeded f.status e)

-- a reply before others is not the last
last_more : (t : Bool) (first reply : List ℕ) (sent : Sent) (why : Forms) (h : HeldBy) (u : Tables) (m : List ℕ)
    → last_reply (first ∷ (cond t (reply_then reply sent) (record { forms = why; holder = h; tables = u; memory = m; replies = reply ∷ [] })).replies)
    ≡ last_reply (cond t (reply_then reply sent) (record { forms = why; holder = h; tables = u; memory = m; replies = reply ∷ [] })).replies
unfolding last_reply reply_then
last_more true first reply sent why h u m = refl
last_more false first reply sent why h u m = refl

-- the last header of what is sent, where something is
abbrev LastHeader : List ℕ → Sent → Type 0
LastHeader s sent = set (take 32 (last_reply sent.replies)) 4 (header_command s) ≡ reply_header s sent.forms

send-last : (t : Bool) (s reply : List ℕ) (sent : Sent) (why : Forms) (h : HeldBy) (u : Tables) (m : List ℕ)
    → (t ≡ true → LastHeader s (reply_then reply sent)) → (t ≡ false → LastHeader s (record { forms = why; holder = h; tables = u; memory = m; replies = reply ∷ [] }))
    → LastHeader s (cond t (reply_then reply sent) (record { forms = why; holder = h; tables = u; memory = m; replies = reply ∷ [] }))
send-last true s reply sent why h u m f g = f refl
send-last false s reply sent why h u m f g = g refl

last-header : (connection : ℕ) (s : List ℕ) → 32 ≤ length s → (just : ℕ) (b : Block) (bs : List Block) (t : Tables) (memory : List ℕ)
    → LastHeader s (send_all connection s just (b ∷ bs) t memory)
unfolding send_all send_on last_reply reply_then
last-header connection s long just b [] t memory =
    send-last (succeeded (answered connection (own s just b) t memory).forms.status) s (reply_of (own s just b) (answered connection (own s just b) t memory)) _ _ _ _ _
    (λ e. header_of s just b long (answered connection (own s just b) t memory) ∙ ap (reply_header s) (status-done (answered-ended connection (own s just b) t memory) e))
    (λ e. header_of s just b long (answered connection (own s just b) t memory))
last-header connection s long just b (d ∷ bs) t memory =
    let r : Ran = answered connection (own s just b) t memory in
    let j : ℕ = returned_fid (reply_of (own s just b) r) in
    send-last (succeeded (answered connection (own s just b) t memory).forms.status) s (reply_of (own s just b) (answered connection (own s just b) t memory)) _ _ _ _ _
    (λ e. ap (λ (l : List ℕ). set (take 32 l) 4 (header_command s))
    (last_more (succeeded (answered connection (own s j d) r.tables r.memory).forms.status) (reply_of (own s just b) r) (reply_of (own s j d) (answered connection (own s j d) r.tables r.memory)) _ _ _ _ _)
    ∙ last-header connection s long j d bs r.tables r.memory)
    (λ e. header_of s just b long (answered connection (own s just b) t memory))

-- a reading's blocks: there is one, behind a header
chained-header : {s : List ℕ} {command at : ℕ} {bs : List Block} (connection : ℕ) → Chained s command at bs → 32 ≤ at → (just : ℕ) (t : Tables) (memory : List ℕ)
    → LastHeader s (send_all connection s just bs t memory)
chained-header {s} connection (chained-end {command} {at} h l) from just t memory =
    let i : block_end s at ≤ length s = block_inside h in last-header connection s (omega arith) just _ _ t memory
chained-header {s} connection (chained_more {command} {at} h l r) from just t memory =
    let i : block_end s at ≤ length s = block_inside h in last-header connection s (omega arith) just _ _ t memory

-- "Its reply is the last reply's header with the chain's Command, then a block for each message sent, a refused one's too"
pub one-by-one-reply : (connection : ℕ) (s : List ℕ) (bs : List Block) → blocks s ≡ Some bs → length s ≤ 8192 → (t : Tables) (memory : List ℕ)
    → reply_of s (answered connection s t memory) ≡ compared_reply s (send_all connection s NOBODY bs t memory)
unfolding reply_of compared_reply compared blocks
one-by-one-reply connection s bs e small t memory =
    let c : Chained s (header_command s) FIRST bs = read-chained s (header_command s) FIRST bs e in
    rw (one_by_one connection s bs e small t memory, chained-header connection c (omega arith) NOBODY t memory)
