-- Demand 3's single claim (document 01, "Sent one to a message" and "Compared"): a chain gives what its blocks give, each sent in a message
-- of its own. Assumes nothing.
use Rattle.std.specs.Prelude.{◌≡◌, ℕ, ◌+◌, ◌≤◌, ◌<◌, Bool, true, false, cond, ◌||◌, drop, eqb, Some, None as End, None as Nobody, None as none}
use Rattle.std.proofs.Math.Path.{refl}
use Rattle.std.proofs.Common.{sym, ◌∙◌, ap, arith, drop_at}
use mathlib.Core.List.{List, [], ◌∷◌, ◌++◌, append-nil, map}
use Rattle.std.proofs.Math.ListN.{length}
use Rattle.lists.specs.Put.{put}
use Rattle.wire.specs.LittleEndian.{byte_at, le16_at}
use Rattle.records.specs.declared.Tables.{Tables}
use Rattle.chain.specs.Layout.{header_command, FIRST, block_end}
use Rattle.chain.specs.Grammar.{IsBlock, Span, Reading}
use Rattle.chain.specs.Chain.{blocks}
use Rattle.chain.specs.declared.block.Block.{Block}
use Rattle.chain.specs.Next.{Next, Follow}
use Rattle.invariants.specs.BlockParse.{body_at, block_at, block_inside, block-served, behind}
use Rattle.readings.specs.Moved.{Moved}
use Rattle.readings.proofs.Moved.{moved-block, moved-body}
use Rattle.invariants.specs.ReaderSound.{span_of}
use Rattle.readings.specs.ReaderComplete.{reader-complete}
use Rattle.invariants.specs.Chained.{Chained, chained-end, chained_more, read-chained}
use Rattle.message.specs.Caller.{caller_of}
use Rattle.message.specs.declared.refusal.Forms.{Forms}
use Rattle.message.specs.declared.caller.Caller.{Caller}
use Rattle.message.specs.Refusal.{status, success, forms_of, status_of, holder_of}
use Rattle.message.specs.HeldBy.{HeldBy}
use Rattle.message.specs.Command.{Said, locked, logged_off, read, wrote, plain, core_read, core_wrote, opened, Given, refused, done, perform}
use Rattle.message.specs.Reply.{two, four, reply_header, link_words, reply_block, refused_block, reply_size}
use Rattle.message.specs.Message.{area_of, data_of, Ran, after, link_to, after_given, run, served, run_chain, answered, reply_of}
use Rattle.message.specs.declared.refusal.Refusal.{Refusal}
use Rattle.message.specs.JustOpened.{NOBODY, opened_by, body_meant}
use Rattle.lists.specs.Truth.{fails}
use Rattle.claims.proofs.StatusList.{none-zero}
use Rattle.demands.specs.StatusRead.{succeeded, zero-succeeded}
use Rattle.demands.specs.PerformMoved.{meant-moved, perform-body, perform_bytes}
use Rattle.demands.specs.Returned.{returned_fid, reply-returned, reply-none, Small, small-said, perform-small}
use Rattle.demands.specs.Carrying.{carrying, carrying-header, length-carrying, served-true, carried_gives}
use Rattle.invariants.specs.ReplySize.{length-block, length-header}
use Rattle.demands.specs.Alone.{alone, alone-command, alone-header, length-alone, alone-moved, alone-ends}

-- ---- sending

-- what the messages sent leave: the last one's status in both forms, holder, tables and file memory, and the replies, each whole, in turn
pub record Sent : Type 0 where
  pub forms : Forms
  pub holder : HeldBy
  pub tables : Tables
  pub memory : List ℕ
  pub replies : List (List ℕ)

-- a reply before those of the messages sent after it
unfoldable pub reply_then : List ℕ → Sent → Sent
reply_then reply sent = record { forms = sent.forms; holder = sent.holder; tables = sent.tables; memory = sent.memory; replies = reply ∷ sent.replies }

-- a message and what it gave: "It stops after the first one refused", else "each next" gets "those the last one left", and the FID that its reply returned (document 02,
-- CR 6)
unfoldable pub send_on : List ℕ → Ran → (ℕ → Tables → List ℕ → Sent) → Sent
send_on message r rest =
    cond (succeeded r.forms.status) (reply_then (reply_of message r) (rest (returned_fid (reply_of message r)) r.tables r.memory))
    (record { forms = r.forms; holder = r.holder; tables = r.tables; memory = r.memory; replies = reply_of message r ∷ [] })

-- the message that a block makes of its own; "for 0xFFFF, and only then, demand 3's separate READ carries the FID returned"
unfoldable pub own : List ℕ → ℕ → Block → List ℕ
own s just b = carrying just (alone s b)

-- "each block in turn makes a message": the messages of these blocks, taken by the definition, on the same connection; `just` is what 0xFFFF means in the first
unfoldable pub send_all : ℕ → List ℕ → ℕ → List Block → Tables → List ℕ → Sent
send_all connection s just [] t memory = record { forms = success; holder = Nobody; tables = t; memory = memory; replies = [] }
send_all connection s just (b ∷ bs) t memory =
    send_on (own s just b) (answered connection (own s just b) t memory) (λ j t' m. send_all connection s j bs t' m)

-- ---- comparing

-- a READ's data offset, bytes 13 and 14 of a block of 12 words, "set by Reply blocks"
unfoldable pub placed : ℕ → List ℕ → List ℕ
placed place block = cond (eqb (byte_at block 0) 12) (put block 13 (two (place + 27))) block

-- and the AndX words, bytes 1 to 4, where a block has them: LOCKING's and LOGOFF's 2 words, WRITE's 6, READ's 12 and OPEN's 15 begin with them; a core READ's 5 and a core WRITE's 1
-- do not, and a block of 0 words has none
unfoldable pub has_link : ℕ → Bool
has_link words = eqb words 2 || (eqb words 6 || (eqb words 12 || eqb words 15))

unfoldable pub relinked : ℕ → Next → List ℕ → List ℕ
relinked place link block = cond (has_link (byte_at block 0)) (placed place (put block 1 (link_words link))) block

-- "AndX names the next block written; with none it is FF 00 00 00": the next reply's, with the command in its header
unfoldable pub link_of : List (List ℕ) → ℕ → Next
link_of [] place = none
link_of (reply ∷ replies) place = Follow (byte_at reply 4) place

-- "a block for each message sent, a refused one's too: that message's reply block", end to end from a place
unfoldable pub joined : ℕ → List (List ℕ) → List ℕ
joined place [] = []
joined place (reply ∷ replies) =
    relinked place (link_of replies (place + length (drop 32 reply))) (drop 32 reply) ++ joined (place + length (drop 32 reply)) replies

-- what the chain is compared with
unfoldable pub compared : ℕ → Sent → Ran
compared place sent = record { forms = sent.forms; holder = sent.holder; tables = sent.tables; memory = sent.memory; blocks = joined place sent.replies }

-- ---- one step

-- no refusal has status 0
pub refusal-fails : (why : Refusal) → succeeded (status_of why) ≡ false
refusal-fails why = fails (succeeded (status_of why)) (λ e. (none-zero why).0 (zero-succeeded (status_of why) e))

-- a reply block of a message of its own, set for its place in the chain's reply
relinked-block : (said : Said) (place p : ℕ) (link : Next) → relinked place link (reply_block said p none) ≡ reply_block said place link
unfolding relinked has_link placed reply_block link_words put two four
relinked-block locked place p none = refl
relinked-block locked place p (Some follower) = refl
relinked-block logged_off place p none = refl
relinked-block logged_off place p (Some follower) = refl
relinked-block (read bytes) place p none = refl
relinked-block (read bytes) place p (Some follower) = refl
relinked-block (wrote count) place p none = refl
relinked-block (wrote count) place p (Some follower) = refl
relinked-block plain place p link = refl
relinked-block (core_read bytes) place p link = refl
relinked-block (core_wrote count) place p link = refl
relinked-block (opened fid size access results) place p none = refl
relinked-block (opened fid size access results) place p (Some follower) = refl

relinked-refused : (place : ℕ) (link : Next) → relinked place link refused_block ≡ refused_block
unfolding relinked has_link refused_block
relinked-refused place link = refl

-- the block of a reply
reply-block : (message : List ℕ) (r : Ran) → 32 ≤ length message → drop 32 (reply_of message r) ≡ r.blocks
unfolding reply_of
reply-block message r h = drop_at (reply_header message r.forms) r.blocks 32 (length-header message r.forms h)

module _ (message : List ℕ) (long : 32 ≤ length message) where
  -- one reply, joined with the rest
  joined-one : (place : ℕ) (r : Ran) (replies : List (List ℕ)) (block : List ℕ) → r.blocks ≡ block
      → joined place (reply_of message r ∷ replies) ≡ relinked place (link_of replies (place + length block)) block ++ joined (place + length block) replies
  unfolding joined
  joined-one place r replies block e = rw (reply-block message r long, e)

  -- a command given in a message of its own, and in the chain
  step : (g : Given) → Small g → (bs : List Block) (place : ℕ) (t : Tables) (memory : List ℕ) (rest : ℕ → Tables → List ℕ → Sent) (chain only : ℕ → ℕ → Tables → List ℕ → Ran)
      → ((j p : ℕ) (u : Tables) (m : List ℕ) → only j p u m ≡ record { forms = success; holder = Nobody; tables = u; memory = m; blocks = [] })
      → ((j p : ℕ) (u : Tables) (m : List ℕ) → link_of (rest j u m).replies p ≡ link_to bs p)
      → ((j p : ℕ) (u : Tables) (m : List ℕ) → j < 65536 → chain j p u m ≡ compared p (rest j u m))
      → after_given g bs place t memory chain ≡ compared place (send_on message (after_given g [] FIRST t memory only) rest)
  unfolding after_given after send_on compared refused_block link_to status succeeded reply_then joined
  step (refused why) small bs place t memory rest chain only ends links same =
      let e : joined place (reply_of message (record { forms = forms_of why; holder = holder_of why; tables = t; memory = memory; blocks = refused_block }) ∷ []) ≡ refused_block =
      joined-one place (record { forms = forms_of why; holder = holder_of why; tables = t; memory = memory; blocks = refused_block }) [] refused_block refl
      ∙ rw (relinked-refused place (link_of [] (place + length refused_block))) refl in
      rw (refusal-fails why, e)
  step (done u m said) small bs place t memory rest chain only ends links same =
      let b : reply_block said FIRST none ++ [] ≡ reply_block said FIRST none = append-nil (reply_block said FIRST none) in
      let n : length (reply_block said FIRST none) ≡ reply_size said = length-block said FIRST none in
      let j : returned_fid (reply_of message (record { forms = success; holder = Nobody; tables = u; memory = m; blocks = reply_block said FIRST none ++ [] })) ≡ opened_by said =
      reply-returned message (record { forms = success; holder = Nobody; tables = u; memory = m; blocks = reply_block said FIRST none ++ [] }) said FIRST long refl (small-said small) in
      let e : joined place (reply_of message (record { forms = success; holder = Nobody; tables = u; memory = m; blocks = reply_block said FIRST none ++ [] }) ∷ (rest (opened_by said) u m).replies)
      ≡ reply_block said place (link_to bs (place + reply_size said)) ++ joined (place + reply_size said) (rest (opened_by said) u m).replies =
      joined-one place (record { forms = success; holder = Nobody; tables = u; memory = m; blocks = reply_block said FIRST none ++ [] }) (rest (opened_by said) u m).replies (reply_block said FIRST none) b
      ∙ rw (n, links (opened_by said) (place + reply_size said) u m, relinked-block said place FIRST (link_to bs (place + reply_size said))) in
      rw (ends (opened_by said) (FIRST + reply_size said) u m, j, same (opened_by said) (place + reply_size said) u m (small-said small), e)

-- ---- a block in a message of its own

-- the same caller
pub alone-caller : (connection : ℕ) (s : List ℕ) (b : Block) → 32 ≤ length s → caller_of connection (alone s b) ≡ caller_of connection s
unfolding caller_of le16_at
alone-caller connection s b long =
    let n : (k : ℕ) → 12 ≤ k → k < 32 → byte_at (alone s b) k ≡ byte_at s k = λ k l h. alone-header s b long k h (λ e. omega arith) in
    rw (n 28 (omega arith) (omega arith), n 29 (omega arith) (omega arith), n 24 (omega arith) (omega arith), n 25 (omega arith) (omega arith), n 12 (omega arith) (omega arith), n 13 (omega arith) (omega arith), n 26 (omega arith) (omega arith), n 27 (omega arith) (omega arith))

-- nothing follows
only-ends : (c : Caller) (s : List ℕ) (j p : ℕ) (u : Tables) (m : List ℕ) → run c s j [] p u m ≡ record { forms = success; holder = Nobody; tables = u; memory = m; blocks = [] }
unfolding run
only-ends c s j p u m = refl

-- a block's own message gives what the block gives in the chain
alone-answered : {s : List ℕ} {command at : ℕ} (connection just : ℕ) (nx : Next) (t : Tables) (memory : List ℕ) → IsBlock s at command → 32 ≤ at → length s ≤ 8192 → just < 65536
    → answered connection (own s just (block_at s command at nx)) t memory
    ≡ after_given (perform (caller_of connection s) t memory (body_meant just (body_at s command at)) (area_of s (block_at s command at nx)) (data_of s (block_at s command at nx))) [] FIRST t memory
    (λ j p u m. run (caller_of connection s) (own s just (block_at s command at nx)) j [] p u m)
unfolding own area_of data_of block_at
alone-answered {s} {command} {at} connection just nx t memory h from small fits =
    let i : block_end s at ≤ length s = block_inside h in
    let long : 32 ≤ length s = omega arith in
    let m : Moved s at (alone s (block_at s command at nx)) FIRST command = alone-moved (block_at s command at nx) h refl from small in
    carried_gives (alone s (block_at s command at nx)) (moved-block h m) (alone-command s (block_at s command at nx) long) (alone-ends (block_at s command at nx) h refl from) just fits connection t memory
    ∙ rw (
      alone-caller connection s (block_at s command at nx) long,
      moved-body h m,
      meant-moved just at FIRST (body_at s command at),
      perform-body (caller_of connection s) t memory at FIRST (body_meant just (body_at s command at)),
      perform_bytes (caller_of connection s) t memory h m just,
    )

-- ---- the whole list of blocks

-- the head of the replies is the first message's
send-head : (t : Bool) (reply : List ℕ) (sent : Sent) (why : Forms) (h : HeldBy) (u : Tables) (m : List ℕ) (p : ℕ)
    → link_of (cond t (reply_then reply sent) (record { forms = why; holder = h; tables = u; memory = m; replies = reply ∷ [] })).replies p ≡ Follow (byte_at reply 4) p
unfolding link_of reply_then
send-head true reply sent why h u m p = refl
send-head false reply sent why h u m p = refl

-- a reply has its message's command
reply-command : (message : List ℕ) (r : Ran) → byte_at (reply_of message r) 4 ≡ header_command message
unfolding reply_of reply_header
reply-command message r = refl

-- a block's own message: its length, its header, its command
pub own-header : (s : List ℕ) (just : ℕ) (b : Block) → 32 ≤ length s → (k : ℕ) → k < 32 → (k ≡ 4 → ⊥) → byte_at (own s just b) k ≡ byte_at s k
unfolding own
own-header s just b long k h n = carrying-header just (alone s b) k (omega arith) ∙ alone-header s b long k h n

pub own-command : (s : List ℕ) (just : ℕ) (b : Block) → 32 ≤ length s → header_command (own s just b) ≡ b.command
unfolding own
own-command s just b long = carrying-header just (alone s b) 4 (omega arith) ∙ alone-command s b long

pub length-own : (s : List ℕ) (just : ℕ) (b : Block) → length (own s just b) ≡ length (alone s b)
unfolding own
length-own s just b = length-carrying just (alone s b)

-- the next block written in the chain is the next message's
links-same : (connection : ℕ) (s : List ℕ) → 32 ≤ length s → (bs : List Block) (j p : ℕ) (t : Tables) (memory : List ℕ)
    → link_of (send_all connection s j bs t memory).replies p ≡ link_to bs p
unfolding send_all link_to send_on link_of
links-same connection s long [] j p t memory = refl
links-same connection s long (b ∷ bs) j p t memory =
    send-head (succeeded (answered connection (own s j b) t memory).forms.status) (reply_of (own s j b) (answered connection (own s j b) t memory)) _ _ _ _ _ p
    ∙ ap (λ (c : ℕ). Follow c p) (reply-command (own s j b) (answered connection (own s j b) t memory) ∙ own-command s j b long)

-- the message of a block of the table has a header
own-long : {s : List ℕ} {command at : ℕ} (just : ℕ) (nx : Next) → IsBlock s at command → 32 ≤ at → 32 ≤ length (own s just (block_at s command at nx))
unfolding block_at
own-long {s} {command} {at} just nx h from =
    let i : block_end s at ≤ length s = block_inside h in
    let long : 32 ≤ length s = omega arith in
    omega (arith, length-own s just (block_at s command at nx), length-alone s (block_at s command at nx) long (omega arith))

-- the FID that its reply returns fits in 16 bits
given-returned : (message : List ℕ) → 32 ≤ length message → (g : Given) → Small g → (t : Tables) (memory : List ℕ) (only : ℕ → ℕ → Tables → List ℕ → Ran)
    → ((j p : ℕ) (u : Tables) (m : List ℕ) → only j p u m ≡ record { forms = success; holder = Nobody; tables = u; memory = m; blocks = [] })
    → returned_fid (reply_of message (after_given g [] FIRST t memory only)) < 65536
unfolding after_given after link_to
given-returned message long (refused why) small t memory only ends =
    rw (reply-none message (record { forms = forms_of why; holder = holder_of why; tables = t; memory = memory; blocks = refused_block }) long refl) (omega arith)
given-returned message long (done u m said) small t memory only ends =
    rw (
      ends (opened_by said) (FIRST + reply_size said) u m,
      reply-returned message (record { forms = success; holder = Nobody; tables = u; memory = m; blocks = reply_block said FIRST none ++ [] }) said FIRST long refl (small-said small),
    )
    (small-said small)

pub own-returned : {s : List ℕ} {command at : ℕ} (connection just : ℕ) (nx : Next) (t : Tables) (memory : List ℕ) → IsBlock s at command → 32 ≤ at → length s ≤ 8192 → just < 65536
    → returned_fid (reply_of (own s just (block_at s command at nx)) (answered connection (own s just (block_at s command at nx)) t memory)) < 65536
own-returned {s} {command} {at} connection just nx t memory h from small fits =
    rw (alone-answered connection just nx t memory h from small fits)
    (given-returned (own s just (block_at s command at nx)) (own-long just nx h from) _ (perform-small (caller_of connection s) t memory (body_meant just (body_at s command at)) _ _) t memory
    (λ j p u m. run (caller_of connection s) (own s just (block_at s command at nx)) j [] p u m) (only-ends (caller_of connection s) (own s just (block_at s command at nx))))

-- with no blocks left, nothing is sent
nothing-sent : (j p : ℕ) (u : Tables) (m : List ℕ) → j < 65536
    → ◌≡◌ {A = Ran} (record { forms = success; holder = Nobody; tables = u; memory = m; blocks = [] }) (compared p (record { forms = success; holder = Nobody; tables = u; memory = m; replies = [] }))
unfolding compared joined
nothing-sent j p u m h = refl

-- from any place of the reading, and with the replies standing from any place on
pub one-by-one-from : {s : List ℕ} {command at : ℕ} {bs : List Block} (connection : ℕ) → Chained s command at bs → 32 ≤ at → length s ≤ 8192
    → (just place : ℕ) (t : Tables) (memory : List ℕ) → just < 65536
    → run (caller_of connection s) s just bs place t memory ≡ compared place (send_all connection s just bs t memory)
unfolding run send_all block_at
one-by-one-from {s} connection (chained-end {command} {at} h l) from small just place t memory fits =
    let i : block_end s at ≤ length s = block_inside h in
    step (own s just (block_at s command at End)) (own-long just End h from) _ (perform-small (caller_of connection s) t memory (body_meant just (body_at s command at)) _ _) [] place t memory
    (λ j u m. send_all connection s j [] u m) (λ j p u m. run (caller_of connection s) s j [] p u m)
    (λ j p u m. run (caller_of connection s) (own s just (block_at s command at End)) j [] p u m) (only-ends (caller_of connection s) (own s just (block_at s command at End)))
    (λ j p u m. links-same connection s (omega arith) [] j p u m) nothing-sent
    ∙ ap (λ (r : Ran). compared place (send_on (own s just (block_at s command at End)) r (λ j u m. send_all connection s j [] u m))) (sym (alone-answered connection just End t memory h from small fits))
one-by-one-from {s} connection (chained_more {command} {at} {c} {a} {rest} h l r) from small just place t memory fits =
    let i : block_end s at ≤ length s = block_inside h in
    let g : block_end s at ≤ a = behind c a l refl in
    step (own s just (block_at s command at (Follow c a))) (own-long just (Follow c a) h from) _ (perform-small (caller_of connection s) t memory (body_meant just (body_at s command at)) _ _) rest place t memory
    (λ j u m. send_all connection s j rest u m)
    (λ j p u m. run (caller_of connection s) s j rest p u m)
    (λ j p u m. run (caller_of connection s) (own s just (block_at s command at (Follow c a))) j [] p u m)
    (only-ends (caller_of connection s) (own s just (block_at s command at (Follow c a))))
    (λ j p u m. links-same connection s (omega arith) rest j p u m) (λ j p u m k. one-by-one-from connection r (omega arith) small j p u m k)
    ∙ ap (λ (r : Ran). compared place (send_on (own s just (block_at s command at (Follow c a))) r (λ j u m. send_all connection s j rest u m)))
    (sym (alone-answered connection just (Follow c a) t memory h from small fits))

-- the header's command of a sentence is served
pub chained-served : {s : List ℕ} {command at : ℕ} {bs : List Block} → Chained s command at bs → served command ≡ true
chained-served (chained-end h l) = served-true (block-served h)
chained-served (chained_more h l r) = served-true (block-served h)

-- "This is a single claim about the whole list of blocks": the chain's status, holder, tables, file memory and reply blocks are what its blocks give, each
-- sent in a message of its own
pub one_by_one : (connection : ℕ) (s : List ℕ) (bs : List Block) → blocks s ≡ Some bs → length s ≤ 8192 → (t : Tables) (memory : List ℕ)
    → answered connection s t memory ≡ compared FIRST (send_all connection s NOBODY bs t memory)
unfolding answered run_chain blocks
one_by_one connection s bs e small t memory =
    let c : Chained s (header_command s) FIRST bs = read-chained s (header_command s) FIRST bs e in
    rw (chained-served c, e) (one-by-one-from connection c (omega arith) small NOBODY FIRST t memory (omega arith))

-- the same of any reading: its blocks are those sent
pub one-by-one-reading : (connection : ℕ) (s : List ℕ) {spans : List Span} → Reading s spans → length s ≤ 8192 → (t : Tables) (memory : List ℕ)
    → (bs : List Block) × (map span_of bs ≡ spans) × (answered connection s t memory ≡ compared FIRST (send_all connection s NOBODY bs t memory))
one-by-one-reading connection s r small t memory =
    let a = reader-complete r in (a.0, a.2, one_by_one connection s a.0 a.1 small t memory)
