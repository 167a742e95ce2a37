-- A refusal in a chain, said of the call (document 01, "Refusals on the wire"): "A command refused changes no table and no file byte, its own unlocks
-- included. Commands before it in the chain stand; those after it aren't begun." Assumes nothing.
use Rattle.std.specs.Prelude.{◌≡◌, ℕ, ◌+◌, ◌≤◌, List, [], ◌∷◌, ◌++◌, drop, Some}
use Rattle.std.proofs.Math.Path.{refl, ap}
use Rattle.std.proofs.Common.{◌∙◌, arith, append_assoc, length-append}
use Rattle.std.proofs.Math.ListN.{length, take}
use Rattle.std.proofs.Math.Seq.{drop-append-add}
use Rattle.std.proofs.lemmas.List.{drop-append-le}
use Rattle.lists.specs.Put.{put}
use Rattle.records.specs.declared.Tables.{Tables}
use Rattle.chain.specs.Layout.{FIRST}
use Rattle.chain.specs.Chain.{blocks}
use Rattle.chain.specs.declared.block.Block.{Block}
use Rattle.message.specs.Caller.{caller_of}
use Rattle.message.specs.declared.caller.Caller.{Caller}
use Rattle.message.specs.Refusal.{status, forms_of, status_of, holder_of}
use Rattle.message.specs.declared.refusal.Refusal.{Refusal}
use Rattle.message.specs.Command.{Said, Given, refused, done, perform}
use Rattle.message.specs.JustOpened.{NOBODY, opened_by, body_meant}
use Rattle.message.specs.Reply.{reply_header, reply_block, refused_block, reply_size}
use Rattle.message.specs.Message.{area_of, data_of, Ran, after, link_to, after_given, run, answered, reply_of, Taken, replied, take-message}
use Rattle.invariants.specs.ReplySize.{length-block, length-header}
use Rattle.invariants.specs.Fit.{Fit, fit-answered}
use Rattle.demands.specs.Taken.{not_short}
use Rattle.demands.specs.StatusRead.{status_read}
use Rattle.demands.specs.Calls.{sentence-answered, length-call}
use Rattle.demands.specs.LoneCall.{given-least}

-- what one command gives on tables and file memory, where FID 0xFFFF means `just` (document 02, CR 6)
abbrev pub gives : Caller → List ℕ → ℕ → Block → Tables → List ℕ → Given
gives c s just b t memory = perform c t memory (body_meant just b.body) (area_of s b) (data_of s b)

-- what it means behind a command, and behind commands: the FID that the last of them opened, if that is an OPEN_ANDX; where there is none, what it meant before
unfoldable pub after_one : Given → ℕ → (ℕ → Tables → List ℕ → ℕ) → ℕ
after_one (refused why) just rest = just
after_one (done t memory said) just rest = rest (opened_by said) t memory

unfoldable pub meant_after : Caller → List ℕ → ℕ → List Block → Tables → List ℕ → ℕ
meant_after c s just [] t memory = just
meant_after c s just (b ∷ bs) t memory = after_one (gives c s just b t memory) just (λ j u m. meant_after c s j bs u m)

-- how commands that are refused ended: those in front were carried out, the next was refused on what they left, and what they left stands; no later one
-- has a reply block
pub record Stopped (c : Caller) (s : List ℕ) (just : ℕ) (bs : List Block) (place : ℕ) (t : Tables) (memory : List ℕ) (last : Ran) : Type 0 where
  pub front : List Block
  pub command : Block
  pub later : List Block
  pub split : bs ≡ front ++ (command ∷ later)
  pub front-done : (run c s just front place t memory).forms.status ≡ status 0 0
  pub why : Refusal
  pub command-refused : gives c s (meant_after c s just front t memory) command (run c s just front place t memory).tables (run c s just front place t memory).memory ≡ refused why
  pub status-left : last.forms.status ≡ status_of why
  pub holder-left : last.holder ≡ holder_of why
  pub tables-left : last.tables ≡ (run c s just front place t memory).tables
  pub memory-left : last.memory ≡ (run c s just front place t memory).memory
  pub blocks-left : length last.blocks ≡ length (run c s just front place t memory).blocks + 3
  pub block-behind : drop (length (run c s just front place t memory).blocks) last.blocks ≡ refused_block

module _ (c : Caller) (s : List ℕ) (just : ℕ) (b : Block) (bs : List Block) (place : ℕ) (t : Tables) (memory : List ℕ) where
  -- a command that is done, and those after it
  pub step-done : (u : Tables) (m : List ℕ) (said : Said) → gives c s just b t memory ≡ done u m said
      → run c s just (b ∷ bs) place t memory ≡ after (reply_block said place (link_to bs (place + reply_size said))) (run c s (opened_by said) bs (place + reply_size said) u m)
  unfolding run after_given
  step-done u m said e = rw e

  -- one that is refused
  pub step-refused : (why : Refusal) → gives c s just b t memory ≡ refused why
      → run c s just (b ∷ bs) place t memory ≡ record { forms = forms_of why; holder = holder_of why; tables = t; memory = memory; blocks = refused_block }
  unfolding run after_given
  step-refused why e = rw e

  -- what 0xFFFF means behind it
  pub meant-done : (u : Tables) (m : List ℕ) (said : Said) → gives c s just b t memory ≡ done u m said → meant_after c s just (b ∷ bs) t memory ≡ meant_after c s (opened_by said) bs u m
  unfolding meant_after after_one
  meant-done u m said e = rw e

-- how many bytes stand in front
pub step-length : (c : Caller) (s : List ℕ) (just : ℕ) (b : Block) (bs : List Block) (place : ℕ) (t : Tables) (memory : List ℕ) (u : Tables) (m : List ℕ) (said : Said) → gives c s just b t memory ≡ done u m said
    → length (run c s just (b ∷ bs) place t memory).blocks ≡ reply_size said + length (run c s (opened_by said) bs (place + reply_size said) u m).blocks
unfolding after
step-length c s just b bs place t memory u m said e =
    ap (λ (r : Ran). length r.blocks) (step-done c s just b bs place t memory u m said e)
    ∙ length-append (reply_block said place (link_to bs (place + reply_size said))) (run c s (opened_by said) bs (place + reply_size said) u m).blocks
    ∙ ap (λ (n : ℕ). n + length (run c s (opened_by said) bs (place + reply_size said) u m).blocks) (length-block said place (link_to bs (place + reply_size said)))

-- what stands behind a block stands behind it with others in front
pub behind_more : (block rest : List ℕ) (size k n : ℕ) → length block ≡ size → n ≡ size + k → drop n (block ++ rest) ≡ drop k rest
behind_more block rest size k n e f =
    let g : n ≡ length block + k = omega arith in
    rw g (drop-append-add block rest k)

-- what the call gave, where a command was refused
pub record RefusedCall (c : Caller) (s : List ℕ) (bs : List Block) (t : Tables) (memory : List ℕ) (call : Taken) : Type 0 where
  -- the commands: those before it, the one refused, those after it
  pub front : List Block
  pub command : Block
  pub later : List Block
  pub split : bs ≡ front ++ (command ∷ later)
  -- "Commands before it in the chain stand": carried out alone they are done
  pub front-done : (run c s NOBODY front FIRST t memory).forms.status ≡ status 0 0
  -- it is refused on what they left
  pub why : Refusal
  pub command-refused : gives c s (meant_after c s NOBODY front t memory) command (run c s NOBODY front FIRST t memory).tables (run c s NOBODY front FIRST t memory).memory ≡ refused why
  pub status-given : status_read call.room ≡ status_of why
  pub holder-given : call.holder ≡ holder_of why
  -- "A command refused changes no table and no file byte": what they left stands
  pub tables-left : call.tables ≡ (run c s NOBODY front FIRST t memory).tables
  pub memory-left : call.memory ≡ (run c s NOBODY front FIRST t memory).memory
  -- "those after it aren't begun": behind the header and the blocks of those before it stands the refused block, and nothing more
  pub block-left : take 3 (drop (32 + length (run c s NOBODY front FIRST t memory).blocks) call.room) ≡ refused_block
  pub length-left : call.length ≡ 32 + (length (run c s NOBODY front FIRST t memory).blocks + 3)

-- a refused block at the end of the reply's blocks, in the room that the reply is laid over
block-in-room : (header blocks rest : List ℕ) (k : ℕ) → length header ≡ 32 → length blocks ≡ k + 3 → drop k blocks ≡ refused_block
    → take 3 (drop (32 + k) ((header ++ blocks) ++ rest)) ≡ refused_block
unfolding refused_block
block-in-room header blocks rest k h n e =
    let a : drop (32 + k) ((header ++ blocks) ++ rest) ≡ drop k (blocks ++ rest) =
    ap (drop (32 + k)) (append_assoc header blocks rest) ∙ behind_more header (blocks ++ rest) 32 k (32 + k) h refl in
    let b : drop k (blocks ++ rest) ≡ refused_block ++ rest = drop-append-le k blocks rest (omega arith) ∙ ap (λ (x : List ℕ). x ++ rest) e in
    ap (take 3) (a ∙ b)

module _ (connection : ℕ) (s : List ℕ) (bs : List Block) (e : blocks s ≡ Some bs) (t : Tables) (memory room : List ℕ) (fit : Fit s t memory room) where
  -- what the call leaves is what the commands leave
  pub call-tables : (take-message connection s t memory room).tables ≡ (run (caller_of connection s) s NOBODY bs FIRST t memory).tables
  unfolding replied
  call-tables = ap (λ (k : Taken). k.tables) (fit-answered connection s t memory room fit) ∙ ap (λ (r : Ran). r.tables) (sentence-answered connection s t memory bs e)

  pub call-memory : (take-message connection s t memory room).memory ≡ (run (caller_of connection s) s NOBODY bs FIRST t memory).memory
  unfolding replied
  call-memory = ap (λ (k : Taken). k.memory) (fit-answered connection s t memory room fit) ∙ ap (λ (r : Ran). r.memory) (sentence-answered connection s t memory bs e)

  pub call-holder : (take-message connection s t memory room).holder ≡ (run (caller_of connection s) s NOBODY bs FIRST t memory).holder
  unfolding replied
  call-holder = ap (λ (k : Taken). k.holder) (fit-answered connection s t memory room fit) ∙ ap (λ (r : Ran). r.holder) (sentence-answered connection s t memory bs e)

  pub call_length : (take-message connection s t memory room).length ≡ 32 + length (run (caller_of connection s) s NOBODY bs FIRST t memory).blocks
  call_length = length-call connection s t memory room fit ∙ ap (λ (r : Ran). 32 + length r.blocks) (sentence-answered connection s t memory bs e)

  -- a refused block at the end of the commands' blocks is one in the reply
  pub call-block : (k : ℕ) → length (run (caller_of connection s) s NOBODY bs FIRST t memory).blocks ≡ k + 3 → drop k (run (caller_of connection s) s NOBODY bs FIRST t memory).blocks ≡ refused_block
      → take 3 (drop (32 + k) (take-message connection s t memory room).room) ≡ refused_block
  unfolding replied reply_of put
  call-block k n b =
      let long : 35 ≤ length s = not_short s fit.not-dropped in
      let same : (answered connection s t memory).blocks ≡ (run (caller_of connection s) s NOBODY bs FIRST t memory).blocks =
      ap (λ (r : Ran). r.blocks) (sentence-answered connection s t memory bs e) in
      ap (λ (x : Taken). take 3 (drop (32 + k) x.room)) (fit-answered connection s t memory room fit)
      ∙ block-in-room (reply_header s (answered connection s t memory).forms) (answered connection s t memory).blocks _ k
      (length-header s (answered connection s t memory).forms (omega arith)) (ap length same ∙ n) (ap (drop k) same ∙ b)

-- ---- what was there before the call stands

-- tables and file memory are those before the call
pub record Untouched (t : Tables) (memory : List ℕ) (call : Taken) : Type 0 where
  pub same_tables : call.tables ≡ t
  pub same_memory : call.memory ≡ memory

-- commands with no reply block are none
pub run_none : (c : Caller) (s : List ℕ) (just : ℕ) (bs : List Block) (place : ℕ) (t : Tables) (memory : List ℕ) → length (run c s just bs place t memory).blocks ≡ 0 → bs ≡ []
unfolding run
run_none c s just [] place t memory e = refl
run_none c s just (b ∷ bs) place t memory e =
    let n : 3 ≤ length (run c s just (b ∷ bs) place t memory).blocks = given-least (gives c s just b t memory) bs place t memory (λ j p u m. run c s j bs p u m) in
    absurd (let z : ⊥ = omega arith in z)

-- nothing in front: what is left is what was there
pub none-front : {c : Caller} {s : List ℕ} {bs : List Block} {t : Tables} {memory : List ℕ} {call : Taken} (r : RefusedCall c s bs t memory call) → r.front ≡ [] → Untouched t memory call
unfolding run
none-front {c} {s} {bs} {t} {memory} r e =
    record {
      same_tables = r.tables-left ∙ ap (λ (l : List Block). (run c s NOBODY l FIRST t memory).tables) e;
      same_memory = r.memory-left ∙ ap (λ (l : List Block). (run c s NOBODY l FIRST t memory).memory) e;
    }

-- one command is not one in front of another
pub one-front : (front later : List Block) (b d : Block) → b ∷ [] ≡ front ++ (d ∷ later) → front ≡ []
one-front [] later b d e = refl
one-front (x ∷ []) later b d e = let z : ◌≡◌ {A = List Block} [] (d ∷ later) = cc in let n : ◌≡◌ {A = ℕ} 0 1 = cc in absurd (omega arith)
one-front (x ∷ (y ∷ front)) later b d e = let z : ◌≡◌ {A = List Block} [] (y ∷ (front ++ (d ∷ later))) = cc in let n : ◌≡◌ {A = ℕ} 0 1 = cc in absurd (omega arith)
