-- Of specs/RefusedCall.antt: what rests on its other theorems. Assumes nothing.
use Rattle.std.specs.Prelude.{◌≡◌, ℕ, ◌+◌, true, List, [], ◌∷◌, drop, Option, None, Some}
use Rattle.std.proofs.Math.Path.{refl, ap}
use Rattle.std.proofs.Common.{sym, ◌∙◌, arith}
use Rattle.std.proofs.Math.Logic.{inl, inr}
use Rattle.std.proofs.Math.ListN.{length}
use Rattle.lists.specs.Truth.{decided}
use Rattle.records.specs.declared.Tables.{Tables}
use Rattle.chain.specs.Layout.{header_command, FIRST}
use Rattle.chain.specs.Chain.{blocks}
use Rattle.chain.specs.declared.block.Block.{Block}
use Rattle.readings.specs.ReaderComplete.{no-sentence}
use Rattle.message.specs.Caller.{caller_of}
use Rattle.message.specs.declared.caller.Caller.{Caller}
use Rattle.message.specs.Refusal.{status, status_of, holder_of}
use Rattle.message.specs.declared.refusal.Refusal.{Refusal}
use Rattle.message.specs.Command.{Said, Given, refused, done}
use Rattle.message.specs.JustOpened.{NOBODY, opened_by}
use Rattle.message.specs.Reply.{reply_block, refused_block, reply_size}
use Rattle.message.specs.Message.{Ran, after, link_to, run, served, only_status, Taken, replied, take-message}
use Rattle.invariants.specs.ReplySize.{length-block}
use Rattle.invariants.specs.Fit.{Fit}
use Rattle.demands.specs.Taken.{malformed-taken, not-served-taken}
use Rattle.demands.specs.StatusRead.{status_read}
use Rattle.demands.proofs.Calls.{status-call}
use Rattle.demands.specs.Calls.{sentence-answered}
use Rattle.demands.specs.RefusedCall.{RefusedCall, Stopped, Untouched, behind_more, call-block, call-holder, call-memory, call-tables, call_length, gives, meant-done, meant_after, none-front, one-front, run_none, step-done, step-length, step-refused}

-- by what the first gives: it is refused, or a later one
pub stopped_by : (c : Caller) (s : List ℕ) (just : ℕ) (b : Block) (bs : List Block) (place : ℕ) (t : Tables) (memory : List ℕ) (g : Given) → gives c s just b t memory ≡ g
    → ((u : Tables) (m : List ℕ) (said : Said) → g ≡ done u m said → Stopped c s (opened_by said) bs (place + reply_size said) u m (run c s (opened_by said) bs (place + reply_size said) u m))
    → Stopped c s just (b ∷ bs) place t memory (run c s just (b ∷ bs) place t memory)
unfolding run after refused_block meant_after
stopped_by c s just b bs place t memory (refused why) e f =
    let r = step-refused c s just b bs place t memory why e in
    record {
      front = [];
      command = b;
      later = bs;
      split = refl;
      front-done = refl;
      why = why;
      command-refused = e;
      status-left = ap (λ (x : Ran). x.forms.status) r;
      holder-left = ap (λ (x : Ran). x.holder) r;
      tables-left = ap (λ (x : Ran). x.tables) r;
      memory-left = ap (λ (x : Ran). x.memory) r;
      blocks-left = ap (λ (x : Ran). length x.blocks) r;
      block-behind = ap (λ (x : Ran). x.blocks) r;
    }
stopped_by c s just b bs place t memory (done u m said) e f =
    let q = f u m said refl in
    let whole = step-done c s just b bs place t memory u m said e in
    let part = step-done c s just b q.front place t memory u m said e in
    let n = step-length c s just b bs place t memory u m said e in
    let k = step-length c s just b q.front place t memory u m said e in
    record {
      front = b ∷ q.front;
      command = q.command;
      later = q.later;
      split = ap (λ (l : List Block). b ∷ l) q.split;
      front-done = ap (λ (x : Ran). x.forms.status) part ∙ q.front-done;
      why = q.why;
      command-refused = rw (part, meant-done c s just b q.front place t memory u m said e) q.command-refused;
      status-left = ap (λ (x : Ran). x.forms.status) whole ∙ q.status-left;
      holder-left = ap (λ (x : Ran). x.holder) whole ∙ q.holder-left;
      tables-left = ap (λ (x : Ran). x.tables) whole ∙ q.tables-left ∙ sym (ap (λ (x : Ran). x.tables) part);
      memory-left = ap (λ (x : Ran). x.memory) whole ∙ q.memory-left ∙ sym (ap (λ (x : Ran). x.memory) part);
      blocks-left = n ∙ more (reply_size said) _ _ _ k q.blocks-left;
      block-behind = ap (λ (x : Ran). drop (length (run c s just (b ∷ q.front) place t memory).blocks) x.blocks) whole
          ∙ behind_more (reply_block said place (link_to bs (place + reply_size said))) _ (reply_size said) _ _ (length-block said place (link_to bs (place + reply_size said))) k
          ∙ q.block-behind;
    }
  where
    more : (a x y z : ℕ) → z ≡ a + y → x ≡ y + 3 → a + x ≡ z + 3
    more a x y z e f = omega arith

-- commands that do not end with status 0/0 end so
pub run-stopped : (c : Caller) (s : List ℕ) (just : ℕ) (bs : List Block) (place : ℕ) (t : Tables) (memory : List ℕ) → ((run c s just bs place t memory).forms.status ≡ status 0 0 → ⊥)
    → Stopped c s just bs place t memory (run c s just bs place t memory)
unfolding run after
run-stopped c s just [] place t memory n = absurd (n refl)
run-stopped c s just (b ∷ bs) place t memory n =
    stopped_by c s just b bs place t memory (gives c s just b t memory) refl
    (λ u m said e. run-stopped c s (opened_by said) bs (place + reply_size said) u m (λ z. n (ap (λ (x : Ran). x.forms.status) (step-done c s just b bs place t memory u m said e) ∙ z)))

module _ (connection : ℕ) (s : List ℕ) (bs : List Block) (e : blocks s ≡ Some bs) (t : Tables) (memory room : List ℕ) (fit : Fit s t memory room) where
  pub call-status : status_read (take-message connection s t memory room).room ≡ (run (caller_of connection s) s NOBODY bs FIRST t memory).forms.status
  call-status = status-call connection s t memory room fit ∙ ap (λ (r : Ran). r.forms.status) (sentence-answered connection s t memory bs e)

  -- "A command refused changes no table and no file byte, its own unlocks included. Commands before it in the chain stand; those after it aren't begun":
  -- a sentence fit to be answered whose reply's Status is not 0/0
  pub refused-call : (status_read (take-message connection s t memory room).room ≡ status 0 0 → ⊥)
      → RefusedCall (caller_of connection s) s bs t memory (take-message connection s t memory room)
  refused-call n =
      let q = run-stopped (caller_of connection s) s NOBODY bs FIRST t memory (λ z. n (call-status ∙ z)) in
      record {
        front = q.front;
        command = q.command;
        later = q.later;
        split = q.split;
        front-done = q.front-done;
        why = q.why;
        command-refused = q.command-refused;
        status-given = call-status ∙ q.status-left;
        holder-given = (call-holder connection s bs e t memory room fit) ∙ q.holder-left;
        tables-left = (call-tables connection s bs e t memory room fit) ∙ q.tables-left;
        memory-left = (call-memory connection s bs e t memory room fit) ∙ q.memory-left;
        block-left = (call-block connection s bs e t memory room fit) _ q.blocks-left q.block-behind;
        length-left = (call_length connection s bs e t memory room fit) ∙ ap (λ (k : ℕ). 32 + k) q.blocks-left;
      }

module _ (connection : ℕ) (s : List ℕ) (t : Tables) (memory room : List ℕ) (fit : Fit s t memory room) where
  -- "A command refused changes no table and no file byte, its own unlocks included": a message of one command, with any Status but 0/0
  pub alone-refused : (b : Block) → blocks s ≡ Some (b ∷ []) → (status_read (take-message connection s t memory room).room ≡ status 0 0 → ⊥)
      → Untouched t memory (take-message connection s t memory room)
  alone-refused b e n =
      let r = refused-call connection s (b ∷ []) e t memory room fit n in none-front r (one-front r.front r.later b r.command r.split)

  -- "those after it aren't begun": where the first command is refused, whatever comes after it
  pub first-refused : (b : Block) (bs : List Block) → blocks s ≡ Some (b ∷ bs) → (why : Refusal) → gives (caller_of connection s) s NOBODY b t memory ≡ refused why
      → (status_read (take-message connection s t memory room).room ≡ status_of why) × ((take-message connection s t memory room).holder ≡ holder_of why)
      × Untouched t memory (take-message connection s t memory room)
  first-refused b bs e why g =
      let r = step-refused (caller_of connection s) s NOBODY b bs FIRST t memory why g in (
        call-status connection s (b ∷ bs) e t memory room fit ∙ ap (λ (x : Ran). x.forms.status) r,
        call-holder connection s (b ∷ bs) e t memory room fit ∙ ap (λ (x : Ran). x.holder) r,
        record {
          same_tables = call-tables connection s (b ∷ bs) e t memory room fit ∙ ap (λ (x : Ran). x.tables) r;
          same_memory = call-memory connection s (b ∷ bs) e t memory room fit ∙ ap (λ (x : Ran). x.memory) r;
        },
      )

  pub sentence-refusal : (bs : List Block) → blocks s ≡ Some bs → (status_read (take-message connection s t memory room).room ≡ status 0 0 → ⊥)
      → (take-message connection s t memory room).length ≡ 35 → Untouched t memory (take-message connection s t memory room)
  sentence-refusal bs e n l =
      let r = refused-call connection s bs e t memory room fit n in
      let k : 32 + (length (run (caller_of connection s) s NOBODY r.front FIRST t memory).blocks + 3) ≡ 35 = sym r.length-left ∙ l in
      none-front r (run_none (caller_of connection s) s NOBODY r.front FIRST t memory (omega arith))

  pub read-refusal : (o : Option (List Block)) → blocks s ≡ o → served (header_command s) ≡ true → (status_read (take-message connection s t memory room).room ≡ status 0 0 → ⊥)
      → (take-message connection s t memory room).length ≡ 35 → Untouched t memory (take-message connection s t memory room)
  unfolding replied only_status
  read-refusal (Some bs) e v n l = sentence-refusal bs e n l
  read-refusal None e v n l =
      let q = malformed-taken connection s t memory room fit v ((no-sentence s).0 e) in
      record { same_tables = ap (λ (k : Taken). k.tables) q; same_memory = ap (λ (k : Taken). k.memory) q }

  -- so a reply of one refused block, whatever the message and whatever the refusal, says that nothing was changed
  pub short-refusal : (status_read (take-message connection s t memory room).room ≡ status 0 0 → ⊥) → (take-message connection s t memory room).length ≡ 35
      → Untouched t memory (take-message connection s t memory room)
  unfolding replied only_status
  short-refusal n l =
      elim (decided (served (header_command s))) [
        | inl v ↦ read-refusal (blocks s) refl v n l
        | inr v ↦
            let q = not-served-taken connection s t memory room fit v in
            record { same_tables = ap (λ (k : Taken). k.tables) q; same_memory = ap (λ (k : Taken). k.memory) q }
      ]
