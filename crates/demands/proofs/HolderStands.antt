-- Of specs/HolderStands.antt: what rests on its other theorems. Assumes nothing.
use Rattle.std.specs.Prelude.{◌≡◌, ◌↔◌, ℕ, ◌+◌, Some, Some as held_by}
use Rattle.std.proofs.Math.Path.{refl, sym, ap}
use Rattle.std.proofs.Common.{◌∙◌}
use mathlib.Core.List.{List, [], ◌∷◌, ◌++◌}
use Rattle.records.specs.declared.Tables.{Tables}
use Rattle.locks.specs.declared.types.Holder.{Holder}
use Rattle.chain.specs.Layout.{header_command, FIRST}
use Rattle.chain.specs.Chain.{blocks}
use Rattle.chain.specs.declared.block.Block.{Block}
use Rattle.invariants.specs.Chained.{read-chained}
use Rattle.invariants.specs.Sound.{Good}
use Rattle.invariants.specs.Fit.{Fit, fit-answered}
use Rattle.message.specs.declared.caller.Caller.{Caller}
use Rattle.message.specs.Refusal.{status, holder_of}
use Rattle.message.specs.Command.{Said, Given, refused, done}
use Rattle.message.specs.JustOpened.{NOBODY, opened_by, body_meant}
use Rattle.message.specs.Reply.{reply_size}
use Rattle.message.specs.Message.{area_of, data_of, Ran, after, run, Taken, replied}
use Rattle.demands.specs.Calls.{sentence-answered}
use Rattle.demands.specs.RefusedCall.{gives, meant_after, step-done, step-refused, meant-done}
use Rattle.demands.specs.ChainReasons.{AllAnnounced, none_left, next-announced, chained-announced, refusal-not-zero, left-good, meant-announced}
use Rattle.demands.specs.HolderExactly.{call, holder-answered}
use Rattle.demands.specs.LoneLock.{held_in, held-refused}
use Rattle.demands.specs.LockWords.{never}
use Rattle.demands.specs.HolderWords.{CommandHeld, HeldWhere}
use Rattle.demands.proofs.HolderWords.{held-where}
use Rattle.demands.specs.HolderCommand.{Names}
use Rattle.demands.proofs.HolderCommand.{perform-held}
use Rattle.demands.specs.HolderStands.{Met, MetFrom, PassedUp, Sentenced, answered-sentenced, c}
use Rattle.demands.specs.HolderStands.{read_as}

module _ (c : Caller) (s : List ℕ) where
  -- by what the first gives
  pub met_by : (just : ℕ) (b : Block) (bs : List Block) (place : ℕ) (t : Tables) (memory : List ℕ) (h : Holder) (g : Given) → gives c s just b t memory ≡ g
      → (Names g h → CommandHeld c t (area_of s b) (body_meant just b.body) h)
      → ((u : Tables) (m : List ℕ) (said : Said) → g ≡ done u m said → (run c s (opened_by said) bs (place + reply_size said) u m).holder ≡ held_by h
      → MetFrom c s (opened_by said) bs (place + reply_size said) u m h)
      → (run c s just (b ∷ bs) place t memory).holder ≡ held_by h → MetFrom c s just (b ∷ bs) place t memory h
  unfolding run after meant_after held_in
  met_by just b bs place t memory h (refused why) e k f n =
      let r = step-refused c s just b bs place t memory why e in
      record { front = []; command = b; later = bs; split = refl; front-done = refl; held = k (sym (ap (λ (x : Ran). x.holder) r) ∙ n) }
  met_by just b bs place t memory h (done u m said) e k f n =
      let q = f u m said refl (sym (ap (λ (x : Ran). x.holder) (step-done c s just b bs place t memory u m said e)) ∙ n) in
      let part = step-done c s just b q.front place t memory u m said e in
      record {
        front = b ∷ q.front;
        command = q.command;
        later = q.later;
        split = ap (λ (l : List Block). b ∷ l) q.split;
        front-done = ap (λ (x : Ran). x.forms.status) part ∙ q.front-done;
        held = rw (part, meant-done c s just b q.front place t memory u m said e) q.held;
      }

  pub run-met : {bs : List Block} → AllAnnounced s bs → (just place : ℕ) (t : Tables) (memory : List ℕ) → Good t → (h : Holder) → (run c s just bs place t memory).holder ≡ held_by h
      → MetFrom c s just bs place t memory h
  unfolding run
  run-met none_left just place t memory g h e = never cc
  run-met (next-announced {b} {bs} a more) just place t memory g h e =
      met_by just b bs place t memory h (gives c s just b t memory) refl
      (perform-held c t memory g.sound (body_meant just b.body) (area_of s b) (data_of s b) (meant-announced just b.body (area_of s b) a) h).0
      (λ u m said d. run-met more (opened_by said) (place + reply_size said) u m (left-good c s just b t memory g u m said d) h) e

  pub named_by : (just : ℕ) (b : Block) (bs front : List Block) (place : ℕ) (t : Tables) (memory : List ℕ) (h : Holder) (g : Given) → gives c s just b t memory ≡ g
      → (run c s just (b ∷ front) place t memory).forms.status ≡ status 0 0
      → ((u : Tables) (m : List ℕ) (said : Said) → g ≡ done u m said → (run c s just (b ∷ front) place t memory).tables ≡ (run c s (opened_by said) front (place + reply_size said) u m).tables
      → (run c s (opened_by said) front (place + reply_size said) u m).forms.status ≡ status 0 0 → (PassedUp c s) (opened_by said) bs front (place + reply_size said) u m h)
      → (PassedUp c s) just (b ∷ bs) (b ∷ front) place t memory h
  unfolding after
  named_by just b bs front place t memory h (refused why) e zero f =
      absurd (refusal-not-zero why (sym (ap (λ (x : Ran). x.forms.status) (step-refused c s just b front place t memory why e)) ∙ zero))
  named_by just b bs front place t memory h (done u m said) e zero f =
      let whole = step-done c s just b bs place t memory u m said e in
      let part = step-done c s just b front place t memory u m said e in
      let same = ap (λ (x : Ran). x.tables) part in
      let q = f u m said refl same (sym (ap (λ (x : Ran). x.forms.status) part) ∙ zero) in
      record {
        holder-named = ap (λ (x : Ran). x.holder) whole ∙ q.holder-named;
        tables-left = ap (λ (x : Ran). x.tables) whole ∙ q.tables-left ∙ sym same;
      }

  pub met-run : (just : ℕ) (front : List Block) (command : Block) (later : List Block) (place : ℕ) (t : Tables) (memory : List ℕ) (h : Holder) → AllAnnounced s (front ++ (command ∷ later)) → Good t
      → (run c s just front place t memory).forms.status ≡ status 0 0 → CommandHeld c (run c s just front place t memory).tables (area_of s command)
      (body_meant (meant_after c s just front t memory) command.body) h → (PassedUp c s) just (front ++ (command ∷ later)) front place t memory h
  unfolding run holder_of meant_after
  met-run just [] command later place t memory h (next-announced a more) g zero held =
      let w = held-refused (gives c s just command t memory) h
      ((perform-held c t memory g.sound (body_meant just command.body) (area_of s command) (data_of s command) (meant-announced just command.body (area_of s command) a) h).1 held) in
      let r = step-refused c s just command later place t memory w.0 w.1 in
      record { holder-named = ap (λ (x : Ran). x.holder) r ∙ w.2; tables-left = ap (λ (x : Ran). x.tables) r }
  met-run just (b ∷ front) command later place t memory h (next-announced a more) g zero held =
      named_by just b (front ++ (command ∷ later)) front place t memory h (gives c s just b t memory) refl zero
      (λ u m said d same z. met-run (opened_by said) front command later (place + reply_size said) u m h more (left-good c s just b t memory g u m said d) z
      (rw (same, meant-done c s just b front place t memory u m said d) at held))

module _ (connection : ℕ) (s : List ℕ) (t : Tables) (memory room : List ℕ) (g : Good t) (fit : Fit s t memory room) (h : Holder) where
  pub sentence-met : Sentenced connection s t memory h → Met connection s t memory h
  unfolding blocks
  sentence-met (read_as bs e n) =
      let q = run-met (c connection s t memory room g fit h) s (chained-announced (read-chained s (header_command s) FIRST bs e)) NOBODY FIRST t memory g h n in
      record { front = q.front; command = q.command; later = q.later; read = e ∙ ap Some q.split; front-done = q.front-done; held = q.held }

  pub met-named : (m : Met connection s t memory h) → PassedUp (c connection s t memory room g fit h) s NOBODY (m.front ++ (m.command ∷ m.later)) m.front FIRST t memory h
  unfolding blocks
  met-named m =
      met-run (c connection s t memory room g fit h) s NOBODY m.front m.command m.later FIRST t memory h
      (chained-announced (read-chained s (header_command s) FIRST (m.front ++ (m.command ∷ m.later)) m.read)) g m.front-done m.held

  -- the host gets a holder exactly if a command of the message met it, those before it being carried out
  pub holder-exact : ((call connection s t memory room).holder ≡ held_by h) ↔ Met connection s t memory h
  holder-exact = (
    λ e. sentence-met (answered-sentenced connection s t memory h (sym (holder-answered connection s t memory room fit) ∙ e)),
    λ m. holder-answered connection s t memory room fit
        ∙ ap (λ (r : Ran). r.holder) (sentence-answered connection s t memory (m.front ++ (m.command ∷ m.later)) m.read) ∙ (met-named m).holder-named,
  )

  module _ (m : Met connection s t memory h) where
    -- "A command refused changes no table": it was begun on the tables that the call leaves
    pub tables_then : (call connection s t memory room).tables ≡ (run (c connection s t memory room g fit h) s NOBODY m.front FIRST t memory).tables
    unfolding replied
    tables_then =
        ap (λ (k : Taken). k.tables) (fit-answered connection s t memory room fit)
        ∙ ap (λ (r : Ran). r.tables) (sentence-answered connection s t memory (m.front ++ (m.command ∷ m.later)) m.read) ∙ (met-named m).tables-left

    pub held_then : CommandHeld (c connection s t memory room g fit h) (call connection s t memory room).tables (area_of s m.command) (body_meant (meant_after (c connection s t memory room g fit h) s NOBODY m.front t memory) m.command.body) h
    held_then = rw tables_then m.held

    pub where-then : HeldWhere (c connection s t memory room g fit h) (call connection s t memory room).tables (area_of s m.command) h
    where-then = held-where (c connection s t memory room g fit h) (call connection s t memory room).tables (area_of s m.command)
        (body_meant (meant_after (c connection s t memory room g fit h) s NOBODY m.front t memory) m.command.body) h held_then
