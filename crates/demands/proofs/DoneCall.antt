-- Of specs/DoneCall.antt: what rests on its other theorems. Assumes nothing.
use Rattle.std.specs.Prelude.{◌≡◌, refl, ℕ, ◌≤◌, get_or, Some, None as no_link}
use Rattle.std.proofs.Math.Path.{sym, ap}
use Rattle.std.proofs.Common.{◌∙◌, arith}
use Rattle.std.proofs.Math.Logic.{inl, inr}
use mathlib.Core.List.{List, [], ◌∷◌}
use Rattle.std.proofs.Math.ListN.{length-append}
use Rattle.records.specs.declared.Open.{Open}
use Rattle.records.specs.declared.Tables.{Tables}
use Rattle.records.specs.Empty.{no_open}
use Rattle.records.specs.Held.{opens_of}
use Rattle.claims.specs.Cases.{status_in}
use Rattle.chain.specs.Layout.{FIRST}
use Rattle.chain.specs.Chain.{blocks}
use Rattle.chain.specs.declared.block.Block.{Block}
use Rattle.message.specs.Caller.{caller_of}
use Rattle.message.specs.declared.caller.Caller.{Caller}
use Rattle.message.specs.Refusal.{status, success}
use Rattle.message.specs.declared.refusal.Status.{Status}
use Rattle.message.specs.Command.{Said, Given, refused, done, with_session, with_tree, with_open}
use Rattle.message.specs.JustOpened.{NOBODY}
use Rattle.message.specs.Reply.{reply_header, reply_block}
use Rattle.message.specs.Message.{Taken, reply_of, replied, take-message}
use Rattle.invariants.specs.ReplySize.{length-header, length-block}
use Rattle.invariants.specs.Fit.{Fit, fit-answered}
use Rattle.claims.proofs.StatusList.{none-zero}
use Rattle.demands.specs.StatusRead.{status_read}
use Rattle.demands.specs.Calls.{sentence-answered}
use Rattle.demands.specs.RefusedCall.{gives}
use Rattle.demands.proofs.RefusedCall.{first-refused}
use Rattle.demands.specs.Admitted.{Admitted, NoTreeFor, before-tree, no-tree, NoOpenFor, before-open, no-open, with-open}
use Rattle.demands.proofs.Admitted.{session-or, tree-or, open-or, with-session, with-tree, session-given, tree-given, open-given}
use Rattle.demands.specs.DoneCall.{Carried, coded-not-done, long-enough, run-one, session-code}

module _ (connection : ℕ) (s : List ℕ) (b : Block) (e : blocks s ≡ Some (b ∷ [])) (t : Tables) (memory room : List ℕ) (fit : Fit s t memory room) where
  pub carried-by : (g : Given) → gives (caller_of connection s) s NOBODY b t memory ≡ g → status_read (take-message connection s t memory room).room ≡ status 0 0
      → Carried (caller_of connection s) s b t memory room (take-message connection s t memory room)
  unfolding replied reply_of
  carried-by (refused why) g z =
      absurd ((none-zero why).0 (sym (first-refused connection s t memory room fit b [] e why g).0 ∙ z))
  carried-by (done u m said) g z =
      let k = fit-answered connection s t memory room fit ∙ ap (replied s room) (sentence-answered connection s t memory (b ∷ []) e ∙ run-one (caller_of connection s) s b t memory g) in
      let tables-left : (take-message connection s t memory room).tables ≡ u = ap (λ (x : Taken). x.tables) k in
      let memory-left : (take-message connection s t memory room).memory ≡ m = ap (λ (x : Taken). x.memory) k in
      record {
        said = said;
        given = rw (tables-left, memory-left) g;
        reply = ap (λ (x : Taken). x.room) k;
        reply-length =
            ap (λ (x : Taken). x.length) k
            ∙ length-append (reply_header s success) (reply_block said FIRST no_link)
            ∙ rw (length-header s success (long-enough s fit.not-dropped), length-block said FIRST no_link) refl;
        nobody-holds = ap (λ (x : Taken). x.holder) k;
      }

  -- Status 0/0 says that it was
  pub carried : status_read (take-message connection s t memory room).room ≡ status 0 0
      → Carried (caller_of connection s) s b t memory room (take-message connection s t memory room)
  carried = carried-by (gives (caller_of connection s) s NOBODY b t memory) refl

pub tree_code : {c : Caller} {t : Tables} {n : Status} → NoTreeFor c t n → 1 ≤ n.code
unfolding status
tree_code (before-tree h) = session-code h
tree_code (no-tree s h) = omega arith

pub open_code : {c : Caller} {t : Tables} {fid : ℕ} {n : Status} → NoOpenFor c t fid n → 1 ≤ n.code
unfolding status
open_code (before-open h) = tree_code h
open_code (no-open s r h) = omega arith

module _ (c : Caller) (t : Tables) {u : Tables} {m : List ℕ} {said : Said} where
  -- so a command that is done passed the questions
  pub past-session : (next : Given) → with_session c t next ≡ done u m said → next ≡ done u m said
  unfolding status_in
  past-session next e =
      elim (session-or c t) [
        | inl h ↦ coded-not-done h.0 (session-code h.1) (sym (session-given c t next h.1) ∙ ap status_in e)
        | inr h ↦ sym (with-session c t next h) ∙ e
      ]

  pub past-tree : (next : Given) → with_tree c t next ≡ done u m said → next ≡ done u m said
  unfolding status_in
  past-tree next e =
      elim (tree-or c t) [
        | inl h ↦ coded-not-done h.0 (tree_code h.1) (sym (tree-given c t next h.1) ∙ ap status_in e)
        | inr h ↦ sym (with-tree c t next h.0 h.1) ∙ e
      ]

  pub past_open : (fid : ℕ) (next : Open → Given) → with_open c t fid next ≡ done u m said → (o : Open) × Admitted c t fid o × (next o ≡ done u m said)
  unfolding status_in
  past_open fid next e =
      elim (open-or c t fid) [
        | inl h ↦ coded-not-done h.0 (open_code h.1) (sym (open-given c t fid next h.1) ∙ ap status_in e)
        | inr h ↦ (get_or (opens_of t) h.0 no_open, h.2, sym (with-open c t fid h.0 next h.1) ∙ e)
      ]
