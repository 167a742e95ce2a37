-- Of specs/NoSentence.antt: what rests on its other theorems. Assumes nothing.
use Rattle.std.specs.Prelude.{◌≡◌, ℕ, ◌+◌, ◌≤◌, List, None as Nobody}
use Rattle.std.proofs.Common.{sym, ◌∙◌, arith, inl, inr}
use Rattle.std.proofs.Math.Path.{ap, subst}
use Rattle.std.proofs.Math.ListN.{length}
use Rattle.lists.specs.Truth.{decided}
use Rattle.records.specs.declared.Tables.{Tables}
use Rattle.chain.specs.Layout.{header_command}
use Rattle.chain.specs.Grammar.{Sentence}
use Rattle.message.specs.Reply.{refused_block}
use Rattle.message.specs.declared.refusal.Forms.{Forms}
use Rattle.message.specs.Message.{Ran, served, only_status, answered, reply_of, Taken, replied, take-message}
use Rattle.invariants.specs.Fit.{Fit, fit-answered}
use Rattle.demands.specs.Malformed.{malformed-nothing, not-served}
use Rattle.demands.specs.Taken.{not_short}
use Rattle.demands.specs.Calls.{length-call}
use Rattle.demands.specs.ReplyBytes.{PlainBlock, refused-block}
use Rattle.demands.specs.RefusedCall.{Untouched}

module _ (connection : ℕ) (s : List ℕ) (t : Tables) (memory room : List ℕ) (fit : Fit s t memory room) where
  -- the message is answered with a status alone
  pub only-status : (n : Forms) → answered connection s t memory ≡ only_status n t memory
      → Untouched t memory (take-message connection s t memory room) × ((take-message connection s t memory room).length ≡ 35)
      × ((take-message connection s t memory room).holder ≡ Nobody) × PlainBlock (take-message connection s t memory room).room
  unfolding replied reply_of only_status refused_block
  only-status n e =
      let given = fit-answered connection s t memory room fit ∙ ap (replied s room) e in
      let long : 35 ≤ length s = not_short s fit.not-dropped in (
        record { same_tables = ap (λ (k : Taken). k.tables) given; same_memory = ap (λ (k : Taken). k.memory) given },
        length-call connection s t memory room fit ∙ ap (λ (r : Ran). 32 + length r.blocks) e,
        ap (λ (k : Taken). k.holder) given,
        subst PlainBlock (sym (ap (λ (k : Taken). k.room) given)) (refused-block s (omega arith) room n),
      )

  pub no-sentence-taken : (Sentence s → ⊥) → Untouched t memory (take-message connection s t memory room) × ((take-message connection s t memory room).length ≡ 35)
      × ((take-message connection s t memory room).holder ≡ Nobody) × PlainBlock (take-message connection s t memory room).room
  no-sentence-taken none =
      elim (decided (served (header_command s))) [
        | inl v ↦ only-status _ (malformed-nothing connection s t memory v none)
        | inr v ↦ only-status _ (not-served connection s t memory v)
      ]
