-- Of specs/SpansOneByOne.antt: what rests on its other theorems. Assumes nothing.
use Rattle.std.specs.Prelude.{◌≡◌, refl, ℕ, List, [], ◌∷◌, map, length}
use Rattle.std.proofs.Common.{ap, ◌∙◌}
use Rattle.records.specs.declared.Tables.{Tables}
use Rattle.chain.specs.Grammar.{Span, Reading}
use Rattle.chain.specs.declared.block.Block.{Block}
use Rattle.invariants.specs.ReaderSound.{span_of}
use Rattle.invariants.specs.Sound.{Good}
use Rattle.invariants.specs.Fit.{Fit}
use Rattle.message.specs.Message.{take-message}
use Rattle.message.specs.JustOpened.{NOBODY}
use Rattle.demands.specs.Returned.{returned_fid}
use Rattle.demands.specs.Carrying.{carrying}
use Rattle.demands.specs.OneByOne.{own}
use Rattle.demands.specs.CallsOneByOne.{reply_in, call_all, compared_call}
use Rattle.demands.proofs.Calls.{reading-one-by-one}
use Rattle.demands.specs.SpansOneByOne.{alone-span, call_span_on, call_spans, own_span, same-on}

pub own-span : (s : List ℕ) (just : ℕ) (b : Block) → own s just b ≡ own_span s just (span_of b)
unfolding own own_span
own-span s just b = ap (carrying just) (alone-span s b)

pub calls-spans : (connection : ℕ) (s room : List ℕ) (just : ℕ) (bs : List Block) (t : Tables) (memory : List ℕ)
    → call_all connection s room just bs t memory ≡ call_spans connection s room just (map span_of bs) t memory
unfolding call_all call_spans
calls-spans connection s room just [] t memory = refl
calls-spans connection s room just (b ∷ bs) t memory =
    same-on (take-message connection (own s just b) t memory room) bs (λ j u m. call_all connection s room j bs u m) (λ j u m. call_spans connection s room j (map span_of bs) u m)
    (calls-spans connection s room (returned_fid (reply_in (take-message connection (own s just b) t memory room))) bs _ _)
    ∙ ap (λ (l : List ℕ). call_span_on (take-message connection l t memory room) (map span_of bs) (λ j u m. call_spans connection s room j (map span_of bs) u m)) (own-span s just b)

-- "This is a single claim about the whole list of blocks": of any reading of a message fit to be answered, the call gives what the calls of its blocks'
-- messages give
pub spans-one-by-one : (connection : ℕ) (s : List ℕ) {spans : List Span} → Reading s spans → (t : Tables) (memory room small : List ℕ) → Good t → Fit s t memory room
    → length small ≡ 12292 → take-message connection s t memory room ≡ compared_call s room (call_spans connection s small NOBODY spans t memory)
spans-one-by-one connection s r t memory room small g fit n =
    let a = reading-one-by-one connection s r t memory room small g fit n in
    a.2 ∙ ap (compared_call s room) (calls-spans connection s small NOBODY a.0 t memory ∙ ap (λ (l : List Span). call_spans connection s small NOBODY l t memory) a.1)
