-- What `?` hands on: the refusal of the call. Assumes nothing.
use Rattle.std.specs.Prelude.{◌≡◌, Result, Err, IsErrAnd}
use Rattle.std.proofs.Math.Path.{ap, ◌∙◌}
use Rattle.std.proofs.lemmas.Result.{err_from_is_err_and}
use Rattle.records.specs.declared.Tables.{Tables}
use Rattle.message.specs.declared.refusal.Refusal.{Refusal}
use Rattle.message.specs.Given.{Answered}
use Rattle.requests.specs.Leaves.{performed, refusal}

pub handed_on : {A : Type 0} (r : Result A Refusal) (why : Refusal) → IsErrAnd r (λ x. x ≡ why) → r ≡ Err why
handed_on r why h = let p = err_from_is_err_and r h in p.1 ∙ ap Err p.2

pub raised : (r : Answered) (why : Refusal) (t : Tables) → IsErrAnd r (λ x. x ≡ why) → performed r t ≡ refusal why t
raised r why t h = ap (λ (x : Answered). performed x t) (handed_on r why h)
