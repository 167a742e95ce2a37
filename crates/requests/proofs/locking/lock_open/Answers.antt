-- `requests::locking::lock_open` meets its contract: the type is tested first, then the request is made.
-- Assumes nothing.
use mathlib.Core.Path.{refl, sym, ◌∙◌}
use Rattle.requests.specs.Leaves.{gives-refused}
use Rattle.requests.specs.Steps.{lock_open}
use Rattle.requests.proofs.locking.lock_open.Goals as goal

pub returns-then-not-served_type-clause-leaves : goal.returns-then-not-served_type-clause-leaves
unfolding lock_open
returns-then-not-served_type-clause-leaves c = λ m. gives-refused _ (rw (sym c.served_type.ensures ∙ c.if-not-served_type.true)) refl

pub returns-clause-leaves : goal.returns-clause-leaves
unfolding lock_open
returns-clause-leaves c = λ m. rw (sym c.served_type.ensures ∙ c.if-not-served_type.false, c.lock_answer.ensures) (c.settle-outcome.ensures.leaves m)
