-- `requests::core_commands::range_open` meets its contract: the request is the LOCKING of one range, and its answer is made the core command's.
-- Assumes nothing.
use Rattle.requests.proofs.Raised.{raised}
use Rattle.message.specs.Command.{served_type, one_range}
use Rattle.requests.specs.CorePart.{gives-core, refuses-core}
use Rattle.requests.specs.Steps.{lock_open}
use Rattle.requests.proofs.core_commands.range_open.Goals as goal

pub returns-in_err-answer-clause-leaves : goal.returns-in_err-answer-clause-leaves
unfolding lock_open one_range served_type
returns-in_err-answer-clause-leaves c =
    λ m. rw (raised _ _ _ c.from_residual.ensures.1, ← c.range_by.ensures, ← c.small_form-area.ensures) (refuses-core (rw (← c.in_err-answer.ensures) at (c.settle-outcome.ensures.leaves m)))

pub returns-clause-leaves : goal.returns-clause-leaves
unfolding lock_open one_range served_type
returns-clause-leaves c =
    λ m. rw (c.core_answer.ensures, ← c.range_by.ensures, ← c.small_form-area.ensures) (gives-core (rw (← c.in_ok-answer.ensures) at (c.settle-outcome.ensures.leaves m)))
