-- `requests::sizing::size_open` meets its contract: the tests are those of the definition, in its order.
-- Assumes nothing.
use mathlib.Core.Path.{refl, sym}
use Rattle.requests.proofs.Raised.{raised}
use borrow.Author.Tests.{eq-eqb, ne_eqb}
use Rattle.requests.specs.Leaves.{gives-refused, gives-as}
use Rattle.requests.specs.Steps.{size_open}
use Rattle.requests.specs.BarPart.{is-barred, not-barred}
use Rattle.requests.proofs.sizing.size_open.Goals as goal

pub returns-then-o-eq0-clause-gives : goal.returns-then-o-eq0-clause-gives
unfolding size_open
returns-then-o-eq0-clause-gives c = gives-refused _ (rw (eq-eqb _ _ c.if-o-eq0.true)) refl

pub returns-in_err-pass_locks-clause-gives : goal.returns-in_err-pass_locks-clause-gives
unfolding size_open
returns-in_err-pass_locks-clause-gives c =
    let barred = rw (c.between_sizes-q.ensures, c.file_size-old.ensures) at (sym c.in_err-pass_locks.ensures) in
    gives-refused _ (rw (ne_eqb _ _ c.if-o-eq0.false) (is-barred _ _ _ _ barred)) (raised _ _ _ c.from_residual.ensures.1)

pub returns-clause-gives : goal.returns-clause-gives
unfolding size_open
returns-clause-gives c =
    let free = rw (c.between_sizes-q.ensures, c.file_size-old.ensures) at (sym c.in_ok-pass_locks.ensures) in
    gives-as (rw (ne_eqb _ _ c.if-o-eq0.false) (not-barred _ _ _ _ free)) c.size_free.ensures.gives
