-- `chain::shape::link_at` meets its contract: the test is that of the definition, and so are the numbers read.
-- Assumes nothing.
use borrow.Author.Tests.{ne_eqb}
use Rattle.chain.specs.Parse.{link_at}
use Rattle.chain.proofs.shape.link_at.Goals as goal

pub returns-then-next : goal.returns-then-next
unfolding link_at
returns-then-next c = rw c.if-next.true

pub returns : goal.returns
unfolding link_at
returns c = rw (c.number_inside-place.ensures, ne_eqb _ 255 c.if-next.false)
