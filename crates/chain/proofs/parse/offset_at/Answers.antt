-- `chain::parse::offset_at` meets its contract: one case for each width.
-- Assumes nothing.
use Rattle.chain.specs.Parse.{wide_offset}
use Rattle.chain.proofs.parse.offset_at.Goals as goal

pub returns-then-wide : goal.returns-then-wide
unfolding wide_offset
returns-then-wide c = rw (c.if-wide.true, c.le32_at-first.ensures, c.le32_at.ensures)

pub returns-else-wide : goal.returns-else-wide
unfolding wide_offset
returns-else-wide c = rw c.if-wide.false c.le32_at-first.ensures
