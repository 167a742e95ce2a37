-- `chain::shape::end_inside` meets its contract: the two numbers read are those of the definition, and stand inside.
-- Assumes nothing.
use Rattle.chain.proofs.shape.end_inside.Goals as goal

pub returns : goal.returns
returns c = rw (c.number_inside-bytes.ensures, c.byte_at-words.ensures)
