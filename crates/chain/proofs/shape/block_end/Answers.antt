-- `chain::shape::block_end` meets its contract: the two numbers read are those of the definition.
-- Assumes nothing.
use Rattle.chain.proofs.shape.block_end.Goals as goal

pub returns : goal.returns
returns c = rw (c.le16_at-bytes.ensures, c.byte_at-words.ensures)
