-- `chain::parse::core_read_body` meets its contract: the numbers read are those of the definition.
-- Assumes nothing.
use Rattle.chain.proofs.parse.core_read_body.Goals as goal

pub returns : goal.returns
returns c = rw (c.le16_at-fid.ensures, c.le32_at-offset.ensures, c.le16_at-max.ensures)
