-- `chain::parse::write_body` meets its contract: the numbers read are those of the definition.
-- Assumes nothing.
use Rattle.chain.specs.Parse.{parse, parse_write}
use Rattle.chain.specs.Request.{request_named, is_andx}
use Rattle.chain.specs.Rows.{fits, row_fits, next_at}
use Rattle.chain.proofs.parse.write_body.Goals as goal

pub returns : goal.returns
unfolding parse fits row_fits is_andx request_named next_at parse_write
returns c = record { is = rw (c.le16_at-fid.ensures, c.offset_at-offset.ensures, c.byte_at.ensures, c.le16_at-count.ensures, c.le16_at-from.ensures) }
