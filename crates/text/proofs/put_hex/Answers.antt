-- `text::put_hex` meets its contract: one digit behind the other.
-- Assumes nothing.
use Rattle.text.specs.Overlaid.{written_then}
use Rattle.text.specs.Digits.{hex_byte}
use Rattle.text.proofs.put_hex.Goals as goal

pub returns : goal.returns
unfolding hex_byte
returns c = rw (← c.hex_digit.ensures, ← c.hex_digit-2.ensures) (written_then c.put_byte-to.ensures c.put_byte.ensures)
