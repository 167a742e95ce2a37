-- `text::put_number` meets its contract: one text behind the other.
-- Assumes nothing.
use Rattle.text.specs.Overlaid.{written_then}
use Rattle.text.specs.Digits.{number_text}
use Rattle.text.proofs.put_number.Goals as goal

pub returns : goal.returns
unfolding number_text
returns c =
    let put-text = c.put_text-to in
    written_then put-text.ensures
    c.put_decimal.ensures
