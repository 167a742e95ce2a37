-- `sample::show::put_status` meets its contract: one text behind the other.
-- Assumes nothing.
use Rattle.text.specs.Overlaid.{written_then}
use Rattle.sample.specs.Shown.{status_text}
use Rattle.sample.proofs.show.put_status.Goals as goal

pub returns : goal.returns
unfolding status_text
returns c =
    let put-text = c.put_text-a1 in
    let put-text2 = c.put_text-a2 in
    let byte-at = c.byte_at in
    let put-decimal = c.put_decimal-a3 in
    let put-text3 = c.put_text-a4 in
    let le16-at = c.le16_at in
    let put-decimal2 = c.put_decimal-a5 in
    rw (← byte-at.ensures, ← le16-at.ensures)
    (written_then put-text.ensures
    (written_then put-text2.ensures
    (written_then put-decimal.ensures
    (written_then put-text3.ensures
    (written_then put-decimal2.ensures
    c.put_text.ensures)))))
