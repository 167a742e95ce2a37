-- `listing::put_line` meets its contract: one text behind the other.
-- Assumes nothing.
use Rattle.text.specs.Overlaid.{written_then}
use Rattle.listing.specs.Text.{line}
use Rattle.listing.proofs.put_line.Goals as goal

pub returns : goal.returns
unfolding line
returns c =
    let put-decimal = c.put_decimal-a1 in
    let put_byte = c.put_byte-a2 in
    let put-hex = c.put_hex-a3 in
    let put-byte2 = c.put_byte-a4 in
    let put-decimal2 = c.put_decimal-a5 in
    let put-byte3 = c.put_byte-a6 in
    let put-decimal3 = c.put_decimal-a7 in
    written_then put-decimal.ensures
    (written_then put_byte.ensures
    (written_then put-hex.ensures
    (written_then put-byte2.ensures
    (written_then put-decimal2.ensures
    (written_then put-byte3.ensures
    (written_then put-decimal3.ensures c.put_byte.ensures))))))
