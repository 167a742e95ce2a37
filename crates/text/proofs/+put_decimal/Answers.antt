-- A number's last digit stands behind those before it.
use Rattle.std.proofs.Common.{◌≡◌, ◌%◌, arith}
use Rattle.text.specs.Overlaid.{written_then}
use Rattle.text.specs.DigitLaws.{decimal-small, decimal-more}
use Rattle.text.proofs.+put_decimal.Goals as goal

pub returns-then-n-lt10 : goal.returns-then-n-lt10
returns-then-n-lt10 t c =
    let one : c.args.n % 10 ≡ c.args.n = omega arith in
    rw (decimal-small c.args.n (omega arith), ← one) c.put_byte.ensures

pub returns : goal.returns
returns t c = rw (decimal-more c.args.n (omega arith)) (written_then c.put_decimal-to.ensures c.put_byte-2.ensures)
