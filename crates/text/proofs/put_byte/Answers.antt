-- `text::put_byte` meets its contract: the byte is written where the buffer has its place, and else nothing is.
-- Assumes nothing.
use Rattle.text.specs.Overlaid.{written_byte, written_none}
use native.Mathlib.Omega.{arith}
use Rattle.text.proofs.put_byte.Goals as goal

pub returns-then-at-out : goal.returns-then-at-out
returns-then-at-out c = written_byte c.args.out.now c.args.at c.args.b (omega arith)

pub returns : goal.returns
returns c = written_none c.args.out.now c.args.at c.args.b (omega arith)
