-- `text::put_text` meets its contract. The loop's invariant: the bytes passed are written.
-- Assumes nothing.
use Rattle.text.specs.Overlaid.{written-nothing, written-more, written-length, written-whole}
use native.Mathlib.Omega.{arith}
use Rattle.text.proofs.put_text.Goals as goal

pub loop-i-init : goal.loop-i-init
loop-i-init c = written-nothing c.args.out.now c.args.at

pub loop-i-preserved : goal.loop-i-preserved
loop-i-preserved c = written-more c.args.text.now c.loop-i.i (omega arith) c.loop-i.invariant c.put_byte-to.ensures

pub shape_of-out : goal.shape_of-out
shape_of-out c = written-length c.loop-i.invariant

pub returns : goal.returns
returns c = written-whole c.args.text.now c.loop-i.i (omega arith) c.loop-i.invariant
