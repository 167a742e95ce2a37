-- `text::put_hex_bytes` meets its contract. The loop's invariant: the bytes passed are written in hex.
-- Assumes nothing.
use Rattle.text.specs.Overlaid.{written-nothing, written-hex-more, written-length, written-hex-whole}
use Rattle.text.specs.Digits.{hex_bytes}
use native.Mathlib.Omega.{arith}
use Rattle.text.proofs.put_hex_bytes.Goals as goal

pub loop-i-init : goal.loop-i-init
unfolding hex_bytes
loop-i-init c = written-nothing c.args.out.now c.args.at

pub loop-i-preserved : goal.loop-i-preserved
loop-i-preserved c = written-hex-more c.args.bytes.now c.loop-i.i (omega arith) c.loop-i.invariant c.put_hex-to.ensures

pub shape_of-out : goal.shape_of-out
shape_of-out c = written-length c.loop-i.invariant

pub returns : goal.returns
returns c = written-hex-whole c.args.bytes.now c.loop-i.i (omega arith) c.loop-i.invariant
