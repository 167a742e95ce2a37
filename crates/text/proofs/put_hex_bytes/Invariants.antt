use lib.ListN.{take}
use Rattle.text.specs.Over.{Written}
use Rattle.text.specs.Digits.{hex_bytes}
use Rattle.text.proofs.put_hex_bytes.Given as goal

abbrev pub invariant-loop-i : goal.invariant-loop-i
invariant-loop-i l = Written l.initial.out l.at (hex_bytes (take l.i l.bytes)) l.out l.to
