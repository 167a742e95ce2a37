use lib.ListN.{take}
use Rattle.text.specs.Over.{Written}
use Rattle.text.proofs.put_text.Given as goal

abbrev pub invariant-loop-i : goal.invariant-loop-i
invariant-loop-i l = Written l.initial.out l.at (take l.i l.text) l.out l.to
