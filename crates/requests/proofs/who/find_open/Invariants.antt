use Rattle.lists.specs.FoundLaws.{Passed}
use Rattle.tables.specs.Words.{open_array}
use Rattle.message.specs.Command.{is_open}
use Rattle.requests.proofs.who.find_open.Given as goal

abbrev pub invariant-loop-i : goal.invariant-loop-i
invariant-loop-i l = Passed (is_open l.c l.fid) (open_array l.words) l.count l.i
