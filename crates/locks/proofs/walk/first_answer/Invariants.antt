use Rattle.lists.specs.FoundLaws.{Passed}
use Rattle.tables.specs.Words.{word, lock_array}
use Rattle.locks.specs.Answer.{file_in, answers}
use Rattle.locks.proofs.walk.first_answer.Given as goal

abbrev pub invariant-loop-i : goal.invariant-loop-i
invariant-loop-i l = Passed (answers (file_in l.files) l.q) (lock_array l.words) (word l.words 0) l.i
