use Rattle.tables.specs.Words.{word, lock_array}
use Rattle.soundness.specs.AgreeLaws.{SharedFrom}
use Rattle.soundness.proofs.lock_words.exclusives_end.Given as goal

abbrev pub invariant-loop-i : goal.invariant-loop-i
invariant-loop-i l = SharedFrom (lock_array l.words) (word l.words 0) l.i
