use Rattle.tables.specs.Words.{word}
use Rattle.numbers.specs.ByNumber.{Marked}
use Rattle.soundness.specs.InWords.{rows}
use Rattle.soundness.specs.InWordsLaws.{row_uid, session_rule}
use Rattle.soundness.proofs.session_words.sessions_marked.Given as goal

abbrev pub invariant-loop-i : goal.invariant-loop-i
invariant-loop-i l = Marked row_uid (λ _. 1) 0 17 session_rule (rows 2 16 l.words) (word l.words 0) l.i l.uids
