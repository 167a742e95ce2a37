-- `tables::session::put_session` meets its contract: the words stored one by one are one write of the record. Assumes nothing.
use mathlib.Core.Path.{refl}
use native.Mathlib.Omega.{arith}
use lib.ListN.{length-set}
use Rattle.tables.specs.Words.{session_of, session_array, session_limits}
use Rattle.tables.specs.Written.{session_words}
use Rattle.tables.specs.ArrayLaws.{wrote}
use Rattle.tables.specs.RecordLaws.{Within, session-back}
use Rattle.tables.proofs.session.put_session.Goals as goal

pub bounds-words-at-2 : goal.bounds-words-at-2
bounds-words-at-2 c = simp length-set (omega arith)

pub returns : goal.returns
unfolding session_array
returns c =
    let start = c in
    let args = start.args in
    let narrow : Within session_limits (session_words args.s) = (omega arith, (omega arith, tt)) in
    rw (c.from.ensures, c.from-2.ensures)
    (wrote session_of session_limits 16 args.words.now (session_words args.s) args.i args.s start.requires.1 start.requires.0 refl narrow (session-back args.s narrow))
