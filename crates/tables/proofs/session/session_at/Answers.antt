-- `tables::session::session_at` meets its contract: each field is its word of the record, cut to the field's width. Assumes nothing.
use mathlib.Core.Path.{sym}
use Rattle.records.specs.Empty.{no_session}
use Rattle.tables.specs.Words.{session_of, session_array}
use Rattle.tables.specs.ArrayLaws.{record-at}
use Rattle.tables.proofs.session.session_at.Goals as goal

pub returns : goal.returns
unfolding session_of session_array
returns c =
    let start = c.before.before.before.before.before in
    rw (c.low16-uid.ensures, c.low32-connection.ensures)
    (sym (record-at session_of 2 16 start.args.words.now start.args.i no_session start.requires.1 start.requires.0))
