-- `tables::lock::lock_at` meets its contract: each field is its word of the record, cut to the field's width. Assumes nothing.
use mathlib.Core.Path.{sym}
use Rattle.records.specs.Empty.{no_lock}
use Rattle.tables.specs.Words.{lock_of, lock_array}
use Rattle.tables.specs.ArrayLaws.{record-at}
use Rattle.tables.proofs.lock.lock_at.Goals as goal

pub returns : goal.returns
unfolding lock_of lock_array
returns c =
    let start = c.before.before.before.before.before.before.before.before in
    rw (c.low16-fid.ensures, c.low32-process.ensures)
    (sym (record-at lock_of 5 128 start.args.words.now start.args.i no_lock start.requires.1 start.requires.0))
