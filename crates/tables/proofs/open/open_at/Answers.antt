-- `tables::open::open_at` meets its contract: each field is its word of the record, cut to the field's width. Assumes nothing.
use mathlib.Core.Path.{sym}
use Rattle.records.specs.Empty.{no_open}
use Rattle.tables.specs.Words.{open_of, open_array}
use Rattle.tables.specs.ArrayLaws.{record-at}
use Rattle.tables.proofs.open.open_at.Goals as goal

pub returns : goal.returns
unfolding open_of open_array
returns c =
    rw (c.low16-fid.ensures, c.low16-uid.ensures, c.low16-tid.ensures, c.low32-process.ensures, c.low8-file.ensures, c.low8-access.ensures, c.low8-sharing.ensures)
    (sym (record-at open_of 9 64 c.args.words.now c.args.i no_open c.requires.1 c.requires.0))
