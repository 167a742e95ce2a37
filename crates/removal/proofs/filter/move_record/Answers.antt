-- `removal::filter::move_record` meets its contract: a record read, its place emptied, the record written. Assumes nothing.
use Rattle.removal.proofs.Filtering.{moved_none, moved}
use Rattle.removal.proofs.filter.move_record.Goals as goal

pub returns-then-from-to : goal.returns-then-from-to
returns-then-from-to g c = moved_none c.args.words.now c.args.from c.args.to c.if-from-to.true

pub returns : goal.returns
returns g c = moved c.read-x.result c.read-x.ensures (rw c.EMPTY.ensures at c.write.ensures) c.write-2.ensures
