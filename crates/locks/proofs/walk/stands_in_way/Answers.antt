-- `locks::walk::stands_in_way` meets its contract: the words tested are the record's offset and length, and the record decides the rest.
-- Assumes nothing.
use Rattle.records.specs.Empty.{no_lock}
use Rattle.tables.specs.Words.{lock_of, lock_array}
use Rattle.tables.specs.ArrayLaws.{record-at}
use Rattle.locks.specs.Answer.{in_way}
use Rattle.locks.proofs.walk.stands_in_way.Goals as goal

pub returns-then-not-overlap : goal.returns-then-not-overlap
unfolding in_way lock_of lock_array
returns-then-not-overlap c =
    rw (record-at lock_of 5 128 c.args.words.now c.args.i no_lock c.requires.1 c.requires.0, ← c.overlap.ensures, c.if-not-overlap.true)

pub returns : goal.returns
returns c = rw (← c.lock_at.ensures) c.in_way.ensures
