-- `locks::walk::named_at` meets its contract: the word tested is the record's offset, and the record decides the rest.
-- Assumes nothing.
use borrow.Author.Tests.{ne_eqb}
use Rattle.records.specs.Empty.{no_lock}
use Rattle.tables.specs.Words.{lock_of, lock_array}
use Rattle.tables.specs.ArrayLaws.{record-at}
use Rattle.locks.specs.Answer.{named}
use Rattle.locks.proofs.walk.named_at.Goals as goal

pub returns-then-words-at : goal.returns-then-words-at
unfolding named lock_of lock_array
returns-then-words-at c =
    rw (record-at lock_of 5 128 c.args.words.now c.args.i no_lock c.requires.1 c.requires.0, ne_eqb _ c.args.q.offset c.if-words-at.true)

pub returns : goal.returns
returns c = rw (← c.lock_at.ensures) c.is_named.ensures
