-- `tables::lock::put_lock` meets its contract: the words stored one by one are one write of the record. Assumes nothing.
use mathlib.Core.Path.{refl}
use native.Mathlib.Omega.{arith}
use lib.ListN.{length-set}
use Rattle.tables.specs.Words.{lock_of, lock_array, lock_limits}
use Rattle.tables.specs.Written.{lock_words}
use Rattle.tables.specs.ArrayLaws.{wrote}
use Rattle.tables.specs.RecordLaws.{Within, flag-narrow, lock-back}
use Rattle.tables.proofs.lock.put_lock.Goals as goal

pub bounds-words-at-2 : goal.bounds-words-at-2
bounds-words-at-2 c = simp length-set (omega arith)

pub bounds-words-at-3 : goal.bounds-words-at-3
bounds-words-at-3 c = simp length-set (omega arith)

pub bounds-words-at-4 : goal.bounds-words-at-4
bounds-words-at-4 c = simp length-set (omega arith)

pub bounds-words-at-5 : goal.bounds-words-at-5
bounds-words-at-5 c = simp length-set (omega arith)

pub returns : goal.returns
unfolding lock_array
returns c =
    let start = c in
    let args = start.args in
    let narrow : Within lock_limits (lock_words args.l) = (omega arith, (omega arith, (omega arith, (omega arith, (flag-narrow args.l.shared, tt))))) in
    rw (c.from.ensures, c.from-2.ensures, c.flag.ensures)
    (wrote lock_of lock_limits 128 args.words.now (lock_words args.l) args.i args.l start.requires.1 start.requires.0 refl narrow (lock-back args.l narrow))
