-- `tables::open::put_open` meets its contract: the words stored one by one are one write of the record. Assumes nothing.
use mathlib.Core.Path.{refl}
use native.Mathlib.Omega.{arith}
use lib.ListN.{length-set}
use Rattle.tables.specs.Words.{open_of, open_array, open_limits}
use Rattle.tables.specs.Written.{open_words}
use Rattle.tables.specs.ArrayLaws.{wrote}
use Rattle.tables.specs.RecordLaws.{Within, flag-narrow, open-back}
use Rattle.tables.proofs.open.put_open.Goals as goal

pub bounds-words-at-2 : goal.bounds-words-at-2
bounds-words-at-2 c = simp length-set (omega arith)

pub bounds-words-at-3 : goal.bounds-words-at-3
bounds-words-at-3 c = simp length-set (omega arith)

pub bounds-words-at-4 : goal.bounds-words-at-4
bounds-words-at-4 c = simp length-set (omega arith)

pub bounds-words-at-5 : goal.bounds-words-at-5
bounds-words-at-5 c = simp length-set (omega arith)

pub bounds-words-at-6 : goal.bounds-words-at-6
bounds-words-at-6 c = simp length-set (omega arith)

pub bounds-words-at-7 : goal.bounds-words-at-7
bounds-words-at-7 c = simp length-set (omega arith)

pub bounds-words-at-8 : goal.bounds-words-at-8
bounds-words-at-8 c = simp length-set (omega arith)

pub bounds-words-at-9 : goal.bounds-words-at-9
bounds-words-at-9 c = simp length-set (omega arith)

pub shape_of-words : goal.shape_of-words
shape_of-words c = simp length-set (omega arith)

pub returns : goal.returns
unfolding open_array
returns c =
    let narrow : Within open_limits (open_words c.args.o) = (omega arith, (omega arith, (omega arith, (omega arith, (omega arith, (omega arith, (omega arith, (flag-narrow c.args.o.read, (omega arith, tt))))))))) in
    rw (c.from.ensures, c.from-2.ensures, c.from-3.ensures, c.from-4.ensures, c.from-5.ensures, c.from-6.ensures, c.from-7.ensures, c.flag.ensures)
    (wrote open_of open_limits 64 c.args.words.now (open_words c.args.o) c.args.i c.args.o c.requires.1 c.requires.0 refl narrow (open-back c.args.o narrow))
