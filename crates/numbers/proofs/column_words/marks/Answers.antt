-- `numbers::column_words::marks` meets its contract: each turn puts one number more in front of those that are marked.
-- Assumes nothing.
use mathlib.Core.Path.{◌≡◌, sym, ap, ◌∙◌}
use Prim.Native.Nat.{◌-◌}
use lib.ListN.{length}
use lib.Seq.{take_all}
use Rattle.lists.specs.Walk.{rest-none}
use Rattle.tables.specs.Words.{up_to}
use Rattle.numbers.specs.ByNumber.{entry, by_number}
use Rattle.numbers.specs.ColumnWords.{numbers_in, marks_of, length-numbers_in, number_at, number-inside, marks-turn, marks-past}
use native.Mathlib.Omega.{arith}
use Rattle.numbers.proofs.column_words.marks.Goals as goal

pub loop-i-init : goal.loop-i-init
unfolding marks_of by_number up_to entry
loop-i-init c = (omega arith, rw (rest-none (numbers_in c.args.step c.args.count c.args.words.now) c.args.count c.args.count (omega arith)))

pub overflow_mul-step : goal.overflow_mul-step
overflow_mul-step c =
    let args = c.args in
    let pre = c.requires in
    let loop = c.loop-i in
    let w = args.words.now in
    let at = number-inside args.step args.count (loop.i - 1) (length w) pre.0 (omega arith) pre.1.1 in
    omega arith

pub overflow_add-step : goal.overflow_add-step
overflow_add-step c =
    let args = c.args in
    let pre = c.requires in
    let loop = c.loop-i in
    let w = args.words.now in
    let at = number-inside args.step args.count (loop.i - 1) (length w) pre.0 (omega arith) pre.1.1 in
    omega arith

pub offset_bounds-words-step : goal.offset_bounds-words-step
offset_bounds-words-step c =
    let args = c.args in
    let pre = c.requires in
    let loop = c.loop-i in
    let w = args.words.now in
    let at = number-inside args.step args.count (loop.i - 1) (length w) pre.0 (omega arith) pre.1.1 in
    omega arith

pub bounds-words-step : goal.bounds-words-step
bounds-words-step c =
    let args = c.args in
    let pre = c.requires in
    let loop = c.loop-i in
    let w = args.words.now in
    let at = number-inside args.step args.count (loop.i - 1) (length w) pre.0 (omega arith) pre.1.1 in
    omega arith

pub loop-i-preserved-then-number-lt66 : goal.loop-i-preserved-then-number-lt66
loop-i-preserved-then-number-lt66 c =
    let args = c.args in
    let pre = c.requires in
    let loop = c.loop-i in
    let w = args.words.now in
    let xs = numbers_in args.step args.count w in
    let long : length xs ≡ args.count = length-numbers_in args.step args.count w in
    let same = number_at args.step args.count w (loop.i - 1) 0 (omega arith) ∙ sym c.low16-number.ensures in
    (omega arith, rw loop.invariant.1 (marks-turn xs args.count loop.i _ c.loop-i-test.true loop.invariant.0 (omega arith) same c.if-number-lt66.true))

pub loop-i-preserved : goal.loop-i-preserved
loop-i-preserved c =
    let args = c.args in
    let pre = c.requires in
    let loop = c.loop-i in
    let w = args.words.now in
    let xs = numbers_in args.step args.count w in
    let long : length xs ≡ args.count = length-numbers_in args.step args.count w in
    let same = number_at args.step args.count w (loop.i - 1) 0 (omega arith) ∙ sym c.low16-number.ensures in
    (omega arith, loop.invariant.1 ∙ marks-past xs args.count loop.i _ c.loop-i-test.true loop.invariant.0 (omega arith) same c.if-number-lt66.false)

pub returns : goal.returns
returns c =
    let args = c.args in
    let xs = numbers_in args.step args.count args.words.now in
    let long : length xs ≡ args.count = length-numbers_in args.step args.count args.words.now in
    let z : c.loop-i.i ≡ 0 = omega arith in
    (rw z at c.loop-i.invariant.1) ∙ ap marks_of (take_all args.count xs (omega arith))
