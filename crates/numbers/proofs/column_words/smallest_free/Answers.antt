-- `numbers::column_words::smallest_free` meets its contract: each number passed has a mark, and the numbers left to look at are those of the definition.
-- Assumes nothing.
use mathlib.Core.Path.{◌≡◌, sym, ap, ◌∙◌}
use Prim.Native.Nat.{ℕ, ◌+◌}
use mathlib.Core.List.{List}
use lib.ListN.{length, get_or}
use lib.Dec.{eqb}
use borrow.Author.Tests.{eq-eqb, ne_eqb}
use Rattle.numbers.specs.Number.{free_from, smallest_free, free-next, free-here, free-last}
use Rattle.numbers.specs.ColumnWords.{numbers_in, length-numbers_in, marks-read}
use native.Mathlib.Omega.{arith}
use Rattle.numbers.proofs.column_words.smallest_free.Goals as goal

pub loop-i-init : goal.loop-i-init
loop-i-init c = (ap (λ (k : ℕ). free_from k 1 (numbers_in c.args.step c.args.count c.args.words.now)) (omega arith))

pub returns-then-table-i-ne1 : goal.returns-then-table-i-ne1
unfolding smallest_free
returns-then-table-i-ne1 c =
    let args = c.args in
    let pre = c.requires in
    let w = args.words.now in
    let loop = c.loop-i in
    let xs = numbers_in args.step args.count w in
    let long : length xs ≡ args.count = length-numbers_in args.step args.count w in
    let mark = ap (λ (t : List ℕ). eqb (get_or t (loop.i + 1) 0) 1) c.marks-table.ensures ∙ marks-read xs (loop.i + 1) (omega arith) in
    rw long (sym (loop.invariant ∙ free-here args.count loop.i (loop.i + 1) xs c.loop-i-test.true (sym mark ∙ ne_eqb _ _ c.if-table-i-ne1.true)))

pub loop-i-preserved : goal.loop-i-preserved
loop-i-preserved c =
    let args = c.args in
    let pre = c.requires in
    let w = args.words.now in
    let loop = c.loop-i in
    let xs = numbers_in args.step args.count w in
    let long : length xs ≡ args.count = length-numbers_in args.step args.count w in
    let mark = ap (λ (t : List ℕ). eqb (get_or t (loop.i + 1) 0) 1) c.marks-table.ensures ∙ marks-read xs (loop.i + 1) (omega arith) in
    (loop.invariant ∙ free-next args.count loop.i (loop.i + 1) xs c.loop-i-test.true (sym mark ∙ eq-eqb _ _ c.if-table-i-ne1.false))

pub returns : goal.returns
unfolding smallest_free
returns c =
    let args = c.args in
    let pre = c.requires in
    let w = args.words.now in
    let loop = c.loop-i in
    let xs = numbers_in args.step args.count w in
    let long : length xs ≡ args.count = length-numbers_in args.step args.count w in
    let end : args.count + 1 ≡ loop.i + 1 = omega arith in
    rw long (end ∙ sym (loop.invariant ∙ free-last args.count loop.i (loop.i + 1) xs c.loop-i-test.false))
