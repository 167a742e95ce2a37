-- `numbers::column_words::has_number` meets its contract: the numbers tested are those of the records.
-- Assumes nothing.
use Rattle.std.proofs.Common.{◌+◌, ◌*◌, ◌%◌, eqb, rules}
use borrow.Author.Tests.{tests}
use Rattle.tables.specs.Words.{word}
use Rattle.tables.specs.RangeLaws.{any-range}
use Rattle.numbers.specs.Number.{contains}
use Rattle.numbers.specs.ColumnWords.{numbers_in}
use Rattle.numbers.proofs.column_words.has_number.Goals as goal

pub returns : goal.returns
unfolding contains numbers_in
returns c =
    let args = c.args in
    any-range (λ i. word args.words.now (1 + args.step * i) % 65536) (λ x. eqb x args.number) c.any.ensures.ran (λ i b q k. search (rules, tests))
