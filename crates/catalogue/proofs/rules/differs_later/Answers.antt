-- `catalogue::rules::differs_later` meets its contract: what the walk has left says the same as the whole. Assumes nothing.
use Rattle.std.proofs.Common.{◌≡◌, ◌+◌, length, get_or, arith, rules}
use borrow.Author.Tests.{tests}
use Rattle.lists.specs.Walk.{all, rest}
use Rattle.lists.specs.WalkLaws.{all_yes, all-no, all_end}
use Rattle.records.specs.Empty.{no_name}
use Rattle.tables.specs.Words.{word, name_array}
use Rattle.tables.specs.ChangeLaws.{length-name_array}
use Rattle.tables.specs.RangeLaws.{all-walk}
use Rattle.catalogue.specs.Name.{differ}
use Rattle.catalogue.proofs.rules.differs_later.Goals as goal

pub returns : goal.returns
unfolding differ
returns c =
    let w = c.args.words.now in
    let xs = name_array w in
    let n = word w 0 in
    let long : length xs ≡ 16 = length-name_array w in
    let name = get_or xs c.args.i no_name in
    all-walk (λ j. differ name (get_or xs j no_name)) (λ j. all (differ name) (rest xs n j)) (c.args.i + 1) n (omega arith)
    (λ j from below h. all_yes xs n j no_name below (omega arith) (differ name) h)
    (λ j from below h. all-no xs n j no_name below (omega arith) (differ name) h)
    (all_end xs n (differ name) n (omega arith))
    c.all.ensures.ran
    (λ j b q e. search (rules, tests))
