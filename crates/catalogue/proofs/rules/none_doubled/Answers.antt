-- `catalogue::rules::none_doubled` meets its contract: what the walk has left says the same as the whole. Assumes nothing.
use Rattle.std.proofs.Common.{◌≡◌, ◌+◌, length, get_or, arith, rules}
use borrow.Author.Tests.{tests}
use Rattle.lists.specs.Walk.{all, rest}
use Rattle.lists.specs.WalkLaws.{tails-yes, tails-no, tails_end}
use Rattle.records.specs.Empty.{no_name}
use Rattle.tables.specs.Words.{word, name_array}
use Rattle.tables.specs.ChangeLaws.{length-name_array}
use Rattle.tables.specs.RangeLaws.{all-walk}
use Rattle.catalogue.specs.Name.{differ, none_doubled}
use Rattle.catalogue.proofs.rules.none_doubled.Goals as goal

pub returns : goal.returns
unfolding none_doubled
returns c =
    let w = c.args.words.now in
    let xs = name_array w in
    let n = word w 0 in
    let long : length xs ≡ 16 = length-name_array w in
    all-walk (λ i. all (differ (get_or xs i no_name)) (rest xs n (i + 1))) (λ i. none_doubled (rest xs n i)) 0 n (omega arith)
    (λ i from below h. tails-yes xs n i no_name below (omega arith) (λ m later. all (differ m) later) h)
    (λ i from below h. tails-no xs n i no_name below (omega arith) (λ m later. all (differ m) later) h)
    (tails_end xs n (λ m later. all (differ m) later) n (omega arith))
    c.all.ensures.ran
    (λ i b q e. search (rules, tests))
