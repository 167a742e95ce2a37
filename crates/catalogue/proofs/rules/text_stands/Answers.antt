-- `catalogue::rules::text_stands` meets its contract: each of the twelve words is tested. Assumes nothing.
use Rattle.std.proofs.Common.{◌+◌, rules}
use borrow.Author.Tests.{tests}
use Rattle.tables.specs.Words.{word}
use Rattle.tables.specs.RangeLaws.{all-range}
use Rattle.catalogue.specs.InWords.{byte_stands, text_stands}
use Rattle.catalogue.proofs.rules.text_stands.Goals as goal

pub returns : goal.returns
unfolding text_stands
returns c =
    all-range (λ k. k) (λ k. byte_stands c.args.n (word c.args.words.now (c.args.from + k)) k) c.all.ensures.ran (λ k b q e. search (rules, tests))
