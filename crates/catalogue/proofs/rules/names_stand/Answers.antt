-- `catalogue::rules::names_stand` meets its contract: each name in use is tested. Assumes nothing.
use Rattle.std.proofs.Common.{◌∙◌, sym, rules}
use borrow.Author.Tests.{tests}
use Rattle.tables.specs.RangeLaws.{all-range}
use Rattle.catalogue.specs.InWords.{name_stands}
use Rattle.catalogue.specs.NameLaws.{names_stand}
use Rattle.catalogue.proofs.rules.names_stand.Goals as goal

pub returns : goal.returns
returns c =
    all-range (λ i. i) (name_stands c.args.words.now) c.all.ensures.ran (λ i b q e. search (rules, tests))
    ∙ sym (names_stand c.args.words.now c.requires.1)
