-- `catalogue::find::find_name` meets its contract: the names that it goes through are those in use. Assumes nothing.
use Rattle.std.proofs.Common.{ap, ◌∙◌, get_or, rules}
use borrow.Author.Tests.{tests}
use Rattle.lists.specs.Walk.{found}
use Rattle.records.specs.Empty.{no_name}
use Rattle.tables.specs.Words.{word, up_to, name_array}
use Rattle.tables.specs.ChangeLaws.{length-name_array}
use Rattle.tables.specs.RangeLaws.{position-range, up_to-take}
use Rattle.catalogue.specs.Name.{is_named}
use Rattle.catalogue.proofs.find.find_name.Goals as goal

pub returns : goal.returns
returns c =
    let w = c.args.words.now in
    let name = is_named c.args.name.now in
    position-range (λ i. get_or (name_array w) i no_name) name c.position.ensures.ran (λ i b q e. search (rules, tests))
    ∙ ap (λ n. found name (up_to (λ i. get_or (name_array w) i no_name) n)) c.in_use.ensures
    ∙ ap (found name) (up_to-take (name_array w) (word w 0) 16 no_name (length-name_array w))
