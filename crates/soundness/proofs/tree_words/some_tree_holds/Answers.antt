-- `soundness::tree_words::some_tree_holds` meets its contract: the trees that it goes through are those in use.
-- Assumes nothing.
use Rattle.std.proofs.Common.{ap, ◌∙◌, get_or, rules}
use borrow.Author.Tests.{tests}
use Rattle.lists.specs.Walk.{any}
use Rattle.records.specs.Empty.{no_tree}
use Rattle.tables.specs.Words.{word, up_to, tree_array}
use Rattle.tables.specs.ChangeLaws.{length-tree_array}
use Rattle.tables.specs.RangeLaws.{any-range, up_to-take}
use Rattle.soundness.specs.Sound.{holds_open}
use Rattle.soundness.proofs.tree_words.some_tree_holds.Goals as goal

pub returns : goal.returns
returns c =
    let w = c.args.words.now in
    let holds = holds_open c.args.o in
    any-range (λ i. get_or (tree_array w) i no_tree) holds c.any.ensures.ran (λ i b q e. search (rules, tests))
    ∙ ap (λ n. any holds (up_to (λ i. get_or (tree_array w) i no_tree) n)) c.in_use.ensures
    ∙ ap (any holds) (up_to-take (tree_array w) (word w 0) 32 no_tree (length-tree_array w))
