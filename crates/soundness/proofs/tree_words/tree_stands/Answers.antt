-- `soundness::tree_words::tree_stands` meets its contract: the tests are those of the definition, in its order.
-- Assumes nothing.
use Rattle.std.proofs.Common.{rules, arith, ◌+◌, ◌*◌}
use Rattle.tables.specs.PartLaws.{part-row}
use Rattle.soundness.specs.InWords.{tree_stands}
use Rattle.soundness.proofs.tree_words.tree_stands.Goals as goal

pub returns-then-words-at-le1 : goal.returns-then-words-at-le1
unfolding tree_stands
returns-then-words-at-le1 c =
    let long = c.requires.0 in
    let few = c.requires.1 in
    rw (part-row c.args.words.now (1 + 3 * c.args.i) 3 (omega arith)) (search rules)

pub returns-else-words-at-le1 : goal.returns-else-words-at-le1
unfolding tree_stands
returns-else-words-at-le1 c =
    let long = c.requires.0 in
    let few = c.requires.1 in
    rw (part-row c.args.words.now (1 + 3 * c.args.i) 3 (omega arith)) (search rules)
