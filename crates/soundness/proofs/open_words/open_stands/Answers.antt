-- `soundness::open_words::open_stands` meets its contract: the tests are those of the definition, in its order.
-- Assumes nothing.
use Rattle.std.proofs.Common.{rules, arith, ◌+◌, ◌*◌}
use Rattle.tables.specs.PartLaws.{part-row}
use Rattle.soundness.specs.Sound.{sharing_ok}
use Rattle.soundness.specs.InWords.{open_stands}
use Rattle.soundness.proofs.open_words.open_stands.Goals as goal

pub returns-then-words-at-le1 : goal.returns-then-words-at-le1
unfolding open_stands sharing_ok
returns-then-words-at-le1 c =
    let long = c.requires.0 in
    let few = c.requires.1 in
    rw (part-row c.args.words.now (1 + 9 * c.args.i) 9 (omega arith)) (search rules)

pub returns-else-words-at-le1 : goal.returns-else-words-at-le1
unfolding open_stands sharing_ok
returns-else-words-at-le1 c =
    let long = c.requires.0 in
    let few = c.requires.1 in
    rw (part-row c.args.words.now (1 + 9 * c.args.i) 9 (omega arith)) (search rules)
