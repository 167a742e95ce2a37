-- `soundness::session_words::session_stands` meets its contract: the tests are those of the definition, in its order.
-- Assumes nothing.
use Rattle.std.proofs.Common.{rules, arith, ◌+◌, ◌*◌}
use Rattle.tables.specs.PartLaws.{part-row}
use Rattle.soundness.specs.InWords.{session_stands}
use Rattle.soundness.proofs.session_words.session_stands.Goals as goal

pub returns-then-number_free : goal.returns-then-number_free
unfolding session_stands
returns-then-number_free c =
    let long = c.requires.0 in
    let few = c.requires.1 in
    rw (part-row c.args.words.now (1 + 2 * c.args.i) 2 (omega arith)) (search rules)

pub returns-else-number_free : goal.returns-else-number_free
unfolding session_stands
returns-else-number_free c =
    let long = c.requires.0 in
    let few = c.requires.1 in
    rw (part-row c.args.words.now (1 + 2 * c.args.i) 2 (omega arith)) (search rules)
