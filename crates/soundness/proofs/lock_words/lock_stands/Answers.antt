-- `soundness::lock_words::lock_stands` meets its contract: the tests are those of the definition, in its order.
-- Assumes nothing.
use Rattle.std.proofs.Common.{rules, arith, ◌+◌, ◌*◌}
use borrow.Author.Tests.{ltb-true}
use mathlib.Core.Path.{sym, ◌∙◌}
use mathlib.Core.Bool.{false≢true}
use Rattle.lists.specs.Places.{get_d-within}
use Rattle.tables.specs.PartLaws.{part-row}
use Rattle.soundness.specs.InWords.{lock_stands}
use Rattle.soundness.proofs.lock_words.lock_stands.Goals as goal
use Rattle.soundness.proofs.lock_words.lock_stands.Goals.{then-not-passes_end, else-not-passes_end}

pub returns-then-fid-files : goal.returns-then-fid-files
unfolding lock_stands
returns-then-fid-files c =
    let long = c.requires.0 in
    let few = c.requires.1 in
    elim c.if-not-passes_end.branch [
      | then-not-passes_end w ↦
          let inside = ltb-true _ _ (sym w.value-is ∙ c.if-fid-files.true) in
          rw (part-row c.args.words.now (1 + 5 * c.args.i) 5 (omega arith), ← (get_d-within c.args.files.now _ 0 255 inside)) (search rules)
      | else-not-passes_end w ↦ absurd (false≢true (sym w.if-not-passes_end.false ∙ sym w.value-is ∙ c.if-fid-files.true))
    ]

pub returns-else-fid-files : goal.returns-else-fid-files
unfolding lock_stands
returns-else-fid-files c =
    let long = c.requires.0 in
    let few = c.requires.1 in
    rw (part-row c.args.words.now (1 + 5 * c.args.i) 5 (omega arith)) (search rules)
