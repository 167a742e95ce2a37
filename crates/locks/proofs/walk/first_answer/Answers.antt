-- `locks::walk::first_answer` meets its contract: the locks ahead give the same answer as the whole list.
-- Assumes nothing.
use mathlib.Core.Path.{◌≡◌, sym, ◌∙◌}
use native.Mathlib.Omega.{arith}
use lib.ListN.{length}
use Rattle.lists.specs.FoundLaws.{passed_start, passed_here, passed-more, found_from-none}
use Rattle.lists.specs.Walk.{rest-most}
use Rattle.records.specs.Empty.{no_lock}
use Rattle.tables.specs.Words.{lock_array}
use Rattle.tables.specs.ChangeLaws.{length-lock_array}
use Rattle.locks.proofs.walk.first_answer.Goals as goal

pub loop-i-init : goal.loop-i-init
loop-i-init c = passed_start

pub returns-then-answers_at : goal.returns-then-answers_at
returns-then-answers_at c =
    let words = c.args.words.now in
    let few = c.in_use-i-end.ensures in
    let long : length (lock_array words) ≡ 128 = length-lock_array words in
    passed_here c.loop-i.invariant no_lock (omega arith) (omega arith) (sym c.answers_at.ensures ∙ c.if-answers_at.true)

pub loop-i-preserved : goal.loop-i-preserved
loop-i-preserved c =
    let words = c.args.words.now in
    let few = c.in_use-i-end.ensures in
    let long : length (lock_array words) ≡ 128 = length-lock_array words in
    passed-more c.loop-i.invariant no_lock (omega arith) (omega arith) (sym c.answers_at.ensures ∙ c.if-answers_at.false)

pub returns : goal.returns
returns c =
    let words = c.args.words.now in
    let few = c.in_use-i-end.ensures in
    found_from-none _ _ c.loop-i.i (rest-most (lock_array words) _ 128 c.loop-i.i (length-lock_array words) (omega arith)) ∙ sym c.loop-i.invariant.same
