-- `soundness::lock_words::locks_fit` meets its contract: the test of a lock's words is that of its rule, for each in use.
-- Assumes nothing.
use Rattle.std.proofs.Common.{◌≡◌, ℕ, ◌<◌, ◌≤◌, length, sym, ap, ◌∙◌, get_or, arith, rules}
use mathlib.Core.List.{[]}
use borrow.Author.Tests.{tests}
use Rattle.lists.specs.Walk.{all, rest}
use Rattle.lists.specs.WalkLaws.{all_end, all_yes, all-no}
use Rattle.tables.specs.Words.{word, record_at}
use Rattle.tables.specs.ArrayLaws.{length-up_to, get_d-up_to}
use Rattle.tables.specs.RangeLaws.{all-walk}
use Rattle.soundness.specs.InWords.{rows, lock_stands}
use Rattle.soundness.specs.InWordsLaws.{lock_rule, lock-stands, locks-stand}
use Rattle.soundness.proofs.lock_words.locks_fit.Goals as goal

pub returns : goal.returns
returns c =
    let pre = c.requires in
    let w = c.args.words.now in
    let files = c.args.files.now in
    let few : word w 0 ≤ 128 = pre.1.1 in
    let long : length (rows 5 128 w) ≡ 128 = length-up_to (record_at 5 w) 128 in
    let same : (i : ℕ) → i < word w 0 → lock_rule files (get_or (rows 5 128 w) i []) ≡ lock_stands files (record_at 5 w i) =
    λ i below. ap (lock_rule files) (get_d-up_to (record_at 5 w) 128 i [] (omega arith)) ∙ sym (lock-stands w i files pre.1.0 (omega arith) (λ k. omega (arith, c.type_inv.words k)) (omega arith)) in
    all-walk (λ i. lock_stands files (record_at 5 w i)) (λ i. all (lock_rule files) (rest (rows 5 128 w) (word w 0) i)) 0 (word w 0) (omega arith)
    (λ i from below h. all_yes (rows 5 128 w) (word w 0) i [] below (omega arith) (lock_rule files) (same i below ∙ h))
    (λ i from below h. all-no (rows 5 128 w) (word w 0) i [] below (omega arith) (lock_rule files) (same i below ∙ h))
    (all_end (rows 5 128 w) (word w 0) (lock_rule files) (word w 0) (omega arith))
    c.all.ensures.ran (λ i b q e. search (rules, tests))
    ∙ locks-stand w files
