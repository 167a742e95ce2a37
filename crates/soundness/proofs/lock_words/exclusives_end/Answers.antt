-- `soundness::lock_words::exclusives_end` meets its contract: each turn finds one shared lock more, in front of those found.
-- Assumes nothing.
use mathlib.Core.Path.{◌≡◌}
use Prim.Native.Nat.{◌+◌, ◌-◌, ◌*◌, ◌%◌}
use mathlib.Core.Bool.{true}
use lib.ListN.{length, get_or}
use borrow.Author.Tests.{eq-eqb}
use native.Mathlib.Omega.{arith}
use Rattle.records.specs.Empty.{no_lock}
use Rattle.tables.specs.Words.{word, lock_of, lock_array}
use Rattle.tables.specs.ChangeLaws.{length-lock_array}
use Rattle.soundness.specs.InWordsLaws.{lock-row}
use Rattle.soundness.specs.AgreeLaws.{shared-none, shared-more}
use Rattle.soundness.proofs.lock_words.exclusives_end.Goals as goal

pub loop-i-init : goal.loop-i-init
loop-i-init c = shared-none (lock_array c.args.words.now) (word c.args.words.now 0)

pub loop-i-preserved : goal.loop-i-preserved
unfolding lock_of
loop-i-preserved c =
    let words = c.args.words.now in
    let i = c.loop-i.i in
    let long : length (lock_array words) ≡ 128 = length-lock_array words in
    let place : 1 + 5 * (i - 1) + 4 ≡ 5 * (i - 1) + 5 = omega arith in
    let shared : (get_or (lock_array words) (i - 1) no_lock).shared ≡ true =
    rw (lock-row words (i - 1) (omega arith) c.requires.0, place) (eq-eqb (word words (5 * (i - 1) + 5) % 2) 1 c.if-words-i-ne1.false)
    in
    shared-more c.loop-i.invariant no_lock c.loop-i-test.true (omega arith) shared
