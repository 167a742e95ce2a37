-- `soundness::lock_words::locks_agree` meets its contract: what the walk has left says the same as the whole.
-- Assumes nothing.
use mathlib.Core.Path.{◌≡◌, refl, sym, ◌∙◌}
use lib.ListN.{length}
use native.Mathlib.Omega.{arith}
use Rattle.lists.specs.Walk.{all}
use Rattle.lists.specs.WalkLaws.{tails_end, tails-yes, tails-no}
use Rattle.records.specs.Empty.{no_lock}
use Rattle.locks.specs.Answer.{file_in}
use Rattle.tables.specs.Words.{word, lock_array}
use Rattle.tables.specs.ChangeLaws.{length-lock_array}
use Rattle.soundness.specs.Sound.{agree, agree_all}
use Rattle.soundness.proofs.lock_words.locks_agree.Goals as goal

pub loop-i-init : goal.loop-i-init
loop-i-init c = refl

pub agrees_later-requires : goal.agrees_later-requires
agrees_later-requires c = let pre = c.requires in record { words_len = (pre.words_len.0, (pre.words_len.1, omega arith)); words_value = pre.words_value; shared_from = c.exclusives_end-exclusives.ensures }

pub returns-then-not-agrees_later : goal.returns-then-not-agrees_later
unfolding agree_all
returns-then-not-agrees_later c =
    let words = c.args.words.now in
    let loop = c.loop-i in
    let later = c.agrees_later in
    let long : length (lock_array words) ≡ 128 = length-lock_array words in
    sym (loop.invariant ∙ tails-no (lock_array words) (word words 0) loop.i no_lock (omega arith) (omega arith) (λ l ms. all (agree (file_in c.args.files.now) l) ms) (sym later.ensures ∙ c.if-not-agrees_later.true))

pub loop-i-preserved : goal.loop-i-preserved
unfolding agree_all
loop-i-preserved c =
    let words = c.args.words.now in
    let loop = c.loop-i in
    let later = c.agrees_later in
    let long : length (lock_array words) ≡ 128 = length-lock_array words in
    loop.invariant ∙ tails-yes (lock_array words) (word words 0) loop.i no_lock (omega arith) (omega arith) (λ l ms. all (agree (file_in c.args.files.now) l) ms) (sym later.ensures ∙ c.if-not-agrees_later.false)

pub returns : goal.returns
unfolding agree_all
returns c =
    let args = c.args in
    sym (c.loop-i.invariant ∙ tails_end (lock_array args.words.now) (word args.words.now 0) (λ l ms. all (agree (file_in args.files.now) l) ms) c.loop-i.i c.loop-i-test.false)
