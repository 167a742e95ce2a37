-- `locks::unlock::remove_at` meets its contract: each turn moves one record forward, over the one in front of it.
-- Assumes nothing.
use mathlib.Core.Path.{◌≡◌, ◌∙◌}
use lib.ListN.{length, length-set}
use Rattle.records.specs.Empty.{no_lock}
use Rattle.tables.specs.Words.{word, lock_array}
use Rattle.tables.specs.ChangeLaws.{length-lock_array, lock_array-count, count_set}
use Rattle.locks.proofs.Lent.{held-count, fit-held, fit-counted, fit-within}
use Rattle.locks.proofs.Removed.{moved-start, moved-step, moved-end}
use native.Mathlib.Omega.{arith}
use Rattle.locks.proofs.unlock.remove_at.Goals as goal

pub loop-i-init : goal.loop-i-init
loop-i-init c =
    let words = c.args.words.now in
    let long : length (lock_array words) ≡ 128 = length-lock_array words in
    (omega arith, omega arith, c.requires.0, moved-start (lock_array words) c.args.place no_lock (omega arith), λ f. f)

pub lock_at-l-requires : goal.lock_at-l-requires
lock_at-l-requires c = (c.loop-i.invariant.2, omega arith)

pub put_lock-requires : goal.put_lock-requires
put_lock-requires c = (c.loop-i.invariant.2, omega arith)

pub loop-i-preserved : goal.loop-i-preserved
loop-i-preserved c =
    let words = c.args.words.now in
    let loop = c.loop-i in
    let wrote = c.put_lock in
    let long : length (lock_array words) ≡ 128 = length-lock_array words in (
      omega arith,
      omega arith,
      wrote.auto.words ∙ loop.invariant.2,
      wrote.ensures.array
          ∙ rw (c.lock_at-l.ensures, loop.invariant.3)
          (moved-step (lock_array words) c.args.place loop.i (omega arith) (omega arith) no_lock (omega arith)),
      λ f. fit-within _ _ (omega arith) wrote.ensures (loop.invariant.4 f),
    )

pub put_lock-requires-2 : goal.put_lock-requires-2
put_lock-requires-2 c = (c.loop-i.invariant.2, omega arith)

pub bounds-words-0-2 : goal.bounds-words-0-2
bounds-words-0-2 c = let l = c.loop-i.invariant.2 in let k = c.put_lock-2.auto.words in omega arith

pub shape_of-words : goal.shape_of-words
shape_of-words c = let l = c.loop-i.invariant.2 in let k = c.put_lock-2.auto.words in let h = c.requires.0 in simp length-set (omega arith)

pub returns : goal.returns
returns c =
    let words = c.args.words.now in
    let loop = c.loop-i in
    let wrote = c.put_lock-2 in
    let long : length (lock_array words) ≡ 128 = length-lock_array words in
    let sized : length wrote.new.words ≡ 641 = wrote.auto.words ∙ loop.invariant.2 in
    let at : loop.i ≡ word words 0 = omega arith in record {
      words_after = lock_array-count wrote.new.words _ (omega arith)
          ∙ wrote.ensures.array
          ∙ rw (loop.invariant.3, at) (moved-end (lock_array words) c.args.place (word words 0) (omega arith) (omega arith) no_lock);
      words_after_2 = count_set wrote.new.words _ (omega arith);
      words_after_3 = λ f.
          fit-counted wrote.new.words _ (omega arith) (omega arith)
          (fit-within (word words 0) _ (omega arith) wrote.ensures (loop.invariant.4 (fit-held words (word words 0) (held-count words (omega arith)) f)));
    }
