-- `locks::grants::append_locks` meets its contract: each turn writes one lock behind those that the words hold.
-- Assumes nothing.
use mathlib.Core.Path.{◌≡◌, ◌∙◌}
use Prim.Native.Nat.{◌+◌, ◌-◌}
use lib.ListN.{length, length-set}
use Rattle.tables.specs.Words.{lock_array}
use Rattle.tables.specs.ChangeLaws.{length-lock_array, lock_array-count, count_set}
use Rattle.locks.proofs.Lent.{fit-counted, fit-behind}
use Rattle.locks.proofs.Appended.{appended-start, appended-more}
use native.Mathlib.Omega.{arith}
use Rattle.locks.proofs.grants.append_locks.Goals as goal

pub loop-k-init : goal.loop-k-init
loop-k-init c =
    let args = c.args in
    let long : length (lock_array args.words.now) ≡ 128 = length-lock_array args.words.now in
    let first : args.held + (args.q.unlocks - args.q.unlocks) ≡ args.held = omega arith in (
      omega arith,
      omega arith,
      c.requires.0,
      appended-start (lock_array args.words.now) args.held args.q args.area.now (omega arith),
      λ f. rw first f,
    )

pub put_lock-requires : goal.put_lock-requires
put_lock-requires c = (c.loop-k.invariant.2, omega arith)

pub loop-k-preserved : goal.loop-k-preserved
loop-k-preserved c =
    let args = c.args in
    let loop = c.loop-k in
    let wrote = c.put_lock in
    let long : length (lock_array args.words.now) ≡ 128 = length-lock_array args.words.now in (
      omega arith,
      omega arith,
      wrote.auto.words ∙ loop.invariant.2,
      wrote.ensures.array
          ∙ rw (loop.invariant.3, c.lock_of.ensures, c.range_of.ensures)
          (
          appended-more (lock_array args.words.now) args.held args.q args.area.now
          (omega arith) loop.k (omega arith) (omega arith)
          ),
      λ f. fit-behind (args.held + (loop.k - args.q.unlocks)) _ (omega arith) wrote.ensures (loop.invariant.4 f),
    )

pub bounds-words-0 : goal.bounds-words-0
bounds-words-0 c = let l = c.loop-k.invariant.2 in omega arith

pub shape_of-words : goal.shape_of-words
shape_of-words c = let l = c.loop-k.invariant.2 in let h = c.requires.0 in simp length-set (omega arith)

pub returns : goal.returns
returns c =
    let args = c.args in
    let loop = c.loop-k in
    let full = loop.invariant.2 in
    let at : loop.k ≡ args.q.unlocks + args.q.locks = omega arith in
    let asked : args.q.unlocks + args.q.locks - args.q.unlocks ≡ args.q.locks = omega arith in record { words_after = lock_array-count loop.words _ (omega arith) ∙ rw (at, asked) at loop.invariant.3; words_after_2 = count_set loop.words _ (omega arith) ∙ rw asked; words_after_3 = λ f. fit-counted loop.words _ (omega arith) (omega arith) (rw at at (loop.invariant.4 f)) }
