-- `soundness::lock_words::agrees_later` meets its contract: a lock of no bytes stands with any; otherwise what the walk has left says the same
-- as the whole, and where it ends the lock stands with those left. Assumes nothing.
use mathlib.Core.Path.{◌≡◌, refl, sym, ◌∙◌}
use Prim.Native.Nat.{◌+◌, ◌≤◌, ◌<◌}
use lib.ListN.{length}
use native.Mathlib.Omega.{arith}
use Rattle.lists.specs.Walk.{rest}
use Rattle.lists.specs.WalkLaws.{all_yes, all-no}
use Rattle.records.specs.Empty.{no_lock}
use Rattle.locks.specs.Answer.{file_in}
use Rattle.tables.specs.Words.{word, lock_array}
use Rattle.tables.specs.ChangeLaws.{length-lock_array}
use Rattle.soundness.specs.Sound.{agree}
use Rattle.soundness.specs.AgreeLaws.{in_bounds, all-at, within, agree-empty, agree_left, compared-most}
use Rattle.soundness.proofs.lock_words.agrees_later.Goals as goal

pub returns-then-l-eq0 : goal.returns-then-l-eq0
returns-then-l-eq0 c =
    let args = c.args in
    let words = args.words.now in
    sym (agree-empty (file_in args.files.now) _ (rw c.lock_at-l.ensures at c.if-l-eq0.true) (rest (lock_array words) (word words 0) (args.i + 1)))

pub overflow_add-last : goal.overflow_add-last
overflow_add-last c =
    let args = c.args in
    let pre = c.requires in
    let words = args.words.now in
    let long : length (lock_array words) ≡ 128 = length-lock_array words in
    let bound = within c.lock_at-l.result (rw c.lock_at-l.ensures (all-at in_bounds (lock_array words) (word words 0) args.i no_lock (omega arith) (omega arith) pre.words_value)) in
    omega arith

pub loop-j-init : goal.loop-j-init
loop-j-init c =
    let args = c.args in
    let pre = c.requires in (
      omega arith,
      rw c.compared_to-end.ensures (compared-most c.lock_at-l.result.shared args.exclusives (word args.words.now 0) pre.shared_from.most),
      refl,
    )

pub agrees_at-requires : goal.agrees_at-requires
agrees_at-requires c =
    let args = c.args in
    let pre = c.requires in
    let words = args.words.now in
    let long : length (lock_array words) ≡ 128 = length-lock_array words in record { words_len = (pre.words_len.0, omega arith); length_nonzero = (omega arith, refl); no_lock_value = all-at in_bounds (lock_array words) (word words 0) c.loop-j.j no_lock (omega arith) (omega arith) pre.words_value; file_value = c.file_in-file.ensures }

pub returns-then-not-agrees_at : goal.returns-then-not-agrees_at
returns-then-not-agrees_at c =
    let args = c.args in
    let words = args.words.now in
    let loop = c.loop-j in
    let l = c.lock_at-l in
    let long : length (lock_array words) ≡ 128 = length-lock_array words in
    let few : word words 0 ≤ 128 = c.requires.words_len.1.0 in
    let most : c.compared_to-end.result ≤ word words 0 = loop.invariant.1 in
    let below : loop.j < c.compared_to-end.result = c.loop-j-test.true in
    sym (rw (← l.ensures) (loop.invariant.2 ∙ all-no (lock_array words) (word words 0) loop.j no_lock (omega arith) (omega arith) (agree (file_in args.files.now) l.result) (sym c.agrees_at.ensures ∙ c.if-not-agrees_at.true)))

pub loop-j-preserved : goal.loop-j-preserved
loop-j-preserved c =
    let args = c.args in
    let words = args.words.now in
    let loop = c.loop-j in
    let l = c.lock_at-l in
    let long : length (lock_array words) ≡ 128 = length-lock_array words in
    let few : word words 0 ≤ 128 = c.requires.words_len.1.0 in
    let most : c.compared_to-end.result ≤ word words 0 = loop.invariant.1 in
    let below : loop.j < c.compared_to-end.result = c.loop-j-test.true in
    (omega arith, loop.invariant.1, loop.invariant.2 ∙ all_yes (lock_array words) (word words 0) loop.j no_lock (omega arith) (omega arith) (agree (file_in args.files.now) l.result) (sym c.agrees_at.ensures ∙ c.if-not-agrees_at.false))

pub returns : goal.returns
returns c =
    let args = c.args in
    let pre = c.requires in
    let l = c.lock_at-l in
    let loop = c.loop-j in
    sym (rw (← l.ensures) (loop.invariant.2 ∙ agree_left (file_in args.files.now) l.result loop.j pre.shared_from (rw c.compared_to-end.ensures at c.loop-j-test.false)))
