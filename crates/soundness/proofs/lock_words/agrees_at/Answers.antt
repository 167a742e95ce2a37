-- `soundness::lock_words::agrees_at` meets its contract: each test that answers early is one of "both shared" and "apart"; the others meet.
-- Assumes nothing.
use mathlib.Core.Path.{◌≡◌, sym, ◌∙◌}
use Prim.Native.Nat.{◌+◌, ◌*◌}
use native.Mathlib.Omega.{arith}
use mathlib.Core.Bool.{false, ◌&&◌}
use Rattle.locks.specs.Answer.{file_in}
use Rattle.tables.specs.Words.{lock_of}
use Rattle.tables.specs.PartLaws.{row}
use Rattle.soundness.specs.InWordsLaws.{lock-row}
use Rattle.soundness.specs.AgreeLaws.{within, agree-shared, agree-apart, agree-met, apart-empty, apart-before, apart-behind, meet}
use Rattle.soundness.proofs.lock_words.agrees_at.Goals as goal

pub returns-then-last-first : goal.returns-then-last-first
unfolding lock_of
returns-then-last-first c =
    let args = c.args in
    let pre = c.requires in
    let file = file_in args.files.now in
    let m = lock_of (row args.words.now (1 + 5 * args.j) 5) in
    let same = lock-row args.words.now args.j pre.words_len.1 pre.words_len.0 in
    sym (rw same (agree-apart file args.l m (apart-before _ _ _ _ pre.length_nonzero.0 (rw pre.length_nonzero.1 at c.if-last-first.true))))

pub returns-then-both_shared : goal.returns-then-both_shared
unfolding lock_of
returns-then-both_shared c =
    let args = c.args in
    let pre = c.requires in
    let file = file_in args.files.now in
    let m = lock_of (row args.words.now (1 + 5 * args.j) 5) in
    let same = lock-row args.words.now args.j pre.words_len.1 pre.words_len.0 in
    sym (rw same (agree-shared file args.l m (sym c.both_shared.ensures ∙ c.if-both_shared.true)))

pub returns-then-count-eq0 : goal.returns-then-count-eq0
unfolding lock_of
returns-then-count-eq0 c =
    let args = c.args in
    let pre = c.requires in
    let file = file_in args.files.now in
    let m = lock_of (row args.words.now (1 + 5 * args.j) 5) in
    let same = lock-row args.words.now args.j pre.words_len.1 pre.words_len.0 in
    sym (rw same (agree-apart file args.l m (apart-empty _ _ _ _ c.if-count-eq0.true)))

pub overflow_add-first-2 : goal.overflow_add-first-2
unfolding lock_of
overflow_add-first-2 c =
    let args = c.args in
    let pre = c.requires in
    let same = lock-row args.words.now args.j pre.words_len.1 pre.words_len.0 in
    let bound = within (lock_of (row args.words.now (1 + 5 * args.j) 5)) (rw same at pre.no_lock_value) in
    omega arith

pub returns-then-first-count : goal.returns-then-first-count
unfolding lock_of
returns-then-first-count c =
    let args = c.args in
    let pre = c.requires in
    let file = file_in args.files.now in
    let m = lock_of (row args.words.now (1 + 5 * args.j) 5) in
    let same = lock-row args.words.now args.j pre.words_len.1 pre.words_len.0 in
    sym (rw same (agree-apart file args.l m (apart-behind _ _ _ _ (omega arith) c.if-first-count.true)))

pub returns : goal.returns
unfolding lock_of
returns c =
    let args = c.args in
    let pre = c.requires in
    let file = file_in args.files.now in
    let m = lock_of (row args.words.now (1 + 5 * args.j) 5) in
    let same = lock-row args.words.now args.j pre.words_len.1 pre.words_len.0 in
    let apart : args.l.shared && m.shared ≡ false = sym c.both_shared.ensures ∙ c.if-both_shared.false in
    let met = agree-met file args.l m apart (meet _ _ _ _ pre.length_nonzero.0 (omega arith) (omega arith) (omega arith)) in
    rw (pre.file_value, c.file_in.ensures, c.low16.ensures) (sym (rw same met))
