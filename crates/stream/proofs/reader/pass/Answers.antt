-- `stream::reader::pass` meets its contract: the rest at the place begins as the whole does from the start on.
-- Assumes nothing.
use mathlib.Core.Path.{refl, sym, ap, ◌∙◌}
use Rattle.std.specs.Prelude.{Ok}
use Rattle.stream.specs.declared.header.Header.{Header}
use Rattle.stream.specs.Told.{number_of, judged_of}
use Prim.Native.Nat.{◌+◌, ◌-◌, ◌≤◌, ◌<◌}
use lib.ListN.{length}
use native.Mathlib.Omega.{arith}
use Rattle.stream.proofs.Passing.{pass-bad, pass-body, pass-alive, pass-short}
use Rattle.stream.proofs.reader.pass.Goals as goal

pub loop-at-init : goal.loop-at-init
loop-at-init c = (c.requires, refl)

pub overflow_sub-piece : goal.overflow_sub-piece
overflow_sub-piece c = omega arith

pub judge_at-requires : goal.judge_at-requires
judge_at-requires c = omega arith

pub overflow_add-result : goal.overflow_add-result
overflow_add-result c = omega arith

pub returns-in-Err : goal.returns-in-Err
returns-in-Err c =
    let long : c.loop-at.at + 4 ≤ length c.args.piece.now = omega arith in
    pass-bad c.args.piece.now c.args.from c.loop-at.at c.loop-at.invariant.1 long (number_of c.in-Err.refusal) (sym c.judge_at.ensures ∙ ap judged_of c.in-Err.is)

pub overflow_add-result-in-Message : goal.overflow_add-result-in-Message
overflow_add-result-in-Message c = omega arith

pub returns-in-Message : goal.returns-in-Message
returns-in-Message c =
    let long : c.loop-at.at + 4 ≤ length c.args.piece.now = omega arith in
    pass-body c.args.piece.now c.args.from c.loop-at.at c.loop-at.invariant.1 long c.in-Message.size (sym c.judge_at.ensures ∙ ap judged_of c.in-Ok.is ∙ ap (λ (h : Header). judged_of (Ok h)) c.in-Message.is)

pub overflow_add-at : goal.overflow_add-at
overflow_add-at c = omega arith

pub loop-at-smaller : goal.loop-at-smaller
loop-at-smaller c = omega arith

pub loop-at-preserved : goal.loop-at-preserved
loop-at-preserved c =
    let long : c.loop-at.at + 4 ≤ length c.args.piece.now = omega arith in
    (omega arith, pass-alive c.args.piece.now c.args.from c.loop-at.at c.loop-at.invariant.1 long (sym c.judge_at.ensures ∙ ap judged_of c.in-Ok.is ∙ ap (λ (h : Header). judged_of (Ok h)) c.in_default.is))

pub slice_bounds-header_begun-count : goal.slice_bounds-header_begun-count
slice_bounds-header_begun-count c = omega arith

pub returns : goal.returns
returns c =
    let few : length c.args.piece.now - c.loop-at.at < 4 = omega arith in
    rw c.header_begun.ensures (pass-short c.args.piece.now c.args.from c.loop-at.at c.loop-at.invariant.1 few)
