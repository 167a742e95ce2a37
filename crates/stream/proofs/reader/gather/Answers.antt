-- `stream::reader::gather` meets its contract: each answer is the definition's, given the tests before it.
-- Assumes nothing.
use mathlib.Core.Path.{sym, ap, ◌∙◌}
use Prim.Native.Nat.{◌+◌, ◌-◌}
use lib.ListN.{length}
use Rattle.stream.specs.declared.state.State.{State}
use Rattle.stream.specs.Reader.{NoMessage, InPiece, InBuffer}
use Rattle.stream.specs.Reader.{Read, step_of}
use Rattle.stream.proofs.Gathering.{gather-wanted, gather-part, gather-whole}
use Rattle.stream.proofs.reader.gather.Goals as goal

pub returns-then-there-missing : goal.returns-then-there-missing
returns-then-there-missing c =
    let e = gather-wanted c.args.size c.args.got c.args.buffer.now c.args.piece.now c.args.at c.if-there-missing.true c.add_bytes.new.buffer c.add_bytes.ensures in
    record { value = c.answer.ensures ∙ ap (λ (x : State). step_of 0 (length c.args.piece.now) NoMessage x) c.message_begun.ensures ∙ sym (ap (λ (x : Read). x.step) e); buffer_after = sym (ap (λ (x : Read). x.buffer) e) }

pub returns-then-got-eq0 : goal.returns-then-got-eq0
returns-then-got-eq0 c =
    let e = gather-part c.args.size c.args.got c.args.buffer.now c.args.piece.now c.args.at c.if-there-missing.false c.if-got-eq0.true in
    record { value = c.answer-then-got-eq0.ensures ∙ ap (λ (x : State). step_of 0 (c.args.at + (c.args.size - c.args.got)) (InPiece c.args.at c.args.size) x) c.start.ensures ∙ sym (ap (λ (x : Read). x.step) e); buffer_after = sym (ap (λ (x : Read). x.buffer) e) }

pub returns : goal.returns
returns c =
    let e = gather-whole c.args.size c.args.got c.args.buffer.now c.args.piece.now c.args.at c.if-there-missing.false c.if-got-eq0.false c.add_bytes-2.new.buffer c.add_bytes-2.ensures in
    record { value = c.answer-2.ensures ∙ ap (λ (x : State). step_of 0 (c.args.at + (c.args.size - c.args.got)) (InBuffer c.args.size) x) c.start-2.ensures ∙ sym (ap (λ (x : Read). x.step) e); buffer_after = sym (ap (λ (x : Read). x.buffer) e) }
