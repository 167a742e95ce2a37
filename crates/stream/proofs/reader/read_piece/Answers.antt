-- `stream::reader::read_piece` meets its contract: the refusals in their order, then what the headers or the begun message make of the piece.
-- Assumes nothing.
use mathlib.Core.Path.{◌≡◌, sym, ap, ◌∙◌}
use Prim.Native.Nat.{ℕ}
use lib.ListN.{length}
use Rattle.stream.specs.Told.{number_of, seen_told}
use native.Mathlib.Omega.{arith}
use Rattle.stream.specs.declared.state.State.{State}
use Rattle.stream.specs.Reader.{NoMessage}
use Rattle.stream.specs.Reader.{Read, step_of, refused}
use Rattle.stream.specs.StateLaws.{header-says, is-left-stopped, is-left-header, is-left-message}
use Rattle.stream.specs.ReaderLaws.{read-not-left, read-stopped, read-message, read_short, read-bad, read-body, body-place, body-limit}
use borrow.Author.Rules.{rules}
use Rattle.stream.proofs.reader.read_piece.Goals as goal

pub returns-then-not-is_left : goal.returns-then-not-is_left
unfolding refused
returns-then-not-is_left c =
    let e = read-not-left c.args.state c.args.buffer.now c.args.piece.now (sym c.is_left.ensures ∙ c.if-not-is_left.true) in
    record { value = c.answer.ensures ∙ sym (ap (λ (x : Read). x.step) e); buffer_after = sym (ap (λ (x : Read). x.buffer) e) }

pub refusal_numbered-requires : goal.refusal_numbered-requires
refusal_numbered-requires c =
    let most = (is-left-stopped c.args.state (sym c.is_left.ensures ∙ c.if-not-is_left.false) c.if-stopped-ne0.true).limit in
    let some = c.if-stopped-ne0.true in
    record { above = omega arith; limit = most }

pub returns-then-stopped-ne0 : goal.returns-then-stopped-ne0
unfolding refused
returns-then-stopped-ne0 c =
    let e = read-stopped c.args.state c.args.buffer.now c.args.piece.now (sym c.is_left.ensures ∙ c.if-not-is_left.false) c.if-stopped-ne0.true in
    record { value = c.answer-then-stopped-ne0.ensures ∙ ap (λ (n : ℕ). step_of n 0 NoMessage c.args.state) c.refusal_numbered.ensures ∙ sym (ap (λ (x : Read). x.step) e); buffer_after = sym (ap (λ (x : Read). x.buffer) e) }

pub gather-requires : goal.gather-requires
gather-requires c =
    let whole : length c.args.buffer.now ≡ 8192 = search rules in
    let m = is-left-message c.args.state (sym c.is_left.ensures ∙ c.if-not-is_left.false) c.if-stopped-ne0.false c.if-state-ne0.true in
    let limit = m.limit in
    let more = m.more in
    record { size_in_bounds = omega arith; got_le_size = omega arith; at_in_bounds = omega arith }

pub returns-then-state-ne0 : goal.returns-then-state-ne0
returns-then-state-ne0 c =
    let whole : length c.args.buffer.now ≡ 8192 = search rules in
    let m = is-left-message c.args.state (sym c.is_left.ensures ∙ c.if-not-is_left.false) c.if-stopped-ne0.false c.if-state-ne0.true in
    let e = read-message c.args.state c.args.buffer.now c.args.piece.now (sym c.is_left.ensures ∙ c.if-not-is_left.false) c.if-stopped-ne0.false c.if-state-ne0.true m.limit whole m.more in
    record { value = c.gather.ensures.value ∙ sym (ap (λ (x : Read). x.step) e); buffer_after = c.gather.ensures.buffer_after ∙ sym (ap (λ (x : Read). x.buffer) e) }

pub first_header-seen-requires : goal.first_header-seen-requires
first_header-seen-requires c = (is-left-header c.args.state (sym c.is_left.ensures ∙ c.if-not-is_left.false) c.if-stopped-ne0.false c.if-state-ne0.false).0

pub gather-requires-in-Body : goal.gather-requires-in-Body
gather-requires-in-Body c =
    let whole : length c.args.buffer.now ≡ 8192 = search rules in
    let header = is-left-header c.args.state (sym c.is_left.ensures ∙ c.if-not-is_left.false) c.if-stopped-ne0.false c.if-state-ne0.false in
    let limit = body-limit c.args.state c.args.buffer.now c.args.piece.now (sym c.is_left.ensures ∙ c.if-not-is_left.false) c.if-stopped-ne0.false c.if-state-ne0.false (header-says c.args.state header.0).few header.1 c.in-Body.size c.in-Body.at (sym c.first_header-seen.ensures ∙ ap seen_told c.in-Body.is) in
    record { size_in_bounds = omega arith; got_le_size = omega arith; at_in_bounds = body-place c.args.state c.args.buffer.now c.args.piece.now (sym c.is_left.ensures ∙ c.if-not-is_left.false) c.if-stopped-ne0.false c.if-state-ne0.false (header-says c.args.state header.0).few header.1 c.in-Body.size c.in-Body.at (sym c.first_header-seen.ensures ∙ ap seen_told c.in-Body.is) }

pub returns-in-Short : goal.returns-in-Short
returns-in-Short c =
    let e = read_short c.args.state c.args.buffer.now c.args.piece.now (sym c.is_left.ensures ∙ c.if-not-is_left.false) c.if-stopped-ne0.false c.if-state-ne0.false c.in-Short.next (sym c.first_header-seen.ensures ∙ ap seen_told c.in-Short.is) in
    record { value = c.answer-in-Short.ensures ∙ sym (ap (λ (x : Read). x.step) e); buffer_after = sym (ap (λ (x : Read). x.buffer) e) }

pub returns-in-Bad : goal.returns-in-Bad
returns-in-Bad c =
    let e = read-bad c.args.state c.args.buffer.now c.args.piece.now (sym c.is_left.ensures ∙ c.if-not-is_left.false) c.if-stopped-ne0.false c.if-state-ne0.false (number_of c.in-Bad.refusal) c.in-Bad.at (sym c.first_header-seen.ensures ∙ ap seen_told c.in-Bad.is) in
    record { value = c.answer-in-Bad.ensures ∙ ap (λ (x : State). step_of (number_of c.in-Bad.refusal) c.in-Bad.at NoMessage x) c.stopped_by.ensures ∙ sym (ap (λ (x : Read). x.step) e); buffer_after = sym (ap (λ (x : Read). x.buffer) e) }

pub returns-in-Body : goal.returns-in-Body
returns-in-Body c =
    let whole : length c.args.buffer.now ≡ 8192 = search rules in
    let header = is-left-header c.args.state (sym c.is_left.ensures ∙ c.if-not-is_left.false) c.if-stopped-ne0.false c.if-state-ne0.false in
    let e = read-body c.args.state c.args.buffer.now c.args.piece.now (sym c.is_left.ensures ∙ c.if-not-is_left.false) c.if-stopped-ne0.false c.if-state-ne0.false (header-says c.args.state header.0).few header.1 c.in-Body.size c.in-Body.at (sym c.first_header-seen.ensures ∙ ap seen_told c.in-Body.is) whole in
    record { value = c.gather-in-Body.ensures.value ∙ sym (ap (λ (x : Read). x.step) e); buffer_after = c.gather-in-Body.ensures.buffer_after ∙ sym (ap (λ (x : Read). x.buffer) e) }
