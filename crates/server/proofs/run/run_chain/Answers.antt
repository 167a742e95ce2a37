-- `server::run::run_chain` meets its contract: the loop's invariant is `Turn`: what is left to carry out completes the whole run, and the blocks written stand from 32 on; words in use that fit still do.
-- Assumes nothing.
use mathlib.Core.Path.{sym, ◌∙◌}
use Rattle.requests.specs.Leaves.{performed}
use Rattle.tables.specs.Words.{tables_of}
use Rattle.server.specs.Taking.{turn-start, turn-block, turn-length, turn-parse, block-fits, turn-ends, turn-goes, turn-falls}
use native.Mathlib.Omega.{arith}
use Rattle.server.proofs.run.run_chain.Goals as goal

pub loop-follower-init : goal.loop-follower-init
loop-follower-init c =
    let pre = c.requires in
    let args = c.args in (
      rw c.byte_at-command.ensures (turn-start args.c args.s.now args.room.now (tables_of args.words.now) args.memory.now pre.s_value pre.good pre.memory_len pre.s_len_bound pre.in_bounds),
      record { long = pre.words_len; fit = λ f. f },
    )

pub fields_at-b-requires : goal.fields_at-b-requires
fields_at-b-requires c = turn-block c.loop-follower.invariant.0

pub perform_block-answer-requires : goal.perform_block-answer-requires
perform_block-answer-requires c =
    let inv = c.loop-follower.invariant in
    let block = c.fields_at-b in
    record { words_len = inv.1.long; good = inv.0.going.good; memory_len = inv.0.going.memory-size; at_value = turn-parse inv.0 block.result (sym block.ensures) }

pub add_block-place-requires : goal.add_block-place-requires
add_block-place-requires c =
    let inv = c.loop-follower.invariant in
    let block = c.fields_at-b in
    let done = c.perform_block-answer in
    let size = done.auto.memory ∙ inv.0.going.memory-size in
    let l = turn-length inv.0 in
    let n = inv.0.enough in
    record { memory_len = size; answer_value = done.ensures.gives.within; answer_bound = block-fits inv.0 block.result (sym block.ensures) (performed done.result (tables_of done.new.words)) done.new.memory done.ensures.gives size; in_bounds = omega arith }

pub shape_of-words-in_default : goal.shape_of-words-in_default
shape_of-words-in_default c = c.perform_block-answer.auto.words ∙ c.loop-follower.invariant.1.long ∙ sym c.requires.words_len

pub shape_of-memory-in_default : goal.shape_of-memory-in_default
shape_of-memory-in_default c = c.perform_block-answer.auto.memory ∙ c.loop-follower.invariant.0.going.memory-size ∙ sym c.requires.memory_len

pub shape_of-room-in_default : goal.shape_of-room-in_default
shape_of-room-in_default c = c.add_block-place.auto.room ∙ turn-length c.loop-follower.invariant.0

pub returns-in_default : goal.returns-in_default
returns-in_default c =
    let inv = c.loop-follower.invariant in
    let block = c.fields_at-b in
    let done = c.perform_block-answer in
    let size = done.auto.memory ∙ inv.0.going.memory-size in
    let add-block = c.add_block-place in record { finished = rw (c.forms_after.ensures, c.holder_left.ensures, add-block.ensures.value) (turn-ends inv.0 block.result (sym block.ensures) (performed done.result (tables_of done.new.words)) done.new.memory done.ensures.gives size add-block.new.room add-block.ensures.room_after (sym c.goes_on.ensures ∙ c.in_default.is)); words_after = λ f. done.ensures.words_after (inv.1.fit f) }

pub loop-follower-smaller : goal.loop-follower-smaller
loop-follower-smaller c =
    let block = c.fields_at-b in
    let then = c.in-Some in
    turn-falls c.loop-follower.invariant.0 block.result (sym block.ensures) c.perform_block-answer.result then.follower.command then.follower.at (sym c.goes_on.ensures ∙ then.is)

pub loop-follower-preserved : goal.loop-follower-preserved
loop-follower-preserved c =
    let inv = c.loop-follower.invariant in
    let block = c.fields_at-b in
    let done = c.perform_block-answer in
    let size = done.auto.memory ∙ inv.0.going.memory-size in
    let add-block = c.add_block-place in
    let then = c.in-Some in (
      rw (add-block.ensures.value, c.opened_by-just.ensures) (turn-goes inv.0 block.result (sym block.ensures) (performed done.result (tables_of done.new.words)) done.new.memory done.ensures.gives size add-block.new.room add-block.ensures.room_after then.follower.command then.follower.at (sym c.goes_on.ensures ∙ then.is)),
      record { long = done.auto.words ∙ inv.1.long; fit = λ f. done.ensures.words_after (inv.1.fit f) },
    )
