-- `server::call::take_message` meets its contract: the rows are tested in the definition's order, and what is left is fit to be answered.
-- Assumes nothing.
use borrow.Author.Rules.{rules}
use mathlib.Core.Path.{refl, sym, ◌∙◌}
use native.Mathlib.Omega.{arith}
use Rattle.message.specs.Message.{answered}
use Rattle.soundness.specs.Sound.{sound}
use Rattle.tables.specs.Words.{tables_of, in_use_fit}
use Rattle.lists.specs.Truth.{both_hold}
use Rattle.boundary.specs.BoundaryLaws.{words-good}
use Rattle.boundary.specs.MessageLaws.{room-short, memory-wrong, room-right, row_room, row-dropped, row-answered}
use Rattle.boundary.proofs.MessageLaws.{row-sound}
use Rattle.server.specs.Rows.{kept-length}
use Rattle.server.specs.TakenOf.{taken_of}
use Rattle.server.proofs.call.take_message.Goals as goal

pub returns-then-room-lt-ROOM-clause-room_after : goal.returns-then-room-lt-ROOM-clause-room_after
unfolding taken_of
returns-then-room-lt-ROOM-clause-room_after c =
    let args = c.args in
    row_room args.connection args.s.now args.words.now args.memory.now args.room.now (room-short args.memory.now args.room.now c.if-room-lt-ROOM.true)

pub returns-then-memory-ne-MEMORY-clause-room_after : goal.returns-then-memory-ne-MEMORY-clause-room_after
unfolding taken_of
returns-then-memory-ne-MEMORY-clause-room_after c =
    let args = c.args in
    row_room args.connection args.s.now args.words.now args.memory.now args.room.now (memory-wrong args.memory.now args.room.now c.if-memory-ne-MEMORY.true)

pub returns-then-not-is_sound-clause-room_after : goal.returns-then-not-is_sound-clause-room_after
unfolding taken_of
returns-then-not-is_sound-clause-room_after c =
    let args = c.args in
    row-sound args.connection args.s.now args.words.now args.memory.now args.room.now (room-right args.memory.now args.room.now (omega arith) c.if-memory-ne-MEMORY.false) (sym c.is_sound.ensures ∙ c.if-not-is_sound.true)

pub returns-then-is_dropped-clause-room_after : goal.returns-then-is_dropped-clause-room_after
unfolding taken_of
returns-then-is_dropped-clause-room_after c =
    let args = c.args in
    row-dropped args.connection args.s.now args.words.now args.memory.now args.room.now (room-right args.memory.now args.room.now (omega arith) c.if-memory-ne-MEMORY.false) (sym c.is_sound.ensures ∙ c.if-not-is_sound.false) (sym c.is_dropped.ensures ∙ c.if-is_dropped.true)

pub answer_message-requires : goal.answer_message-requires
answer_message-requires c =
    let args = c.args in
    let is-sound = c.is_sound in
    let n = kept-length args.s.now (sym c.is_dropped.ensures ∙ c.if-is_dropped.false) in
    let fit = sym is-sound.ensures ∙ c.if-not-is_sound.false in
    record { words_len = search rules; good = words-good args.words.now (both_hold (in_use_fit args.words.now) (sound (tables_of args.words.now)) fit).1; in_bounds = n.0; s_len_bound = n.1; memory_len = c.if-memory-ne-MEMORY.false; in_bounds_2 = omega arith }

pub returns-clause-room_after : goal.returns-clause-room_after
returns-clause-room_after c =
    let args = c.args in
    c.answer_message.ensures.room_after
    ∙ row-answered args.connection args.s.now args.words.now args.memory.now args.room.now (room-right args.memory.now args.room.now (omega arith) c.if-memory-ne-MEMORY.false) (sym c.is_sound.ensures ∙ c.if-not-is_sound.false) (sym c.is_dropped.ensures ∙ c.if-is_dropped.false)
