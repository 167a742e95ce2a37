-- `stream::writer::write_message` meets its contract: the refusals in their order, then the header and the message behind it.
-- Assumes nothing.
use mathlib.Core.Path.{sym, ap}
use Rattle.stream.specs.Writer.{Wrote, written_of}
use Rattle.stream.proofs.Writing.{write-long, write-cramped, write_done}
use Rattle.stream.proofs.writer.write_message.Goals as goal

pub returns-then-size-gt-LONGEST_WRITTEN : goal.returns-then-size-gt-LONGEST_WRITTEN
unfolding written_of
returns-then-size-gt-LONGEST_WRITTEN c =
    let e = write-long c.args.message.now c.args.room.now c.if-size-gt-LONGEST_WRITTEN.true in
    record { value = sym (ap (λ (x : Wrote). x.answer) e); room_after = sym (ap (λ (x : Wrote). x.room) e) }

pub returns-then-room-end : goal.returns-then-room-end
unfolding written_of
returns-then-room-end c =
    let e = write-cramped c.args.message.now c.args.room.now c.if-size-gt-LONGEST_WRITTEN.false c.if-room-end.true in
    record { value = sym (ap (λ (x : Wrote). x.answer) e); room_after = sym (ap (λ (x : Wrote). x.room) e) }

pub returns : goal.returns
unfolding written_of
returns c =
    let e = write_done c.args.message.now c.args.room.now c.if-size-gt-LONGEST_WRITTEN.false c.if-room-end.false c.write_header.new.room c.lay.new.room c.write_header.ensures c.lay.ensures in
    record { value = sym (ap (λ (x : Wrote). x.answer) e); room_after = sym (ap (λ (x : Wrote). x.room) e) }
