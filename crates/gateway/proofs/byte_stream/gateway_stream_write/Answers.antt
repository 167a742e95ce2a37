-- `gateway::byte_stream::gateway_stream_write` meets its contract: the writer's answer, its length handed on where it is done. Assumes nothing.
use mathlib.Core.Path.{◌≡◌, sym, ap, ◌∙◌}
use native.Mathlib.Omega.{arith}
use Rattle.stream.specs.Writer.{Written, write}
use Rattle.stream.specs.Told.{write_number, written_told}
use Rattle.stream.specs.declared.writer.WriteRefusal.{WriteRefusal}
use Rattle.stream.specs.declared.writer.WriteRefusal.TheVariants.{TooLong, NoRoom}
use Rattle.boundary.specs.StreamWordsLaws.{written_stands, written-given}
use Rattle.gateway.proofs.byte_stream.gateway_stream_write.Goals as goal

some : (refusal : WriteRefusal) → write_number refusal ≡ 0 → ⊥
some TooLong e = omega arith
some NoRoom e = omega arith

pub returns-in-Ok : goal.returns-in-Ok
returns-in-Ok c =
    let args = c.args in
    let same = ap written_told (sym c.in-Ok.is) ∙ c.write_message.ensures.value in
    let done = ap (λ (x : Written). x.number) same in
    record { value = done; room_after = c.write_message.ensures.room_after; written_after = ap (λ (x : Written). x.length) same ∙ written-given args.written.now (write args.message.now args.room.now).answer (sym done) }

pub returns-in-Err : goal.returns-in-Err
returns-in-Err c =
    let args = c.args in
    let same = ap written_told (sym c.in-Err.is) ∙ c.write_message.ensures.value in
    let number = ap (λ (x : Written). x.number) same in
    record { value = c.number.ensures ∙ number; room_after = c.write_message.ensures.room_after; written_after = written_stands args.written.now (write args.message.now args.room.now).answer (λ z. some c.in-Err.refusal (number ∙ z)) }
