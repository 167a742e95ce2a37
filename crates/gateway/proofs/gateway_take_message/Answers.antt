-- `gateway::gateway_take_message` meets its contract: the core's call is the definition; its length and the holder are handed on where it is done. Assumes nothing.
use mathlib.Core.Path.{refl, sym, ap, ◌∙◌}
use Rattle.message.specs.Message.{Taken, not_taken}
use Rattle.server.specs.TakenOf.{refused-row, taken_of}
use Rattle.boundary.specs.Boundary.{message_taken, holder_words}
use Rattle.boundary.specs.MessageLaws.{length-stands, length-given, holder-stands, holder-given}
use Rattle.boundary.proofs.MessageLawsStated.{message-next}
use Rattle.gateway.proofs.gateway_take_message.Goals as goal

pub returns-in-Err : goal.returns-in-Err
unfolding taken_of not_taken
returns-in-Err c =
    let args = c.args in
    let told = c.in-Err.ensures in
    let k = message_taken args.connection args.message.now args.tables.now args.memory.now args.room.now in
    let same = told.room_after in
    let number = ap (λ (x : Taken). x.number) same in
    let row = refused-row c.in-Err.why in
    record {
      value = c.number.ensures ∙ number;
      memory_after = ap (λ (x : Taken). x.memory) same;
      room_after = ap (λ (x : Taken). x.room) same;
      written_after = length-stands args.written.now k (λ z. row (number ∙ z));
      holder_after = holder-stands args.holder.now k (λ z. row (number ∙ z));
      for_next = message-next args.connection args.message.now args.tables.now args.memory.now args.room.now c.take_message.new.words c.number.result (ap (λ (x : Taken). x.tables) same) (λ n. told.words_unchanged row) told.words_after;
    }

pub returns-in-Ok : goal.returns-in-Ok
unfolding taken_of
returns-in-Ok c =
    let args = c.args in
    let told = c.in-Ok.ensures in
    let k = message_taken args.connection args.message.now args.tables.now args.memory.now args.room.now in
    let same = told.room_after in
    let number = ap (λ (x : Taken). x.number) same in
    let done = sym number in
    record {
      value = number;
      memory_after = ap (λ (x : Taken). x.memory) same;
      room_after = ap (λ (x : Taken). x.room) same;
      written_after = ap (λ (x : Taken). x.length) same ∙ length-given args.written.now k done;
      holder_after = c.put_holder.ensures ∙ ap (λ (x : Taken). holder_words x.holder) same ∙ holder-given args.holder.now k done;
      for_next = message-next args.connection args.message.now args.tables.now args.memory.now args.room.now c.take_message.new.words 0 (ap (λ (x : Taken). x.tables) same) (λ n. absurd (n refl)) told.words_after;
    }
