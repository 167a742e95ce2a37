-- `exported::seen_message` meets its contract: the contract of `gateway_take_message` is the law's premises. Assumes nothing.
use Rattle.demands.proofs.Exported.{message-seen}
use Rattle.exported.proofs.seen_message.Goals as goal

pub returns : goal.returns
returns c =
    let args = c.args in
    let called = c.gateway_take_message in
    message-seen args.connection args.message.now args.tables.now args.memory.now args.room.now args.written.now args.holder.now called.result called.new.tables called.new.memory called.new.room called.new.written called.new.holder called.ensures.value called.ensures.memory_after called.ensures.room_after called.ensures.written_after called.ensures.holder_after called.ensures.for_next
