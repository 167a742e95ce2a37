-- `exported::seen_stream_write` meets its contract: the contract of `gateway_stream_write` is the law's premises. Assumes nothing.
use Rattle.demands.proofs.StreamSeen.{written-seen}
use Rattle.exported.proofs.seen_stream_write.Goals as goal

pub returns : goal.returns
returns c =
    let args = c.args in
    let called = c.gateway_stream_write in
    written-seen args.message.now args.room.now args.written.now called.result called.new.room called.new.written called.ensures.value called.ensures.room_after called.ensures.written_after
