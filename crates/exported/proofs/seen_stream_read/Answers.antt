-- `exported::seen_stream_read` meets its contract: the contract of `gateway_stream_read` is the law's premises. Assumes nothing.
use Rattle.demands.proofs.StreamSeen.{piece-seen}
use Rattle.exported.proofs.seen_stream_read.Goals as goal

pub returns : goal.returns
returns c =
    let args = c.args in
    let called = c.gateway_stream_read in
    piece-seen args.state.now args.buffer.now args.piece.now args.step.now called.result called.new.state called.new.buffer called.new.step called.ensures.state_value called.ensures.value called.ensures.state_after called.ensures.buffer_after called.ensures.step_after
