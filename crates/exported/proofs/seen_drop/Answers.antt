-- `exported::seen_drop` meets its contract: the contract of `gateway_drop_connection` is the law's premises. Assumes nothing.
use Rattle.demands.proofs.ExportedStated.{drop-seen}
use Rattle.exported.proofs.seen_drop.Goals as goal

pub returns : goal.returns
returns c =
    let args = c.args in
    let called = c.gateway_drop_connection in
    drop-seen args.tables.now called.result called.new.tables args.connection called.ensures.value called.ensures.for_next
