-- `exported::seen_catalogue` meets its contract: the contract of `gateway_set_catalogue` is the law's premises. Assumes nothing.
use Rattle.demands.proofs.Exported.{catalogue-seen}
use Rattle.exported.proofs.seen_catalogue.Goals as goal

pub returns : goal.returns
returns c =
    let args = c.args in
    let called = c.gateway_set_catalogue in
    catalogue-seen args.tables.now called.result called.new.tables args.catalogue.now called.ensures.value called.ensures.for_next
