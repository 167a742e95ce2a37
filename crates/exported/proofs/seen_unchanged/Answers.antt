-- `exported::seen_unchanged` meets its contract: the contract of `gateway_unchanged` is the law's premises. Assumes nothing.
use Rattle.demands.proofs.Exported.{unchanged-seen}
use Rattle.exported.proofs.seen_unchanged.Goals as goal

pub returns : goal.returns
returns c =
    let args = c.args in
    let called = c.gateway_unchanged in
    unchanged-seen args.tables.now called.result args.fid args.unchanged.now called.new.unchanged called.ensures.value called.ensures.unchanged_after
