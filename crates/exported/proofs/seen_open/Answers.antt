-- `exported::seen_open` meets its contract: the contract of `gateway_add_open` is the law's premises. Assumes nothing.
use Rattle.demands.proofs.ExportedStated.{open-seen}
use Rattle.exported.proofs.seen_open.Goals as goal

pub returns : goal.returns
returns c =
    let args = c.args in
    let called = c.gateway_add_open in
    open-seen args.tables.now called.result called.new.tables args.uid args.tid args.process args.file args.access args.fid.now called.new.fid called.ensures.value called.ensures.fid_after called.ensures.for_next
