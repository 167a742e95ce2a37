-- `exported::seen_end_open` meets its contract: the contract of `gateway_end_open` is the law's premises. Assumes nothing.
use Rattle.host.specs.declared.ending.One.TheVariants.{Open as OneOpen}
use Rattle.demands.proofs.ExportedStated.{end_seen}
use Rattle.exported.proofs.seen_end_open.Goals as goal

pub returns : goal.returns
returns c =
    let args = c.args in
    let called = c.gateway_end_open in
    end_seen args.tables.now called.result called.new.tables (OneOpen args.fid) called.ensures.value called.ensures.for_next
