-- `exported::seen_end_tree` meets its contract: the contract of `gateway_end_tree` is the law's premises. Assumes nothing.
use Rattle.host.specs.declared.ending.One.TheVariants.{Tree as OneTree}
use Rattle.demands.proofs.ExportedStated.{end_seen}
use Rattle.exported.proofs.seen_end_tree.Goals as goal

pub returns : goal.returns
returns c =
    let args = c.args in
    let called = c.gateway_end_tree in
    end_seen args.tables.now called.result called.new.tables (OneTree args.tid) called.ensures.value called.ensures.for_next
