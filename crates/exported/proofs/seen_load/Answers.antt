-- `exported::seen_load` meets its contract: the contract of `gateway_load_file` is the law's premises. Assumes nothing.
use Rattle.demands.proofs.Exported.{load-seen}
use Rattle.exported.proofs.seen_load.Goals as goal

pub returns : goal.returns
returns c =
    let args = c.args in
    let called = c.gateway_load_file in
    load-seen args.tables.now called.result called.new.tables args.file args.contents.now args.memory.now called.new.memory called.ensures.value called.ensures.memory_after called.ensures.for_next
