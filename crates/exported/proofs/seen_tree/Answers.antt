-- `exported::seen_tree` meets its contract: the contract of `gateway_add_tree` is the law's premises. Assumes nothing.
use Rattle.demands.proofs.ExportedStated.{tree-seen}
use Rattle.exported.proofs.seen_tree.Goals as goal

pub returns : goal.returns
returns c =
    let args = c.args in
    let called = c.gateway_add_tree in
    tree-seen args.tables.now called.result called.new.tables args.uid args.right args.tid.now called.new.tid called.ensures.value called.ensures.tid_after called.ensures.for_next
