-- `exported::seen_session` meets its contract: the contract of `gateway_add_session` is the law's premises. Assumes nothing.
use Rattle.demands.proofs.ExportedStated.{session-seen}
use Rattle.exported.proofs.seen_session.Goals as goal

pub returns : goal.returns
returns c =
    let args = c.args in
    let called = c.gateway_add_session in
    session-seen args.tables.now called.result called.new.tables args.connection args.uid.now called.new.uid called.ensures.value called.ensures.uid_after called.ensures.for_next
