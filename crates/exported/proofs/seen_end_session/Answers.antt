-- `exported::seen_end_session` meets its contract: the contract of `gateway_end_session` is the law's premises. Assumes nothing.
use Rattle.host.specs.declared.ending.One.TheVariants.{Session as OneSession}
use Rattle.demands.proofs.ExportedStated.{end_seen}
use Rattle.exported.proofs.seen_end_session.Goals as goal

pub returns : goal.returns
returns c =
    let args = c.args in
    let called = c.gateway_end_session in
    end_seen args.tables.now called.result called.new.tables (OneSession args.uid) called.ensures.value called.ensures.for_next
