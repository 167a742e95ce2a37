-- `gateway::gateway_drop_connection` meets its contract: the host call on the words. Assumes nothing.
use mathlib.Core.Path.{◌∙◌}
use Rattle.invariants.specs.HostSound.{drop_connection-sound}
use Rattle.tables.specs.Words.{tables_of}
use Rattle.boundary.specs.Boundary.{connection_dropped}
use Rattle.gateway.proofs.HostCalls.{handed}
use Rattle.gateway.proofs.gateway_drop_connection.Goals as goal

pub returns : goal.returns
unfolding connection_dropped
returns c =
    let args = c.args in
    let called = c.drop_connection in
    let k = handed args.tables.now (connection_dropped args.tables.now args.connection) 0 called.new.words called.result called.ensures (λ e. drop_connection-sound (tables_of args.tables.now) e args.connection) in record { value = c.number_of.ensures ∙ k.number; for_next = rw c.number_of.ensures k.next }
