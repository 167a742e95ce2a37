-- `gateway::gateway_add_session` meets its contract: the host call on the words, its number handed on where it is done. Assumes nothing.
use mathlib.Core.Path.{◌∙◌}
use Rattle.invariants.specs.HostSound.{add_session-sound}
use Rattle.tables.specs.Words.{tables_of}
use Rattle.boundary.specs.Boundary.{session_added}
use Rattle.gateway.proofs.HostCalls.{handed}
use Rattle.gateway.proofs.gateway_add_session.Goals as goal

pub returns : goal.returns
unfolding session_added
returns c =
    let args = c.args in
    let called = c.add_session-given in
    let k = handed args.tables.now (session_added args.tables.now args.connection) args.uid.now called.new.words called.result called.ensures (λ e. add_session-sound (tables_of args.tables.now) e args.connection) in record { value = c.hand_out.ensures.value ∙ k.number; uid_after = c.hand_out.ensures.to_after ∙ k.given; for_next = rw c.hand_out.ensures.value k.next }
