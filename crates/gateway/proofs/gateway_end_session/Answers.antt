-- `gateway::gateway_end_session` meets its contract: the host call on the words, a wide number answered as the cut one. Assumes nothing.
use mathlib.Core.Path.{ap, ◌∙◌}
use Rattle.invariants.specs.HostSound.{end_one-sound}
use Rattle.tables.specs.Words.{tables_of}
use Rattle.boundary.specs.Boundary.{one_ended}
use Rattle.host.specs.declared.ending.One.TheVariants.{Session as OneSession}
use Rattle.host.specs.OnWords.{on_words}
use Rattle.gateway.proofs.HostCalls.{alike, handed}
use Rattle.gateway.proofs.Wide.{end-session-wide}
use Rattle.gateway.proofs.gateway_end_session.Goals as goal

pub returns : goal.returns
unfolding one_ended
returns c =
    let args = c.args in
    let called = c.end_one in
    let wide = end-session-wide (tables_of args.tables.now) args.uid c.to_number-its_uid.result c.to_number-its_uid.ensures in
    let k = handed args.tables.now (one_ended args.tables.now (OneSession args.uid)) 0 called.new.words called.result (alike (ap (on_words args.tables.now) wide) called.ensures) (λ e. end_one-sound (tables_of args.tables.now) e (OneSession args.uid)) in record { value = c.number_of.ensures ∙ k.number; for_next = rw c.number_of.ensures k.next }
