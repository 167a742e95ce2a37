-- `gateway::gateway_end_tree` meets its contract: the host call on the words, a wide number answered as the cut one. Assumes nothing.
use mathlib.Core.Path.{ap, ◌∙◌}
use Rattle.invariants.specs.HostSound.{end_one-sound}
use Rattle.tables.specs.Words.{tables_of}
use Rattle.boundary.specs.Boundary.{one_ended}
use Rattle.host.specs.declared.ending.One.TheVariants.{Tree as OneTree}
use Rattle.host.specs.OnWords.{on_words}
use Rattle.gateway.proofs.HostCalls.{alike, handed}
use Rattle.gateway.proofs.Wide.{end-tree-wide}
use Rattle.gateway.proofs.gateway_end_tree.Goals as goal

pub returns : goal.returns
unfolding one_ended
returns c =
    let args = c.args in
    let called = c.end_one in
    let wide = end-tree-wide (tables_of args.tables.now) args.tid c.to_number-its_tid.result c.to_number-its_tid.ensures in
    let k = handed args.tables.now (one_ended args.tables.now (OneTree args.tid)) 0 called.new.words called.result (alike (ap (on_words args.tables.now) wide) called.ensures) (λ e. end_one-sound (tables_of args.tables.now) e (OneTree args.tid)) in record { value = c.number_of.ensures ∙ k.number; for_next = rw c.number_of.ensures k.next }
