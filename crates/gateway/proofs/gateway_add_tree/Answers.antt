-- `gateway::gateway_add_tree` meets its contract: the host call on the words, a wide argument answered as the cut one, its number handed on where it is done. Assumes nothing.
use mathlib.Core.Path.{ap, ◌∙◌}
use Rattle.invariants.specs.HostSound.{add_tree-sound}
use Rattle.tables.specs.Words.{tables_of}
use Rattle.boundary.specs.Boundary.{tree_added}
use Rattle.host.specs.OnWords.{on_words}
use Rattle.gateway.proofs.HostCalls.{alike, handed}
use Rattle.gateway.proofs.Wide.{tree-wide}
use Rattle.gateway.proofs.gateway_add_tree.Goals as goal

pub returns : goal.returns
unfolding tree_added
returns c =
    let args = c.args in
    let called = c.add_tree-given in
    let wide = tree-wide (tables_of args.tables.now) args.uid args.right c.to_number-narrow_uid.result c.to_small-narrow_right.result c.to_number-narrow_uid.ensures c.to_small-narrow_right.ensures in
    let k = handed args.tables.now (tree_added args.tables.now args.uid args.right) args.tid.now called.new.words called.result (alike (ap (on_words args.tables.now) wide) called.ensures) (λ e. add_tree-sound (tables_of args.tables.now) e args.uid args.right) in record { value = c.hand_out.ensures.value ∙ k.number; tid_after = c.hand_out.ensures.to_after ∙ k.given; for_next = rw c.hand_out.ensures.value k.next }
