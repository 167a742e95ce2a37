-- `gateway::gateway_add_open` meets its contract: the host call on the words, a wide argument answered as the cut one, its number handed on where it is done. Assumes nothing.
use mathlib.Core.Path.{ap, ◌∙◌}
use Rattle.invariants.specs.HostSound.{add_open-sound}
use Rattle.tables.specs.Words.{tables_of}
use Rattle.boundary.specs.Boundary.{open_added}
use Rattle.host.specs.OnWords.{on_words}
use Rattle.gateway.proofs.HostCalls.{alike, handed}
use Rattle.gateway.proofs.Wide.{open-wide}
use Rattle.gateway.proofs.gateway_add_open.Goals as goal

pub returns : goal.returns
unfolding open_added
returns c =
    let args = c.args in
    let called = c.add_open-given in
    let access = c.to_small-narrow_access in
    let file = c.to_small-narrow_file in
    let tid = c.to_number-narrow_tid in
    let uid = c.to_number-narrow_uid in
    let wide = open-wide (tables_of args.tables.now) args.process args.uid args.tid args.file args.access uid.result tid.result file.result access.result uid.ensures tid.ensures file.ensures access.ensures in
    let k = handed args.tables.now (open_added args.tables.now args.uid args.tid args.process args.file args.access) args.fid.now called.new.words called.result (alike (ap (on_words args.tables.now) wide) called.ensures) (λ e. add_open-sound (tables_of args.tables.now) e args.uid args.tid args.process args.file args.access) in record { value = c.hand_out.ensures.value ∙ k.number; fid_after = c.hand_out.ensures.to_after ∙ k.given; for_next = rw c.hand_out.ensures.value k.next }
