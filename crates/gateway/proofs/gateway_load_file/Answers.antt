-- `gateway::gateway_load_file` meets its contract: the host call on the words, a wide file answered as the cut one. Assumes nothing.
use mathlib.Core.Path.{sym, ◌∙◌}
use Rattle.invariants.specs.HostSound.{load_file-sound}
use Rattle.tables.specs.Words.{tables_of}
use Rattle.boundary.specs.Boundary.{file_loaded}
use Rattle.gateway.proofs.HostCalls.{load-memory, alike, loaded}
use Rattle.gateway.proofs.Wide.{load-wide, memory-wide}
use Rattle.gateway.proofs.gateway_load_file.Goals as goal

pub returns : goal.returns
unfolding file_loaded
returns c =
    let args = c.args in
    let called = c.load_file in
    let cut = c.to_small-narrow_file in
    let wide = load-wide args.tables.now args.contents.now args.memory.now args.file cut.result cut.ensures in
    let m = called.ensures.memory_after ∙ memory-wide args.tables.now args.contents.now args.memory.now args.file cut.result cut.ensures ∙ load-memory args.tables.now args.file args.contents.now args.memory.now in
    let k = loaded args.tables.now args.file args.contents.now args.memory.now called.new.words called.result (alike wide called.ensures.left) (λ e. load_file-sound (tables_of args.tables.now) e args.file args.contents.now args.memory.now) in record { value = c.number_of.ensures ∙ k.number; memory_after = m; for_next = rw c.number_of.ensures k.next }
