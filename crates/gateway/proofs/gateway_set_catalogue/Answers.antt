-- `gateway::gateway_set_catalogue` meets its contract: the host call on the words. Assumes nothing.
use mathlib.Core.Path.{◌∙◌}
use Rattle.boundary.specs.Boundary.{catalogue_set}
use Rattle.boundary.specs.BoundaryLaws.{set-on-words}
use Rattle.boundary.proofs.BoundaryLaws.{set-sound}
use Rattle.gateway.proofs.HostCalls.{alike, handed}
use Rattle.gateway.proofs.gateway_set_catalogue.Goals as goal

pub returns : goal.returns
returns c =
    let args = c.args in
    let called = c.set_catalogue in
    let k = handed args.tables.now (catalogue_set args.tables.now args.catalogue.now) 0 called.new.words called.result (alike (set-on-words args.tables.now args.catalogue.now) called.ensures.left) (set-sound args.tables.now args.catalogue.now) in record { value = c.number_of.ensures ∙ k.number; for_next = rw c.number_of.ensures k.next }
