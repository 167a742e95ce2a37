-- `gateway::gateway_empty` meets its contract: words that are all 0 hold empty tables. Assumes nothing.
use Rattle.boundary.specs.BoundaryLaws.{empty-tables}
use Rattle.boundary.proofs.BoundaryLaws.{empty-ready}
use Rattle.gateway.proofs.gateway_empty.Goals as goal

pub returns : goal.returns
returns c =
    let e = c.empty_words.ensures.words_after in
    record { tables_after = e; tables_after_2 = rw e empty-tables; tables_after_3 = rw e empty-ready }
