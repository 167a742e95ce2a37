-- `catalogue::compare::name_length` meets its contract: a length past the room of the text counts the whole text. Assumes nothing.
use native.Mathlib.Omega.{arith}
use Rattle.catalogue.specs.NameLaws.{length-name}
use Rattle.catalogue.proofs.compare.name_length.Goals as goal

pub returns : goal.returns
returns c =
    let low = c.low8.ensures in
    let least = c.min.ensures in
    let l = length-name c.args.words.now c.args.i c.requires.1 c.requires.0 in
    omega arith
