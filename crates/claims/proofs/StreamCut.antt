-- Of specs/StreamCut.antt: what rests on its other theorems. Assumes nothing.
use Rattle.std.specs.Prelude.{◌≡◌, ℕ}
use mathlib.Core.List.{List, flatten}
use Rattle.std.proofs.Math.ListN.{length}
use Rattle.stream.specs.State.{none_begun}
use Rattle.stream.specs.Stream.{carried}
use Rattle.claims.specs.StreamCut.{AllBytes, Same, drained_all, none-begun, nothing-before, reader-however-cut}

-- the same of a reader that has read nothing
pub reader-in-one : (pieces : List (List ℕ)) → AllBytes pieces → (buffer : List ℕ) → length buffer ≡ 8192
    → Same (drained_all none_begun buffer pieces) (carried (flatten pieces))
reader-in-one pieces b buffer room =
    nothing-before buffer (flatten pieces) (reader-however-cut pieces b none_begun buffer (none-begun buffer).0 room)
