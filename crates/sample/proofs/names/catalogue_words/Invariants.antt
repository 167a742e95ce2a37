-- The words written so far, over the array as the loop finds it. Assumes nothing.
use Rattle.std.proofs.Common.{◌≡◌, ◌+◌}
use lib.ListN.{replicate}
use Rattle.wire.specs.LittleEndian.{byte_at}
use Rattle.sample.proofs.Widened.{filled}
use Rattle.sample.proofs.names.catalogue_words.Given as goal

abbrev pub invariant-loop-i : goal.invariant-loop-i
invariant-loop-i l = l.given ≡ filled (λ k. byte_at l.s (l.at + k)) (replicate 225 0) l.i
