use mathlib.Core.Path.{◌≡◌}
use Prim.Native.Nat.{◌<◌}
use lib.ListN.{drop}
use Rattle.digest.specs.Digest.{digest}
use Rattle.digest.proofs.digest_words.Given as goal

abbrev pub invariant-loop-x : goal.invariant-loop-x
invariant-loop-x l = (digest l.initial.d l.words ≡ digest l.d (drop l.x-index l.words)) × (l.d < 4294967291)
