use mathlib.Core.Path.{◌≡◌}
use Prim.Native.Nat.{◌<◌}
use lib.ListN.{drop}
use Rattle.digest.specs.Digest.{digest}
use Rattle.digest.proofs.digest_bytes.Given as goal

abbrev pub invariant-loop-b : goal.invariant-loop-b
invariant-loop-b l = (digest l.initial.d l.bytes ≡ digest l.d (drop l.b-index l.bytes)) × (l.d < 4294967291)
