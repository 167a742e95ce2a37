-- `stream::header::length_of` meets its contract.
-- Assumes nothing.
use native.Mathlib.Omega.{arith}
use Rattle.stream.specs.Stream.{length_of}
use Rattle.stream.proofs.header.length_of.Goals as goal

pub returns : goal.returns
unfolding length_of
returns c = omega arith
