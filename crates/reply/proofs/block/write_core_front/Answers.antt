-- `reply::block::write_core_front` meets its contract: the sixteen bytes are laid over the front.
-- Assumes nothing.
use Rattle.reply.specs.Fronts.{core_front}
use Prim.Native.Nat.{◌+◌}
use mathlib.Core.List.{◌∷◌, ◌++◌}
use lib.ListN.{replicate}
use Rattle.reply.proofs.Bytes.{laid_as, two_bytes}
use Rattle.reply.proofs.block.write_core_front.Goals as goal

pub returns : goal.returns
unfolding core_front
returns c =
    let args = c.args in
    let count = two_bytes args.count c.low-n0.ensures c.high-n1.ensures in
    let bytes = two_bytes (3 + args.count) c.low-b0.ensures c.high-b1.ensures in
    laid_as args.room.now c.lay.ensures (λ i. 5 ∷ (count i ++ (replicate 8 0 ++ (bytes i ++ (0x01 ∷ count i)))))
