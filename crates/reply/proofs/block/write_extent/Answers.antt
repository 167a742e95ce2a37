-- `reply::block::write_extent` meets its contract: the sixteen bytes are laid over the front.
-- Assumes nothing.
use Rattle.reply.specs.Fronts.{read_extent}
use Prim.Native.Nat.{◌+◌}
use mathlib.Core.List.{◌++◌}
use lib.ListN.{replicate}
use Rattle.reply.proofs.Bytes.{laid_as, two_bytes}
use Rattle.reply.proofs.block.write_extent.Goals as goal

pub returns : goal.returns
unfolding read_extent
returns c =
    let args = c.args in
    let count = two_bytes args.count c.low-n0.ensures c.high-n1.ensures in
    let from = two_bytes (args.place + 27) c.low-f0.ensures c.high-f1.ensures in
    laid_as args.room.now c.lay.ensures (λ i. count i ++ (from i ++ (replicate 10 0 ++ count i)))
