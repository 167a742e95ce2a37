-- `reply::block::write_open_start` meets its contract: the thirteen bytes are laid over the front; the AndX words by the link's parts.
-- Assumes nothing.
use mathlib.Core.List.{◌∷◌, ◌++◌}
use lib.ListN.{replicate}
use Rattle.reply.specs.Fronts.{open_start}
use Rattle.reply.proofs.Bytes.{laid_as, two_bytes, link-bytes}
use Rattle.reply.proofs.block.write_open_start.Goals as goal

pub returns : goal.returns
unfolding open_start
returns c =
    let args = c.args in
    let andx = link-bytes args.link c.link_command-andx.ensures c.link_place-next.ensures c.low-p0.ensures c.high-p1.ensures in
    let fid = two_bytes args.fid (rw c.from-n.ensures at c.low-f0.ensures) (rw c.from-n.ensures at c.high-f1.ensures) in
    laid_as args.room.now c.lay.ensures (λ i. 15 ∷ (andx i ++ (fid i ++ replicate 6 0)))
