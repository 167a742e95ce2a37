-- `reply::block::write_wrote` meets its contract: the fifteen bytes are laid over the front; the AndX words by the link's parts.
-- Assumes nothing.
use Rattle.message.specs.Reply.{two}
use mathlib.Core.List.{[], ◌∷◌, ◌++◌}
use lib.ListN.{replicate}
use Rattle.reply.proofs.Bytes.{laid_as, two_bytes, link-bytes}
use Rattle.reply.proofs.block.write_wrote.Goals as goal

pub returns : goal.returns
unfolding two
returns c =
    let args = c.args in
    let andx = link-bytes args.link c.link_command-andx.ensures c.link_place-next.ensures c.low-p0.ensures c.high-p1.ensures in
    let count = two_bytes args.count (rw c.from-n.ensures at c.low-n0.ensures) (rw c.from-n.ensures at c.high-n1.ensures) in
    laid_as args.room.now c.lay.ensures (λ i. 6 ∷ (andx i ++ (count i ++ (two 0xFFFF ++ (replicate 4 0 ++ (0 ∷ 0 ∷ []))))))
