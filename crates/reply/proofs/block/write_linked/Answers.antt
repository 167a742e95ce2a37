-- `reply::block::write_linked` meets its contract: the seven bytes are laid over the front; the AndX words by the link's parts.
-- Assumes nothing.
use mathlib.Core.List.{[], ◌∷◌, ◌++◌}
use Rattle.reply.proofs.Bytes.{laid_as, link-bytes}
use Rattle.reply.proofs.block.write_linked.Goals as goal

pub returns : goal.returns
returns c =
    let args = c.args in
    let andx = link-bytes args.link c.link_command-andx.ensures c.link_place-next.ensures c.low.ensures c.high.ensures in
    laid_as args.room.now c.lay.ensures (λ i. 2 ∷ (andx i ++ (0 ∷ 0 ∷ [])))
