-- `reply::block::write_read_start` meets its contract: the eleven bytes are laid over the front; the AndX words by the link's parts.
-- Assumes nothing.
use Rattle.reply.specs.Fronts.{read_start}
use mathlib.Core.List.{[], ◌∷◌, ◌++◌}
use Rattle.reply.proofs.Bytes.{laid_as, link-bytes}
use Rattle.reply.proofs.block.write_read_start.Goals as goal

pub returns : goal.returns
unfolding read_start
returns c =
    let args = c.args in
    let andx = link-bytes args.link c.link_command-andx.ensures c.link_place-next.ensures c.low-p0.ensures c.high-p1.ensures in
    laid_as args.room.now c.lay.ensures (λ i. 12 ∷ (andx i ++ (0xff ∷ 0xff ∷ 0 ∷ 0 ∷ 0 ∷ 0 ∷ [])))
