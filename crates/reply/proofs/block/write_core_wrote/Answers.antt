-- `reply::block::write_core_wrote` meets its contract: the five bytes are laid over the front.
-- Assumes nothing.
use mathlib.Core.List.{[], ◌∷◌, ◌++◌}
use Rattle.reply.proofs.Bytes.{laid_as, two_bytes}
use Rattle.reply.proofs.block.write_core_wrote.Goals as goal

pub returns : goal.returns
returns c =
    let args = c.args in
    let count = two_bytes args.count (rw c.from-n.ensures at c.low.ensures) (rw c.from-n.ensures at c.high.ensures) in
    laid_as args.room.now c.lay.ensures (λ i. 1 ∷ (count i ++ (0 ∷ 0 ∷ [])))
