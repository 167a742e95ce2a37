-- `reply::block::write_open_codes` meets its contract: the twelve bytes are laid over the front.
-- Assumes nothing.
use mathlib.Core.Path.{refl}
use mathlib.Core.List.{◌++◌}
use lib.ListN.{replicate}
use native.Mathlib.Omega.{arith}
use Rattle.reply.specs.Fronts.{open_codes}
use Rattle.reply.proofs.Bytes.{laid_as, one_byte, four_bytes}
use Rattle.reply.proofs.block.write_open_codes.Goals as goal

pub returns : goal.returns
unfolding open_codes
returns c =
    let args = c.args in
    let size = four_bytes args.size refl c.low-s0.ensures c.high-s1.ensures c.low-s2.ensures c.high-s3.ensures in
    let access = one_byte args.access (omega arith) in
    let results = one_byte args.results (omega arith) in
    laid_as args.room.now c.lay.ensures (λ i. size i ++ (access i ++ (replicate 4 0 ++ results i)))
