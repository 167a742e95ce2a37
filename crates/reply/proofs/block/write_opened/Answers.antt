-- `reply::block::write_opened` meets its contract: its two parts, and the zero bytes behind them, are one write.
-- Assumes nothing.
use mathlib.Core.Path.{refl}
use native.Mathlib.Omega.{arith}
use lib.ListN.{replicate}
use Rattle.reply.specs.Fronts.{open_start, open_codes, length-open_start, length-open_front}
use Rattle.reply.proofs.Laid.{laid-three}
use Rattle.reply.proofs.block.write_opened.Goals as goal

pub returns : goal.returns
returns c =
    let args = c.args in
    let start = c.write_open_start in
    let codes = c.write_open_codes in
    laid-three args.room.now (open_start args.fid args.link) (open_codes args.size args.access args.results) (replicate 8 0) start.new.room codes.new.room _ c.lay.new.room 13 25
    (length-open_start args.fid args.link) (length-open_front args.fid args.size args.access args.results args.link) (omega arith) start.ensures codes.ensures refl c.lay.ensures
