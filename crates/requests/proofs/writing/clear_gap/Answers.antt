-- `requests::writing::clear_gap` meets its contract: the part filled is set to zeros.
-- Assumes nothing.
use native.Mathlib.Omega.{arith}
use Rattle.requests.specs.WritePart.{put-none, put-zeros}
use Rattle.requests.proofs.writing.clear_gap.Goals as goal

pub returns-then-from-to : goal.returns-then-from-to
returns-then-from-to c =
    let args = c.args in
    let clear = c.clear in
    put-zeros args.room.now clear.new.room args.from args.to (omega arith) c.requires clear.ensures

pub returns-else-from-to : goal.returns-else-from-to
returns-else-from-to c =
    let args = c.args in
    put-none args.room.now args.from args.to (omega arith)
