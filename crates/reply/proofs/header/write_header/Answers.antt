-- `reply::header::write_header` meets its contract: its two parts, and the eight bytes copied behind them, are one write.
-- Assumes nothing.
use Rattle.reply.proofs.Laid.{laid-three}
use Rattle.reply.specs.Fronts.{header_start, header_flags, length-header_start, length-header_front, header-whole}
use mathlib.Core.Path.{◌≡◌, refl}
use Prim.Native.Nat.{◌+◌, ◌≤◌}
use native.Mathlib.Omega.{arith}
use lib.ListN.{length, take, drop, length-take, length-drop}
use Rattle.reply.proofs.header.write_header.Goals as goal

pub returns : goal.returns
returns c =
    let args = c.args in
    let write-status = c.write_status in
    let write-flags = c.write_flags in
    let s = args.s.now in
    let forms = args.forms in
    let n : length (take 8 (drop 24 s)) ≡ 8 = rw (length-take, length-drop) (omega arith) in
    let fits : 24 + length (take 8 (drop 24 s)) ≤ length args.room.now = omega arith in
    rw (header-whole s forms)
    (laid-three args.room.now (header_start s forms) (header_flags s) (take 8 (drop 24 s)) write-status.new.room write-flags.new.room _ c.lay.new.room 9 24
    (length-header_start s forms) (length-header_front s forms) fits write-status.ensures write-flags.ensures refl c.lay.ensures)
