-- `reply::block::write_read` meets its contract: its two parts, and the data behind them, are one write.
-- Assumes nothing.
use Rattle.reply.proofs.Laid.{laid-three}
use Rattle.reply.specs.Fronts.{read_start, read_extent, length-read_start, length-read_front, read_whole}
use Rattle.reply.specs.BlockLaws.{length-yielded}
use mathlib.Core.Path.{◌≡◌, refl, ap, ◌∙◌}
use mathlib.Core.List.{◌++◌}
use Rattle.lists.specs.Put.{put}
use Prim.Native.Nat.{ℕ, ◌+◌, ◌-◌, ◌≤◌}
use native.Mathlib.Omega.{arith}
use lib.ListN.{length, take, drop}
use Rattle.reply.proofs.block.write_read.Goals as goal

pub returns : goal.returns
returns c =
    let args = c.args in
    let write-read-start = c.write_read_start in
    let write-extent = c.write_extent in
    let at = args.at in
    let count = args.count in
    let place = args.place in
    let link = args.link in
    let m = args.memory.now in
    let n : length (take count (drop at m)) ≡ count = length-yielded m at count (omega arith) in
    let same : at + count - at ≡ count = omega arith in
    let fits : 27 + length (take (at + count - at) (drop at m)) ≤ length args.room.now = rw (same, n) (omega arith) in
    rw (read_whole (take count (drop at m)) place link, n)
    ((laid-three args.room.now (read_start link) (read_extent count place) (take (at + count - at) (drop at m)) write-read-start.new.room write-extent.new.room _ c.lay.new.room 11 27
    (length-read_start link) (length-read_front count place link) fits write-read-start.ensures write-extent.ensures refl c.lay.ensures)
    ∙ ap (λ (k : ℕ). put args.room.now 0 ((read_start link ++ read_extent count place) ++ take k (drop at m))) same)
