-- `reply::block::write_core_read` meets its contract: the front, and the data behind it, are one write.
-- Assumes nothing.
use Rattle.reply.proofs.Laid.{laid-behind}
use Rattle.reply.specs.Fronts.{core_front, length-core_front}
use Rattle.reply.specs.BlockLaws.{length-yielded}
use mathlib.Core.Path.{◌≡◌, ap, ◌∙◌}
use mathlib.Core.List.{◌++◌}
use Rattle.lists.specs.Put.{put}
use Prim.Native.Nat.{ℕ, ◌+◌, ◌-◌, ◌≤◌}
use native.Mathlib.Omega.{arith}
use lib.ListN.{length, take, drop}
use Rattle.reply.proofs.block.write_core_read.Goals as goal

pub returns : goal.returns
returns c =
    let args = c.args in
    let at = args.at in
    let count = args.count in
    let m = args.memory.now in
    let n : length (take count (drop at m)) ≡ count = length-yielded m at count (omega arith) in
    let same : at + count - at ≡ count = omega arith in
    let fits : 16 + length (take (at + count - at) (drop at m)) ≤ length args.room.now = rw (same, n) (omega arith) in
    laid-behind args.room.now (core_front count) (take (at + count - at) (drop at m)) c.write_core_front.new.room c.lay.new.room 16
    (length-core_front count) fits c.write_core_front.ensures c.lay.ensures
    ∙ ap (λ (k : ℕ). put args.room.now 0 (core_front count ++ take k (drop at m))) same
