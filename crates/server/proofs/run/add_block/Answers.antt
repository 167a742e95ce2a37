-- `server::run::add_block` meets its contract: the block stands behind the others.
-- Assumes nothing.
use Prim.Native.Nat.{ℕ, ◌+◌, ◌≤◌}
use mathlib.Core.Path.{ap}
use native.Mathlib.Omega.{arith}
use lib.ListN.{length, length-take, length-drop}
use Rattle.message.specs.Given.{answer_size}
use Rattle.server.specs.Taking.{block-laid}
use Rattle.server.proofs.run.add_block.Goals as goal

pub overflow_add-end : goal.overflow_add-end
overflow_add-end c =
    let args = c.args in
    let fits : args.place + answer_size args.answer ≤ 12292 = c.requires.answer_bound in let s = c.block_size.ensures in omega arith

pub write_block-requires : goal.write_block-requires
write_block-requires c =
    let pre = c.requires in
    let args = c.args in
    let fits : args.place + answer_size args.answer ≤ 12292 = pre.answer_bound in
    let enough : 12292 ≤ length args.room.now = pre.in_bounds in
    record { memory_len = pre.memory_len; a_value = pre.answer_value; a_in_bounds = rw (length-take, length-drop) (omega arith); place_bound = omega arith }

pub returns : goal.returns
returns c =
    let pre = c.requires in
    let args = c.args in
    let block_size = c.block_size in
    let link-to = c.link_to in
    let write-block = c.write_block in
    let fits : args.place + answer_size args.answer ≤ 12292 = pre.answer_bound in
    let enough : 12292 ≤ length args.room.now = pre.in_bounds in
    record { value = ap (λ (n : ℕ). args.place + n) block_size.ensures; room_after = block-laid args.room.now write-block.new.room args.memory.now args.place args.answer link-to.result args.next block_size.result block_size.ensures link-to.ensures write-block.ensures pre.answer_value pre.memory_len (omega arith) }
