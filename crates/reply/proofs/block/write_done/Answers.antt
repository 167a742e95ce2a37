-- `reply::block::write_done` meets its contract: by the answers, each by its writer's contract.
-- Assumes nothing.
use Rattle.message.specs.Given.{said_of, done_size}
use Rattle.message.specs.Reply.{reply_block, refused_block}
use Rattle.reply.specs.BlockLaws.{length-yielded, read-inside, core-inside}
use Rattle.reply.specs.Fronts.{core-whole, open-whole}
use mathlib.Core.Path.{◌≡◌}
use Prim.Native.Nat.{◌+◌, ◌≤◌}
use native.Mathlib.Omega.{arith}
use lib.ListN.{length, take, drop}
use Rattle.reply.proofs.block.write_done.Goals as goal

pub write_linked-requires : goal.write_linked-requires
unfolding done_size
write_linked-requires c = rw c.in-Locked.is at c.requires.a_in_bounds

pub write_linked-requires-in-LoggedOff : goal.write_linked-requires-in-LoggedOff
unfolding done_size
write_linked-requires-in-LoggedOff c = rw c.in-LoggedOff.is at c.requires.a_in_bounds

pub write_read-requires : goal.write_read-requires
unfolding done_size
write_read-requires c =
    let pre = c.requires in
    record { memory_len = pre.memory_len; count_bound = read-inside c.args.a c.in-Read.at c.in-Read.count c.in-Read.is pre.a_value; count_in_bounds = rw c.in-Read.is at pre.a_in_bounds; place_bound = pre.place_bound }

pub write_wrote-requires : goal.write_wrote-requires
unfolding done_size
write_wrote-requires c = rw c.in-Wrote.is at c.requires.a_in_bounds

pub write_bare-requires : goal.write_bare-requires
unfolding done_size
write_bare-requires c = rw c.in-Plain.is at c.requires.a_in_bounds

pub write_core_read-requires : goal.write_core_read-requires
unfolding done_size
write_core_read-requires c =
    let pre = c.requires in
    record { memory_len = pre.memory_len; count_bound = core-inside c.args.a c.in-CoreRead.at c.in-CoreRead.count c.in-CoreRead.is pre.a_value; count_in_bounds = rw c.in-CoreRead.is at pre.a_in_bounds }

pub write_core_wrote-requires : goal.write_core_wrote-requires
unfolding done_size
write_core_wrote-requires c = rw c.in-CoreWrote.is at c.requires.a_in_bounds

pub write_opened-requires : goal.write_opened-requires
unfolding done_size
write_opened-requires c = rw c.in-Opened.is at c.requires.a_in_bounds

pub returns-in-Locked : goal.returns-in-Locked
unfolding said_of reply_block refused_block
returns-in-Locked c = rw c.in-Locked.is c.write_linked.ensures

pub returns-in-LoggedOff : goal.returns-in-LoggedOff
unfolding said_of reply_block refused_block
returns-in-LoggedOff c = rw c.in-LoggedOff.is c.write_linked-in-LoggedOff.ensures

pub returns-in-Read : goal.returns-in-Read
unfolding said_of
returns-in-Read c = rw c.in-Read.is c.write_read.ensures

pub returns-in-Wrote : goal.returns-in-Wrote
unfolding said_of reply_block
returns-in-Wrote c = rw c.in-Wrote.is c.write_wrote.ensures

pub returns-in-Plain : goal.returns-in-Plain
unfolding said_of reply_block refused_block
returns-in-Plain c = rw c.in-Plain.is c.write_bare.ensures

pub returns-in-CoreRead : goal.returns-in-CoreRead
unfolding said_of
returns-in-CoreRead c =
    let args = c.args in
    let m = args.memory.now in
    let fits : c.in-CoreRead.at + c.in-CoreRead.count ≤ 65536 = core-inside args.a c.in-CoreRead.at c.in-CoreRead.count c.in-CoreRead.is c.requires.a_value in
    let n : length (take c.in-CoreRead.count (drop c.in-CoreRead.at m)) ≡ c.in-CoreRead.count = length-yielded m c.in-CoreRead.at c.in-CoreRead.count (omega arith) in
    rw (c.in-CoreRead.is, core-whole (take c.in-CoreRead.count (drop c.in-CoreRead.at m)) args.place args.link, n) c.write_core_read.ensures

pub returns-in-CoreWrote : goal.returns-in-CoreWrote
unfolding said_of reply_block
returns-in-CoreWrote c = rw c.in-CoreWrote.is c.write_core_wrote.ensures

pub returns-in-Opened : goal.returns-in-Opened
unfolding said_of
returns-in-Opened c =
    let args = c.args in
    rw (c.in-Opened.is, open-whole c.in-Opened.fid c.in-Opened.size c.in-Opened.access c.in-Opened.results args.place args.link) c.write_opened.ensures
