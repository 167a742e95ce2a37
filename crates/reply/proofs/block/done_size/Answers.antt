-- `reply::block::done_size` meets its contract: by the answers; a READ's count is inside the file memory, so the sum fits.
-- Assumes nothing.
use native.Mathlib.Omega.{arith}
use Prim.Native.Nat.{◌+◌, ◌≤◌}
use Rattle.reply.specs.BlockLaws.{read-inside, core-inside}
use Rattle.reply.proofs.block.done_size.Goals as goal

pub overflow_add-result : goal.overflow_add-result
overflow_add-result c = let h : c.in-Read.field-0 + c.in-Read.count ≤ 65536 = read-inside c.args.a c.in-Read.field-0 c.in-Read.count c.in-Read.is c.requires in record { fits = omega arith }

pub overflow_add-result-in-CoreRead : goal.overflow_add-result-in-CoreRead
overflow_add-result-in-CoreRead c = let h : c.in-CoreRead.field-0 + c.in-CoreRead.count ≤ 65536 = core-inside c.args.a c.in-CoreRead.field-0 c.in-CoreRead.count c.in-CoreRead.is c.requires in record { fits = omega arith }
