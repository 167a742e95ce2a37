-- `reply::header::write_flags` meets its contract: the fifteen bytes are laid over the front.
-- Assumes nothing.
use Rattle.reply.specs.Fronts.{header_flags}
use mathlib.Core.Path.{◌∙◌}
use Prim.Native.Nat.{◌+◌, ◌*◌, ◌/◌, ◌%◌}
use native.Mathlib.Omega.{arith}
use mathlib.Core.List.{◌∷◌}
use lib.ListN.{replicate}
use Rattle.reply.proofs.Bytes.{laid_as}
use Rattle.reply.proofs.header.write_flags.Goals as goal

pub overflow_mul-asked : goal.overflow_mul-asked
overflow_mul-asked c = omega arith

pub returns : goal.returns
unfolding header_flags
returns c =
    let args = c.args in
    let flags = c.reply_flags-flags.ensures ∙ (λ i. 128 + c.byte_at.ensures i / 8 % 2 * 8) in
    let flags2 = c.byte_at-flags2.ensures in
    let asked = c.byte_at-2.ensures in
    let h0 = c.byte_at-h0.ensures in
    let h1 = c.byte_at-h1.ensures in
    laid_as args.room.now c.lay.ensures (λ i. flags i ∷ flags2 i % 2 ∷ asked i / 64 % 2 * 64 ∷ h0 i ∷ h1 i ∷ replicate 10 0)
