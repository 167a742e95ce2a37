-- `server::call::refuse_message` meets its contract: the refused block and then the header before it are laid over the room.
-- Assumes nothing.
use Prim.Native.Nat.{◌≤◌, ℕ}
use mathlib.Core.Path.{refl, ap, ◌∙◌}
use mathlib.Core.List.{List}
use native.Mathlib.Omega.{arith}
use lib.ListN.{length, length-take, length-drop}
use Rattle.lists.specs.Put.{put}
use Rattle.lists.specs.PutLaws.{put-part}
use Rattle.message.specs.declared.refusal.Forms.{Forms}
use Rattle.std.specs.Prelude.{None as Nobody}
use Rattle.message.specs.Refusal.{forms_of}
use Rattle.message.specs.Reply.{reply_header, refused_block}
use Rattle.message.specs.Given.{inside, block_of, answer_size}
use Rattle.message.specs.Message.{only_status}
use Rattle.server.specs.TakenOf.{taken_of}
use Rattle.server.specs.Taking.{refused-finished, finish}
use Rattle.server.proofs.call.refuse_message.Goals as goal

pub write_block-requires : goal.write_block-requires
unfolding inside answer_size
write_block-requires c =
    let pre = c.requires in
    let enough : 12292 ≤ length c.args.room.now = pre.in_bounds_2 in
    record { memory_len = pre.memory_len; a_value = refl; a_in_bounds = rw (length-take, length-drop) (omega arith); place_bound = omega arith }

pub returns : goal.returns
unfolding taken_of only_status block_of refused_block
returns c =
    λ t.
    let pre = c.requires in
    let args = c.args in
    let write-block = c.write_block in
    let forms-of = c.forms_of in
    let write-header = c.write_header in
    let long : 35 ≤ length args.s.now = pre.in_bounds in
    let enough : 12292 ≤ length args.room.now = pre.in_bounds_2 in
    finish args.s.now args.room.now (only_status (forms_of args.why) t args.memory.now) (forms_of args.why) Nobody 35 t args.memory.now (put args.room.now 32 refused_block) write-header.new.room (refused-finished args.room.now (forms_of args.why) t args.memory.now)
    (write-header.ensures
    ∙ ap (λ (x : List ℕ). put x 0 (reply_header args.s.now forms-of.result))
    (put-part args.room.now refused_block write-block.new.room 32 (length args.room.now) (omega arith) (omega arith) write-block.ensures)
    ∙ ap (λ (x : Forms). put (put args.room.now 32 refused_block) 0 (reply_header args.s.now x)) forms-of.ensures)
    (omega arith) (omega arith)
