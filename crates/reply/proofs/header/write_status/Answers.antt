-- `reply::header::write_status` meets its contract: the nine bytes are laid over the front.
-- Assumes nothing.
use Rattle.reply.specs.Fronts.{header_start}
use mathlib.Core.Path.{refl, ◌∙◌, ap}
use mathlib.Core.List.{◌∷◌}
use Rattle.message.specs.Reply.{four}
use Rattle.reply.proofs.Bytes.{laid_as, four_bytes}
use Rattle.reply.proofs.header.write_status.Goals as goal

pub returns : goal.returns
unfolding header_start
returns c =
    let args = c.args in
    let number = c.status_number-number in
    let bytes = four_bytes number.result refl c.low-n0.ensures c.high-n1.ensures c.low-n2.ensures c.high-n3.ensures ∙ ap four number.ensures in
    laid_as args.room.now c.lay.ensures (λ i. 0xff ∷ 0x53 ∷ 0x4d ∷ 0x42 ∷ (c.byte_at-command.ensures i) ∷ bytes i)
