-- `sample::show::put_answer` meets its contract: one text behind the other.
-- Assumes nothing.
use mathlib.Core.Path.{sym, ◌∙◌, ap, refl}
use Prim.Native.Nat.{ℕ}
use native.Mathlib.Omega.{arith}
use lib.ListN.{length, take}
use lib.Seq.{length-take-le}
use Rattle.lists.specs.Stored.{take-most}
use Rattle.text.specs.Overlaid.{written_then}
use Rattle.sample.specs.Shown.{answer_text}
use Rattle.sample.proofs.show.put_answer.Goals as goal

pub slice_bounds-put_hex_bytes-end : goal.slice_bounds-put_hex_bytes-end
slice_bounds-put_hex_bytes-end c =
    let args = c.args in
    sym (length-take-le c.min-n.result args.room.now (omega (arith, c.min-n.ensures)))

pub returns : goal.returns
unfolding answer_text
returns c =
    let args = c.args in
    let put-text = c.put_text-a1 in
    let put-decimal = c.put_decimal-a2 in
    let put-text2 = c.put_text-a3 in
    let put-decimal2 = c.put_decimal-a4 in
    let put-text3 = c.put_text-a5 in
    let cut = c.min-n in
    let put-hex-bytes = c.put_hex_bytes-a6 in
    let same = ap (λ (n : ℕ). take n args.room.now) cut.ensures ∙ take-most args.room.now args.length (length args.room.now) refl in
    rw (← same)
    (written_then put-text.ensures
    (written_then put-decimal.ensures
    (written_then put-text2.ensures
    (written_then put-decimal2.ensures
    (written_then put-text3.ensures
    (written_then put-hex-bytes.ensures
    c.put_text.ensures))))))
