-- `chain::parse::core_write_body` meets its contract: where the block fits it has 5 words, so that its data stand where the code says; where it does not,
-- its fields are none of the answer's.
-- Assumes nothing.
use mathlib.Core.Path.{◌≡◌}
use Prim.Native.Nat.{◌+◌, ◌*◌}
use native.Mathlib.Omega.{arith}
use Rattle.lists.specs.Truth.{test-cases}
use Rattle.chain.specs.Layout.{word_count}
use Rattle.chain.specs.Parse.{core_write_fits, answer, parse, parse_core_write}
use Rattle.chain.specs.ParseLaws.{shaped-words, core-write-shaped}
use Rattle.chain.specs.Request.{request_named, is_andx}
use Rattle.chain.specs.Rows.{fits, row_fits, next_at}
use Rattle.chain.proofs.parse.core_write_body.Goals as goal

pub returns : goal.returns
unfolding parse parse_core_write fits row_fits is_andx request_named next_at answer
returns c =
    let args = c.args in
    test-cases (core_write_fits args.s.now args.at)
    (λ e.
    let words : word_count args.s.now args.at ≡ 5 = shaped-words args.s.now args.at 5 (core-write-shaped args.s.now args.at e) in
    let place : args.at + 3 + 2 * word_count args.s.now args.at + 3 ≡ args.at + 16 = omega arith in
    record { is = rw (e, place, c.le16_at-fid.ensures, c.le32_at-offset.ensures, c.le16_at-count.ensures) })
    (λ e. record { is = rw e })
