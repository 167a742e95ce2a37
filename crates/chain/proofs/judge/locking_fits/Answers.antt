-- `chain::judge::locking_fits` meets its contract: a block of 8 words has each number where the code reads it.
-- Assumes nothing.
-- the block has 8 words, and stands inside the message
use mathlib.Core.Path.{◌≡◌, sym, ◌∙◌}
use Prim.Native.Nat.{◌+◌, ◌*◌, ◌^◌, ◌≤◌, ◌<◌}
use native.Mathlib.Omega.{arith}
use lib.ListN.{length}
use mathlib.Core.Bool.{true}
use Rattle.locks.specs.Wire.{place-small}
use Rattle.chain.specs.Layout.{word_count, block_end}
use Rattle.chain.specs.Parse.{shaped, is_large, locking_fits}
use Rattle.chain.specs.ParseLaws.{shaped-words, shaped-inside}
use Rattle.chain.proofs.judge.locking_fits.Goals as goal
use Rattle.chain.proofs.judge.locking_fits.Goals.{Else-not-has_shape}

fits : (c : Else-not-has_shape) → shaped c.args.s.now c.args.at 8 ≡ true
fits c = sym c.has_shape.ensures ∙ c.if-not-has_shape.false

inside : (c : Else-not-has_shape) → block_end c.args.s.now c.args.at ≤ length c.args.s.now
inside c = shaped-inside c.args.s.now c.args.at 8 (fits c)

pub returns-then-not-has_shape : goal.returns-then-not-has_shape
unfolding locking_fits
returns-then-not-has_shape c = rw (← c.has_shape.ensures, c.if-not-has_shape.true)

pub overflow_add-at : goal.overflow_add-at
overflow_add-at c = omega (arith, inside (goal.at.overflow_add-at c).Else-not-has_shape)

pub overflow_add-at-2 : goal.overflow_add-at-2
overflow_add-at-2 c = omega (arith, inside (goal.at.overflow_add-at-2 c).Else-not-has_shape)

pub overflow_add-at-3 : goal.overflow_add-at-3
overflow_add-at-3 c = omega (arith, inside (goal.at.overflow_add-at-3 c).Else-not-has_shape)

pub overflow_add-at-4 : goal.overflow_add-at-4
overflow_add-at-4 c = omega (arith, inside (goal.at.overflow_add-at-4 c).Else-not-has_shape)

pub overflow_mul-result : goal.overflow_mul-result
overflow_mul-result c =
    let le16-at = c.le16_at in
    let le16-at2 = c.le16_at-2 in
    let few : le16-at.result + le16-at2.result < 2 ^ 17 = omega (arith, le16-at.type_inv, le16-at2.type_inv) in
    let small : (le16-at.result + le16-at2.result) * c.range_size.result ≤ 2621440 = rw c.range_size.ensures (place-small _ (le16-at.result + le16-at2.result) few) in
    omega arith

pub returns : goal.returns
unfolding locking_fits is_large
returns c =
    let args = c.args in
    let words : word_count args.s.now args.at ≡ 8 = shaped-words args.s.now args.at 8 (fits (goal.at.returns c).Else-not-has_shape) in
    let place : args.at + 1 + 2 * word_count args.s.now args.at ≡ args.at + 17 = omega arith in
    rw (fits (goal.at.returns c).Else-not-has_shape, place, c.range_size.ensures, c.le16_at.ensures, c.le16_at-2.ensures, c.le16_at-bytes.ensures, c.byte_at-kind.ensures)
