-- `chain::judge::open_fits` meets its contract: a block of 15 words has its bytes where the code takes them.
-- Assumes nothing.
-- the block has 15 words, and stands inside the message
use mathlib.Core.Path.{◌≡◌, sym, ◌∙◌}
use Prim.Native.Nat.{◌+◌, ◌-◌, ◌≤◌}
use native.Mathlib.Omega.{arith}
use mathlib.Core.Bool.{true}
use lib.ListN.{length}
use Rattle.chain.specs.Layout.{word_count, byte_area, byte_count, block_end}
use Rattle.chain.specs.Parse.{shaped, open_fits}
use Rattle.chain.specs.ParseLaws.{shaped-words, shaped-inside}
use Rattle.chain.proofs.judge.open_fits.Goals as goal
use Rattle.chain.proofs.judge.open_fits.Goals.{Else-not-has_shape}

fits : (c : Else-not-has_shape) → shaped c.args.s.now c.args.at 15 ≡ true
fits c = sym c.has_shape.ensures ∙ c.if-not-has_shape.false

words : (c : Else-not-has_shape) → word_count c.args.s.now c.args.at ≡ 15
words c = shaped-words c.args.s.now c.args.at 15 (fits c)

inside : (c : Else-not-has_shape) → block_end c.args.s.now c.args.at ≤ length c.args.s.now
inside c = shaped-inside c.args.s.now c.args.at 15 (fits c)

pub returns-then-not-has_shape : goal.returns-then-not-has_shape
unfolding open_fits
returns-then-not-has_shape c = rw (← c.has_shape.ensures, c.if-not-has_shape.true)

pub overflow_add-from : goal.overflow_add-from
overflow_add-from c = omega (arith, inside (goal.at.overflow_add-from c).Else-not-has_shape, words (goal.at.overflow_add-from c).Else-not-has_shape)

pub block_end-to-requires : goal.block_end-to-requires
block_end-to-requires c = omega (arith, inside (goal.at.block_end-to-requires c).Else-not-has_shape)

pub slice_bounds-is_terminated-start : goal.slice_bounds-is_terminated-start
slice_bounds-is_terminated-start c = omega (arith, words (goal.at.slice_bounds-is_terminated-start c).Else-not-has_shape, c.block_end-to.ensures)

pub slice_bounds-is_terminated-end : goal.slice_bounds-is_terminated-end
slice_bounds-is_terminated-end c = omega (arith, inside (goal.at.slice_bounds-is_terminated-end c).Else-not-has_shape, c.block_end-to.ensures)

pub slice_bounds-is_terminated-count : goal.slice_bounds-is_terminated-count
slice_bounds-is_terminated-count c = omega (arith, words (goal.at.slice_bounds-is_terminated-count c).Else-not-has_shape, c.block_end-to.ensures)

pub returns : goal.returns
unfolding open_fits
returns c =
    let args = c.args in
    let from : byte_area args.s.now args.at ≡ args.at + 33 = omega (arith, words (goal.at.returns c).Else-not-has_shape) in
    let bytes : block_end args.s.now args.at - (args.at + 33) ≡ byte_count args.s.now args.at = omega (arith, words (goal.at.returns c).Else-not-has_shape) in
    rw (fits (goal.at.returns c).Else-not-has_shape, from, ← bytes, ← c.block_end-to.ensures) c.is_terminated.ensures
