-- `chain::shape::is_bare` meets its contract: a block of that many words has its byte count where the code reads it.
-- Assumes nothing.
-- the block has the words asked for, and stands inside the message
use mathlib.Core.Path.{◌≡◌, sym, ◌∙◌}
use Prim.Native.Nat.{◌≤◌}
use native.Mathlib.Omega.{arith}
use lib.ListN.{length}
use mathlib.Core.Bool.{true}
use Rattle.chain.specs.Layout.{block_end}
use Rattle.chain.specs.Parse.{shaped, bare}
use Rattle.chain.specs.ParseLaws.{shaped-words, shaped-inside}
use Rattle.chain.proofs.shape.is_bare.Goals as goal
use Rattle.chain.proofs.shape.is_bare.Goals.{Else-not-has_shape}

fits : (c : Else-not-has_shape) → shaped c.args.s.now c.args.at c.args.words ≡ true
fits c = sym c.has_shape.ensures ∙ c.if-not-has_shape.false

inside : (c : Else-not-has_shape) → block_end c.args.s.now c.args.at ≤ length c.args.s.now
inside c = shaped-inside c.args.s.now c.args.at c.args.words (fits c)

pub returns-then-not-has_shape : goal.returns-then-not-has_shape
unfolding bare
returns-then-not-has_shape c = rw (← c.has_shape.ensures, c.if-not-has_shape.true)

pub overflow_add-count : goal.overflow_add-count
overflow_add-count c = omega (arith, inside (goal.at.overflow_add-count c).Else-not-has_shape)

pub overflow_add-count-2 : goal.overflow_add-count-2
overflow_add-count-2 c = omega (arith, inside (goal.at.overflow_add-count-2 c).Else-not-has_shape)

pub returns : goal.returns
unfolding bare
returns c =
    let args = c.args in
    rw (fits (goal.at.returns c).Else-not-has_shape, shaped-words args.s.now args.at args.words (fits (goal.at.returns c).Else-not-has_shape), c.le16_at.ensures)
