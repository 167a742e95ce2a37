-- `chain::judge::core_write_fits` meets its contract: a block of 5 words has each number where the code reads it.
-- Assumes nothing.
-- the block has 5 words, and stands inside the message
use mathlib.Core.Path.{◌≡◌, sym, ◌∙◌}
use Prim.Native.Nat.{◌+◌, ◌≤◌}
use native.Mathlib.Omega.{arith}
use mathlib.Core.Bool.{true, ◌&&◌}
use lib.ListN.{length}
use lib.Dec.{eqb}
use borrow.Author.Tests.{eq-eqb, ne_eqb}
use Rattle.wire.specs.LittleEndian.{byte_at, le16_at}
use Rattle.chain.specs.Layout.{block_end, core_count}
use Rattle.chain.specs.Parse.{shaped, core_write_fits}
use Rattle.chain.specs.ParseLaws.{shaped-inside, core-write-tests}
use Rattle.chain.proofs.judge.core_write_fits.Goals as goal
use Rattle.chain.proofs.judge.core_write_fits.Goals.{Else-not-has_shape}

fits : (c : Else-not-has_shape) → shaped c.args.s.now c.args.at 5 ≡ true
fits c = sym c.has_shape.ensures ∙ c.if-not-has_shape.false

inside : (c : Else-not-has_shape) → block_end c.args.s.now c.args.at ≤ length c.args.s.now
inside c = shaped-inside c.args.s.now c.args.at 5 (fits c)

tests : (c : Else-not-has_shape) → core_write_fits c.args.s.now c.args.at ≡ (eqb (byte_at c.args.s.now (c.args.at + 13)) 1 && (eqb (le16_at c.args.s.now (c.args.at + 14)) (core_count c.args.s.now c.args.at) && eqb (le16_at c.args.s.now (c.args.at + 11)) (3 + core_count c.args.s.now c.args.at)))
tests c = core-write-tests c.args.s.now c.args.at (fits c)

pub returns-then-not-has_shape : goal.returns-then-not-has_shape
unfolding core_write_fits
returns-then-not-has_shape c = rw (← c.has_shape.ensures, c.if-not-has_shape.true)

pub overflow_add-at : goal.overflow_add-at
overflow_add-at c = omega (arith, inside (goal.at.overflow_add-at c).Else-not-has_shape)

pub returns-then-byte_at-ne1 : goal.returns-then-byte_at-ne1
returns-then-byte_at-ne1 c = rw (tests (goal.at.returns-then-byte_at-ne1 c).Else-not-has_shape, ← c.byte_at.ensures, ne_eqb c.byte_at.result 1 c.if-byte_at-ne1.true)

pub overflow_add-at-2 : goal.overflow_add-at-2
overflow_add-at-2 c = omega (arith, inside (goal.at.overflow_add-at-2 c).Else-not-has_shape)

pub overflow_add-at-3 : goal.overflow_add-at-3
overflow_add-at-3 c = omega (arith, inside (goal.at.overflow_add-at-3 c).Else-not-has_shape)

pub returns-then-le16_at-count : goal.returns-then-le16_at-count
returns-then-le16_at-count c = rw (tests (goal.at.returns-then-le16_at-count c).Else-not-has_shape, ← c.byte_at.ensures, eq-eqb c.byte_at.result 1 c.if-byte_at-ne1.false, ← c.le16_at-count.ensures, ← c.le16_at.ensures, ne_eqb c.le16_at.result c.le16_at-count.result c.if-le16_at-count.true)

pub overflow_add-at-4 : goal.overflow_add-at-4
overflow_add-at-4 c = omega (arith, inside (goal.at.overflow_add-at-4 c).Else-not-has_shape)

pub returns : goal.returns
returns c = rw (tests (goal.at.returns c).Else-not-has_shape, ← c.byte_at.ensures, eq-eqb c.byte_at.result 1 c.if-byte_at-ne1.false, ← c.le16_at-count.ensures, ← c.le16_at.ensures, eq-eqb c.le16_at.result c.le16_at-count.result c.if-le16_at-count.false, ← c.le16_at-bytes.ensures)
