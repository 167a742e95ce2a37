-- `chain::shape::has_shape` meets its contract: past the end no block fits, and the other tests are those of the definition.
-- Assumes nothing.
use mathlib.Core.Path.{sym, ◌∙◌}
use borrow.Author.Tests.{eq-eqb, ne_eqb}
use Rattle.wire.specs.LittleEndian.{byte_at}
use Rattle.chain.specs.Parse.{shaped}
use Rattle.chain.specs.ParseLaws.{shaped-past}
use Rattle.chain.proofs.shape.has_shape.Goals as goal

pub returns-then-s-at : goal.returns-then-s-at
returns-then-s-at c =
    let args = c.args in
    sym (shaped-past args.s.now args.at args.words c.if-s-at.true)

pub returns-then-byte_at-words : goal.returns-then-byte_at-words
unfolding shaped
returns-then-byte_at-words c = rw (← c.byte_at.ensures, ne_eqb c.byte_at.result c.args.words c.if-byte_at-words.true)

pub returns : goal.returns
unfolding shaped
returns c =
    let args = c.args in
    rw (c.block_end.ensures, eq-eqb (byte_at args.s.now args.at) args.words (sym c.byte_at.ensures ∙ c.if-byte_at-words.false))
