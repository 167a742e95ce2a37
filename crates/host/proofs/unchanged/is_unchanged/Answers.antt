-- `host::unchanged::is_unchanged` meets its contract: the tests are those of the definition, in its order. Assumes nothing.
use mathlib.Core.Path.{◌≡◌}
use native.Mathlib.Omega.{arith}
use lib.ListN.{length}
use borrow.Author.Tests.{not-true, not-false, eq-eqb, ne_eqb}
use Rattle.records.specs.Change.{changes_of}
use Rattle.tables.specs.Words.{tables_of}
use Rattle.tables.specs.PartLaws.{length_part}
use Rattle.host.specs.HostCall.{is_unchanged}
use Rattle.host.proofs.unchanged.is_unchanged.Goals as goal

pub returns-then-not-o : goal.returns-then-not-o
unfolding is_unchanged
returns-then-not-o c = rw (not-true c.args.o.read c.if-not-o.true)

pub changes_at-number-requires : goal.changes_at-number-requires
changes_at-number-requires c =
    let full : length c.args.words.now ≡ 1605 = c.requires.0 in
    (length_part c.args.words.now 1348 32 (omega arith), omega arith)

pub returns-then-o-number : goal.returns-then-o-number
unfolding is_unchanged changes_of tables_of
returns-then-o-number c = rw (not-false c.args.o.read c.if-not-o.false, ← c.changes_at-number.ensures, ne_eqb _ _ c.if-o-number.true)

pub returns : goal.returns
unfolding is_unchanged changes_of tables_of
returns c = rw (not-false c.args.o.read c.if-not-o.false, ← c.changes_at-number.ensures, eq-eqb _ _ c.if-o-number.false)
