-- `numbers::column_words::has_session` meets its contract: the numbers looked at are those of the records in use.
-- Assumes nothing.
use mathlib.Core.Path.{ap, ◌∙◌}
use Prim.Native.Nat.{ℕ}
use native.Mathlib.Omega.{arith}
use Rattle.numbers.specs.Number.{contains}
use Rattle.numbers.specs.ColumnWords.{numbers_in, uids-in}
use Rattle.numbers.proofs.column_words.has_session.Goals as goal

pub has_number-requires : goal.has_number-requires
has_number-requires c = let few = c.in_use.ensures in (omega arith, (omega arith, omega arith))

pub returns : goal.returns
returns c =
    let w = c.args.words.now in
    c.has_number.ensures ∙ ap (contains c.args.uid) (ap (λ (n : ℕ). numbers_in 2 n w) c.in_use.ensures ∙ uids-in w)
