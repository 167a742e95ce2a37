-- `numbers::column_words::free_uid` meets its contract: the numbers looked at are those of the records in use.
-- Assumes nothing.
use mathlib.Core.Path.{ap, ◌∙◌}
use Prim.Native.Nat.{ℕ}
use native.Mathlib.Omega.{arith}
use Rattle.numbers.specs.Number.{smallest_free}
use Rattle.numbers.specs.ColumnWords.{numbers_in, uids-in}
use Rattle.numbers.proofs.column_words.free_uid.Goals as goal

pub smallest_free-requires : goal.smallest_free-requires
smallest_free-requires c = let few = c.in_use.ensures in (omega arith, (omega arith, omega arith))

pub returns : goal.returns
returns c =
    let w = c.args.words.now in
    c.smallest_free.ensures ∙ ap smallest_free (ap (λ (n : ℕ). numbers_in 2 n w) c.in_use.ensures ∙ uids-in w)
