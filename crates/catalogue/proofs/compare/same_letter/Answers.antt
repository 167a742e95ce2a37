-- `catalogue::compare::same_letter` meets its contract: equal words have equal letters. Assumes nothing.
use mathlib.Core.Path.{refl, sym, ap, ◌∙◌}
use Prim.Native.Nat.{◌%◌}
use lib.Dec.{eqb}
use borrow.Author.Tests.{eq-eqb}
use Rattle.catalogue.specs.Name.{folded}
use Rattle.catalogue.proofs.compare.same_letter.Goals as goal

pub returns-then-x-y : goal.returns-then-x-y
returns-then-x-y c =
    let x = c.args.x in
    let y = c.args.y in
    eq-eqb x y c.if-x-y.true ∙ sym (eq-eqb (folded (x % 256)) (folded (y % 256)) (rw c.if-x-y.true refl))

pub returns-else-x-y : goal.returns-else-x-y
returns-else-x-y c =
    let first = c.fold.ensures ∙ ap folded c.low8.ensures in
    let second = c.fold-else-x-y.ensures ∙ ap folded c.low8-else-x-y.ensures in
    ap (λ a. eqb a c.fold-else-x-y.result) first ∙ ap (λ b. eqb (folded (c.args.x % 256)) b) second
