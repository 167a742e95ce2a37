-- `requests::opening::do_open` meets its contract: the tests are those of the definition, in its order.
-- Assumes nothing.
use mathlib.Core.Path.{refl, sym, ◌∙◌}
use Rattle.requests.proofs.Raised.{raised}
use borrow.Author.Tests.{eq-eqb, ne_eqb}
use Rattle.message.specs.Command.{do_open}
use Rattle.requests.specs.Leaves.{gives-refused, gives-as}
use Rattle.requests.specs.Reach.{no-tree, some-tree}
use Rattle.requests.proofs.opening.do_open.Goals as goal

pub returns-in_err-reach_tree-clause-leaves : goal.returns-in_err-reach_tree-clause-leaves
unfolding do_open
returns-in_err-reach_tree-clause-leaves c = λ m. gives-refused _ (no-tree c.args.c _ _ _ (sym c.in_err-reach_tree.ensures)) (raised _ _ _ c.from_residual.ensures.1)

pub returns-then-f-ne1-clause-leaves : goal.returns-then-f-ne1-clause-leaves
unfolding do_open
returns-then-f-ne1-clause-leaves c = λ m. gives-refused _ (some-tree c.args.c _ _ _ (sym c.in_ok-reach_tree.ensures) ∙ rw (ne_eqb _ _ c.if-f-ne1.true)) refl

pub returns-then-not-codes_served-clause-leaves : goal.returns-then-not-codes_served-clause-leaves
unfolding do_open
returns-then-not-codes_served-clause-leaves c =
    λ m. gives-refused _ (some-tree c.args.c _ _ _ (sym c.in_ok-reach_tree.ensures) ∙ rw (eq-eqb _ _ c.if-f-ne1.false, sym c.codes_served.ensures ∙ c.if-not-codes_served.true)) refl

pub returns-clause-leaves : goal.returns-clause-leaves
unfolding do_open
returns-clause-leaves c =
    λ m.
    gives-as (some-tree c.args.c _ _ _ (sym c.in_ok-reach_tree.ensures))
    (rw (eq-eqb _ _ c.if-f-ne1.false, sym c.codes_served.ensures ∙ c.if-not-codes_served.false) (c.open_named.ensures.leaves m))
