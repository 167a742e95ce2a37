-- `requests::who::reach_tree` meets its contract: the session is asked for first, then the tree.
-- Assumes nothing.
use mathlib.Core.Path.{sym, ◌∙◌}
use Rattle.tables.specs.Words.{tables_of}
use Rattle.requests.proofs.Raised.{handed_on}
use Rattle.requests.specs.Reach.{tree-no-session, tree-behind}
use Rattle.requests.proofs.who.reach_tree.Goals as goal

pub returns-in_err-reach_session : goal.returns-in_err-reach_session
returns-in_err-reach_session c = handed_on _ _ c.from_residual.ensures.1 ∙ sym (tree-no-session c.args.c _ _ (sym c.in_err-reach_session.ensures))

pub returns-then-not-some_tree_is : goal.returns-then-not-some_tree_is
unfolding tables_of
returns-then-not-some_tree_is c =
    rw (tree-behind c.args.c (tables_of c.args.words.now) _ (sym c.in_ok-reach_session.ensures), sym c.some_tree_is.ensures ∙ c.if-not-some_tree_is.true)

pub returns : goal.returns
unfolding tables_of
returns c =
    rw (tree-behind c.args.c (tables_of c.args.words.now) _ (sym c.in_ok-reach_session.ensures), sym c.some_tree_is.ensures ∙ c.if-not-some_tree_is.false)
