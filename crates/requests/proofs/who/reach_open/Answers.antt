-- `requests::who::reach_open` meets its contract: the tree is reached first, then the open is looked for.
-- Assumes nothing.
use mathlib.Core.Path.{sym, ◌∙◌}
use Rattle.tables.specs.Words.{tables_of}
use Rattle.requests.proofs.Raised.{handed_on}
use Rattle.requests.specs.Reach.{open-no-tree, open-behind}
use Rattle.requests.proofs.who.reach_open.Goals as goal

pub returns-in_err-reach_tree : goal.returns-in_err-reach_tree
returns-in_err-reach_tree c = handed_on _ _ c.from_residual.ensures.1 ∙ sym (open-no-tree c.args.c _ c.args.fid _ (sym c.in_err-reach_tree.ensures))

pub returns : goal.returns
unfolding tables_of
returns c = c.find_open.ensures ∙ sym (open-behind c.args.c (tables_of c.args.words.now) c.args.fid _ (sym c.in_ok-reach_tree.ensures))
