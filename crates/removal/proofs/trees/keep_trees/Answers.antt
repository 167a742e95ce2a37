-- `removal::trees::keep_trees` meets its contract: it is `keep` over its records, by the rule and the number that the closures tell. Assumes nothing.
use Rattle.std.proofs.Common.{refl, rules}
use Rattle.tables.specs.Words.{tree_array}
use Rattle.numbers.specs.Column.{tid_of}
use Rattle.removal.specs.Filter.{tree_marked}
use Rattle.removal.proofs.trees.keep_trees.Goals as goal

pub returns : goal.returns
unfolding tree_array
returns c =
    let stays = tree_marked c.args.gone c.args.uids.now in (
      c.keep.ensures.marked stays (λ x b e. search rules) tid_of (λ x k e. search rules) refl,
      c.keep.ensures.filtered stays (λ x b e. search rules),
    )
