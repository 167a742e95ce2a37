-- `removal::opens::keep_opens` meets its contract: it is `keep` over its records, by the rule and the number that the closures tell. Assumes nothing.
use Rattle.std.proofs.Common.{refl, rules}
use Rattle.tables.specs.Words.{open_array}
use Rattle.numbers.specs.Column.{fid_of}
use Rattle.removal.specs.Filter.{open_marked}
use Rattle.removal.proofs.opens.keep_opens.Goals as goal

pub returns : goal.returns
unfolding open_array
returns c =
    let stays = open_marked c.args.gone c.args.tids.now in (
      c.keep.ensures.marked stays (λ x b e. search rules) fid_of (λ x k e. search rules) refl,
      c.keep.ensures.filtered stays (λ x b e. search rules),
    )
