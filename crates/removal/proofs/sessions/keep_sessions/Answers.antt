-- `removal::sessions::keep_sessions` meets its contract: it is `keep` over its records, by the rule and the number that the closures tell. Assumes nothing.
use Rattle.std.proofs.Common.{refl, rules}
use Rattle.tables.specs.Words.{session_array}
use Rattle.numbers.specs.Column.{uid_of}
use Rattle.removal.specs.Removal.{session_stays}
use Rattle.removal.proofs.sessions.keep_sessions.Goals as goal

pub returns : goal.returns
unfolding session_array
returns c =
    let stays = session_stays c.args.gone in (
      c.keep.ensures.marked stays (λ x b e. search rules) uid_of (λ x k e. search rules) refl,
      c.keep.ensures.filtered stays (λ x b e. search rules),
    )
