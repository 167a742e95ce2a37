-- `removal::locks::keep_locks` meets its contract: it is `keep` over the locks, by the rule that the closure tells. Assumes nothing.
use Rattle.std.proofs.Common.{rules}
use Rattle.tables.specs.Words.{lock_array}
use Rattle.removal.specs.Filter.{lock_marked}
use Rattle.removal.proofs.locks.keep_locks.Goals as goal

pub returns : goal.returns
unfolding lock_array lock_marked
returns c = c.keep.ensures.filtered (lock_marked c.args.fids.now) (λ x b e. search rules)
