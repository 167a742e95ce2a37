-- `soundness::whole::locks_ok` meets its contract: locks that fit end within bounds, as the test of the pairs asks.
-- Assumes nothing.
use mathlib.Core.Path.{sym, ◌∙◌}
use Rattle.lists.specs.Truth.{both_hold}
use Rattle.locks.specs.Answer.{file_in}
use Rattle.tables.specs.Words.{table_fits, lock_limits}
use Rattle.tables.specs.Written.{locks_in}
use Rattle.soundness.specs.WholeLaws.{fits-in-bounds}
use Rattle.soundness.proofs.whole.locks_ok.Goals as goal

pub locks_agree-requires : goal.locks_agree-requires
locks_agree-requires c =
    let args = c.args in
    let fit = both_hold (table_fits lock_limits 128 args.words.now) _ (sym c.locks_fit.ensures ∙ c.if-locks_fit.true) in
    record { words_len = c.requires.1; words_value = fits-in-bounds (file_in args.files.now) (locks_in args.words.now) fit.1 }
