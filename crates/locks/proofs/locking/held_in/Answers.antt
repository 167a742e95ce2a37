-- `locks::locking::held_in` meets its contract: the list has as many records as the count says, and no more than the table.
-- Assumes nothing.
use mathlib.Core.Path.{◌∙◌, sym}
use Rattle.locks.proofs.Lent.{held-in-use}
use Rattle.locks.proofs.locking.held_in.Goals as goal

pub returns : goal.returns
returns c = c.in_use.ensures ∙ sym (held-in-use c.args.words.now)
