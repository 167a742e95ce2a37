-- Each call goes on in the history; the length of a lent slice is kept by itself. Assumes nothing.
use Rattle.std.proofs.Common.{length, ◌-◌}
use Rattle.replay.proofs.replay.Given as goal

abbrev pub decreases-loop-at : goal.decreases-loop-at
decreases-loop-at g l = length l.history - l.at
