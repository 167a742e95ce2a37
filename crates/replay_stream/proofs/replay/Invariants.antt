-- What is left of a piece lies in the stream. Assumes nothing.
use Rattle.std.proofs.Common.{length, ◌≤◌}
use Rattle.replay_stream.proofs.replay.Given as goal

abbrev pub invariant-loop : goal.invariant-loop
invariant-loop g l = (l.cut.at ≤ l.cut.end) × (l.cut.end ≤ length l.stream)
