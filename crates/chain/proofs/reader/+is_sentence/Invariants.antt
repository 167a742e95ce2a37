use Rattle.std.proofs.Common.{◌-◌, length}
use Rattle.chain.proofs.reader.+is_sentence.Given as goal

-- a follower stands behind the block, so what is left of the message falls
abbrev pub decreases-is_sentence : goal.decreases-is_sentence
decreases-is_sentence l = length l.s.now - l.at
