use Rattle.std.proofs.Common.{◌-◌, length}
use Rattle.listing.proofs.+put_blocks.Given as goal

-- a follower stands behind the block, so what is left of the message falls
abbrev pub decreases-put_blocks : goal.decreases-put_blocks
decreases-put_blocks l = length l.s.now - l.place
