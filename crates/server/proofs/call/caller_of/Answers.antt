-- `server::call::caller_of` meets its contract: each field is read from its place, and the two halves of the process make 32 bits.
-- Assumes nothing.
use Rattle.message.specs.Caller.{caller_of}
use Rattle.server.proofs.call.caller_of.Goals as goal

pub returns : goal.returns
unfolding caller_of
returns c =
    rw (
      c.from-high.ensures,
      c.le16_at.ensures,
      c.from-low.ensures,
      c.le16_at-2.ensures,
      c.le16_at-3.ensures,
      c.le16_at-4.ensures,
    )
