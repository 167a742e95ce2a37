-- `wire::fill::lay` meets its contract: the copied bytes stand over the front of the room.
use Rattle.std.proofs.Common.{zero-add}
use Rattle.lists.specs.Put.{put}
use Rattle.wire.proofs.fill.lay.Goals as goal

pub returns : goal.returns
unfolding put
returns c = rw (c.copy_from_slice.ensures.after, zero-add)
