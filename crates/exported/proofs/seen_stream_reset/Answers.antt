-- `exported::seen_stream_reset` meets its contract: the words of a reader that has read nothing are all 0. Assumes nothing.
use mathlib.Core.Path.{ap}
use Rattle.stream.specs.State.{none_begun}
use Rattle.boundary.specs.StreamWords.{words_of}
use Rattle.demands.specs.StreamSeen.{state_read}
use Rattle.exported.proofs.seen_stream_reset.Goals as goal

pub returns : goal.returns
unfolding words_of none_begun
returns c = record { state_after = c.gateway_stream_reset.ensures; state_after_2 = ap state_read c.gateway_stream_reset.ensures }
