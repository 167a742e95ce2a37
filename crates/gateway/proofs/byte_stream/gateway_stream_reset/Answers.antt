-- `gateway::byte_stream::gateway_stream_reset` meets its contract: the words of a reader that has read nothing. Assumes nothing.
use mathlib.Core.Path.{ap, ◌∙◌}
use Rattle.boundary.specs.StreamWords.{words_of}
use Rattle.gateway.proofs.byte_stream.gateway_stream_reset.Goals as goal

pub returns : goal.returns
returns c = c.put_state.ensures ∙ ap words_of c.start.ensures
