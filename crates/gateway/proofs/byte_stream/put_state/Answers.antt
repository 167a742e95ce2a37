-- `gateway::byte_stream::put_state` meets its contract: word by word. Assumes nothing.
use mathlib.Core.Path.{refl}
use Rattle.boundary.specs.StreamWords.{words_of}
use Rattle.gateway.proofs.byte_stream.put_state.Goals as goal

pub returns : goal.returns
unfolding words_of
returns c = refl
