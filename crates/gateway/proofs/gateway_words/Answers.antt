-- `gateway::gateway_words` meets its contract: the number is the sum. Assumes nothing.
use mathlib.Core.Path.{refl}
use Rattle.boundary.specs.Boundary.{table_words}
use Rattle.gateway.proofs.gateway_words.Goals as goal

pub returns : goal.returns
unfolding table_words
returns c = refl
