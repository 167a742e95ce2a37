-- `stream::state::no_header` meets its contract.
-- Assumes nothing.
use mathlib.Core.Path.{refl}
use Rattle.stream.specs.State.{no_header}
use Rattle.stream.proofs.state.no_header.Goals as goal

pub returns : goal.returns
unfolding no_header
returns c = refl
