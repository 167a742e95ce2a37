-- `stream::state::message_fits` meets its contract.
-- Assumes nothing.
use mathlib.Core.Path.{refl}
use Rattle.stream.specs.State.{message_fits}
use Rattle.stream.proofs.state.message_fits.Goals as goal

pub returns : goal.returns
unfolding message_fits
returns c = refl
