-- `stream::state::byte_fits` meets its contract.
-- Assumes nothing.
use borrow.Author.Tests.{lt-ltb, le-ltb}
use Rattle.stream.specs.State.{byte_fits}
use Rattle.stream.proofs.state.byte_fits.Goals as goal

pub returns-then-place-count : goal.returns-then-place-count
unfolding byte_fits
returns-then-place-count c = rw (lt-ltb c.args.place c.args.count c.if-place-count.true)

pub returns-else-place-count : goal.returns-else-place-count
unfolding byte_fits
returns-else-place-count c = rw (le-ltb c.args.place c.args.count c.if-place-count.false)
