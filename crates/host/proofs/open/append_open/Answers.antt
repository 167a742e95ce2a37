-- `host::open::append_open` meets its contract: an open is a record as any other. Assumes nothing.
use Rattle.tables.specs.Words.{open_array}
use Rattle.host.proofs.open.append_open.Goals as goal

pub returns : goal.returns
unfolding open_array
returns c = c.append.ensures
