-- `requests::opening::open_by` meets its contract: the FID is the smallest free one.
-- Assumes nothing.
use Rattle.tables.specs.Words.{tables_of}
use Rattle.message.specs.Command.{open_by}
use Rattle.requests.proofs.opening.open_by.Goals as goal

pub returns : goal.returns
unfolding open_by tables_of
returns c = rw c.free_fid-fid.ensures
