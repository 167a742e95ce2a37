-- `chain::judge::read_fits` meets its contract: the tests are those of the definition, in its order.
-- Assumes nothing.
use Rattle.chain.specs.Parse.{read_fits}
use Rattle.chain.proofs.judge.read_fits.Goals as goal

pub returns-then-is_bare : goal.returns-then-is_bare
unfolding read_fits
returns-then-is_bare c = rw (← c.is_bare.ensures, c.if-is_bare.true)

pub returns : goal.returns
unfolding read_fits
returns c = rw (← c.is_bare.ensures, c.if-is_bare.false) c.is_bare-2.ensures
