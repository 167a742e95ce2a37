-- `gateway::holder::put_holder` meets its contract: the words of a holder, and of none. Assumes nothing.
use Rattle.boundary.specs.Boundary.{holder_words}
use Rattle.gateway.proofs.holder.put_holder.Goals as goal

pub returns-in-None : goal.returns-in-None
unfolding holder_words
returns-in-None c = rw c.in-None.is

pub returns-in-Some : goal.returns-in-Some
unfolding holder_words
returns-in-Some c = rw c.in-Some.is
