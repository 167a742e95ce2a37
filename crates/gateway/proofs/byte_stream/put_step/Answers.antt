-- `gateway::byte_stream::put_step` meets its contract: the words of each kind of step. Assumes nothing.
use Rattle.boundary.specs.StreamWords.{step_words}
use Rattle.gateway.proofs.byte_stream.put_step.Goals as goal

pub returns-in-None : goal.returns-in-None
unfolding step_words
returns-in-None c = rw c.in-None.is

pub returns-in-InPiece : goal.returns-in-InPiece
unfolding step_words
returns-in-InPiece c = rw (c.in-Some.is, c.in-InPiece.is)

pub returns-in-InBuffer : goal.returns-in-InBuffer
unfolding step_words
returns-in-InBuffer c = rw (c.in-Some.is, c.in-InBuffer.is)
