-- `stream::reader::answer` meets its contract.
-- Assumes nothing.
use mathlib.Core.Path.{refl}
use Rattle.stream.specs.Reader.{step_of}
use Rattle.stream.proofs.reader.answer.Goals as goal

pub returns : goal.returns
unfolding step_of
returns c = refl
