-- `requests::sizing::size_free` meets its contract: the end is tested first; then the file grows and its size is set.
-- Assumes nothing.
use mathlib.Core.Path.{refl, ap}
use Rattle.std.specs.Prelude.{Ok}
use native.Mathlib.Omega.{arith}
use borrow.Author.Tests.{lt-ltb, le-ltb}
use Rattle.message.specs.declared.answer.Answer.TheVariants.{CoreWrote}
use Rattle.message.specs.Command.{core_wrote}
use Rattle.message.specs.Given.{said_of, bytes_inside}
use Rattle.requests.specs.Leaves.{performed, gives-refused, gives-done}
use Rattle.requests.specs.Steps.{size_free}
use Rattle.requests.proofs.sizing.size_free.Goals as goal

pub returns-then-f-gt4096 : goal.returns-then-f-gt4096
unfolding size_free
returns-then-f-gt4096 c = record { gives = gives-refused _ (rw (lt-ltb _ _ c.if-f-gt4096.true)) refl; words_after = λ h. h }

pub grow-requires : goal.grow-requires
grow-requires c =
    let pre = c.requires in
    record { words_len = pre.words_len; good = pre.good; file_bound = pre.file_bound; memory_len = pre.memory_len; end_bound = omega arith }

pub returns : goal.returns
unfolding size_free said_of bytes_inside
returns c = record { gives = gives-done (CoreWrote 0) _ (core_wrote 0) (rw (le-ltb _ _ c.if-f-gt4096.false, c.grow.ensures)) (ap (performed (Ok (CoreWrote 0))) c.size_to.ensures.words_after) refl refl; words_after = c.size_to.ensures.words_after_2 }
