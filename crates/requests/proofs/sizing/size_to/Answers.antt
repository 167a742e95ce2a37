-- `requests::sizing::size_to` meets its contract: the size that the file has decides. Assumes nothing.
use borrow.Author.Tests.{eq-eqb, ne_eqb}
use Rattle.message.specs.Contents.{sized_to}
use Rattle.requests.proofs.sizing.size_to.Goals as goal

pub returns-then-file_size-size : goal.returns-then-file_size-size
unfolding sized_to
returns-then-file_size-size c = record { words_after = rw (← c.file_size.ensures, eq-eqb _ _ c.if-file_size-size.true); words_after_2 = λ h. h }

pub returns : goal.returns
unfolding sized_to
returns c = record { words_after = rw (← c.file_size.ensures, ne_eqb _ _ c.if-file_size-size.false) c.change_file.ensures.words_after; words_after_2 = c.change_file.ensures.words_after_2 }
