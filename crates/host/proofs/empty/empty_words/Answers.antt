-- `host::empty::empty_words` meets its contract: words that are all zero hold no tables.
-- Assumes nothing.
use mathlib.Core.Path.{refl}
use Rattle.host.proofs.Emptied.{zero-tables, zero-fit}
use Rattle.host.proofs.empty.empty_words.Goals as goal

pub returns : goal.returns
returns c = record { words_after = refl; words_after_2 = zero-tables; words_after_3 = zero-fit }
