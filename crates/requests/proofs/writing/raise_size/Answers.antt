-- `requests::writing::raise_size` meets its contract: the larger of the size and the end is set.
-- Assumes nothing.
use mathlib.Core.Path.{ap, ◌∙◌}
use Rattle.std.specs.Prelude.{ℕ, max}
use Rattle.records.specs.Change.{with_change}
use Rattle.tables.specs.Words.{tables_of}
use Rattle.requests.proofs.writing.raise_size.Goals as goal

pub returns : goal.returns
returns c =
    let args = c.args in
    let size = c.max-size.ensures ∙ ap (λ (n : ℕ). max n args.end) c.file_size.ensures in
    record { words_after = c.change_file.ensures.words_after ∙ ap (with_change (tables_of args.words.now) args.file) size; words_after_2 = c.change_file.ensures.words_after_2 }
