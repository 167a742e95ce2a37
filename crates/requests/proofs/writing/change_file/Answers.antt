-- `requests::writing::change_file` meets its contract: the change is written, and no other table changes.
-- Assumes nothing.
use Rattle.std.specs.Prelude.{◌≡◌, length}
use mathlib.Core.Path.{ap, ◌∙◌}
use native.Mathlib.Omega.{arith}
use Rattle.records.specs.Held.{with_files}
use Rattle.tables.specs.Words.{tables_of}
use Rattle.tables.specs.PartLaws.{length_part}
use Rattle.tables.specs.WholeLaws.{tables-files, fit-files}
use Rattle.requests.proofs.writing.change_file.Goals as goal

pub returns : goal.returns
unfolding tables_of
returns c =
    let w = c.args.words.now in
    let put = c.put_change in
    let full : length w ≡ 1605 = c.requires.words_len in
    let long : length put.new.words ≡ 32 = put.auto.words ∙ length_part w 1348 32 (omega arith) in
    record { words_after = tables-files w put.new.words full long ∙ ap (with_files (tables_of w)) put.ensures; words_after_2 = fit-files w put.new.words full long }
