-- `soundness::seen_words::changes_of` meets its contract: past the files there is none. Assumes nothing.
use Prim.Native.Nat.{◌≤◌}
use mathlib.Core.Path.{◌≡◌, sym, ap}
use native.Mathlib.Omega.{arith}
use lib.ListN.{length, get_or-eq_default}
use Rattle.records.specs.Empty.{no_file}
use Rattle.records.specs.declared.File.{File}
use Rattle.tables.specs.Words.{file_array}
use Rattle.tables.specs.ArrayLaws.{length-file_array}
use Rattle.soundness.proofs.seen_words.changes_of.Goals as goal

pub returns-else-i-lt16 : goal.returns-else-i-lt16
returns-else-i-lt16 c =
    let f = file_array c.args.files.now in
    let long : length (file_array c.args.files.now) ≡ 16 = length-file_array c.args.files.now in
    let past : length (file_array c.args.files.now) ≤ c.args.file = omega arith in
    sym (ap (λ (x : File). x.changes) (get_or-eq_default f no_file past))
