-- `tables::file::size_at` meets its contract: it is its word of the file's two. Assumes nothing.
use mathlib.Core.Path.{sym, ap}
use Rattle.records.specs.Empty.{no_file}
use Rattle.records.specs.declared.File.{File}
use Rattle.tables.specs.ArrayLaws.{file-at}
use Rattle.tables.proofs.file.size_at.Goals as goal

pub returns : goal.returns
returns c =
    let args = c.args in
    sym (ap (λ (f : File). f.size) (file-at args.words.now args.i no_file c.requires.1))
