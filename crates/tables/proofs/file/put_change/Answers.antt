-- `tables::file::put_change` meets its contract: the number is that of before, raised, and the other files stand. Assumes nothing.
use mathlib.Core.Path.{ap, sym, ◌∙◌}
use Prim.Native.Nat.{ℕ}
use native.Mathlib.Omega.{arith}
use lib.ListN.{length-set, set}
use Rattle.records.specs.Change.{raised}
use Rattle.records.specs.Empty.{no_file}
use Rattle.records.specs.declared.File.{File}
use Rattle.tables.specs.Words.{file_of, file_array}
use Rattle.tables.specs.ArrayLaws.{file-at, file_array-set}
use Rattle.tables.proofs.file.put_change.Goals as goal

pub bounds-words-at-3 : goal.bounds-words-at-3
bounds-words-at-3 c = simp length-set (omega arith)

pub returns : goal.returns
returns c =
    let w = c.args.words.now in
    let i = c.args.i in
    let number = ap raised (sym (ap (λ (f : File). f.changes) (file-at w i no_file c.requires.1))) in
    file_array-set w i c.args.size c.raise-number.result c.requires.0 c.requires.1
    ∙ ap (λ (n : ℕ). set (file_array w) i (file_of c.args.size n)) (c.raise-number.ensures ∙ number)
