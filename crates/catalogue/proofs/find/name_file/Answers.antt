-- `catalogue::find::name_file` meets its contract: the file is the last word of the record, cut to a byte. Assumes nothing.
use mathlib.Core.Path.{sym, ◌∙◌}
use Rattle.catalogue.specs.NameLaws.{name-file}
use Rattle.catalogue.proofs.find.name_file.Goals as goal

pub returns : goal.returns
returns c = c.low8.ensures ∙ sym (name-file c.args.words.now c.args.i c.requires.1)
