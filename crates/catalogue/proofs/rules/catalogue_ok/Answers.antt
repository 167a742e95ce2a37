-- `catalogue::rules::catalogue_ok` meets its contract: the count is tested, then each name, then every two. Assumes nothing.
use mathlib.Core.Path.{sym, ◌∙◌}
use borrow.Author.Tests.{le-leb, lt-leb}
use Rattle.tables.specs.Words.{word}
use Rattle.catalogue.specs.NameLaws.{catalogue-tested}
use Rattle.catalogue.proofs.rules.catalogue_ok.Goals as goal

pub returns-then-words-gt16 : goal.returns-then-words-gt16
returns-then-words-gt16 c =
    let w = c.args.words.now in
    rw (catalogue-tested w, lt-leb (word w 0) 16 c.if-words-gt16.true)

pub returns-then-names_stand : goal.returns-then-names_stand
returns-then-names_stand c =
    let w = c.args.words.now in
    rw (catalogue-tested w, le-leb (word w 0) 16 c.if-words-gt16.false, sym c.names_stand.ensures ∙ c.if-names_stand.true) c.none_doubled.ensures

pub returns-else-names_stand : goal.returns-else-names_stand
returns-else-names_stand c =
    let w = c.args.words.now in
    rw (catalogue-tested w, le-leb (word w 0) 16 c.if-words-gt16.false, sym c.names_stand.ensures ∙ c.if-names_stand.false) c.if-names_stand.false
