-- `catalogue::rules::name_stands` meets its contract: the tests are those of the rules, said of the words. Assumes nothing.
use Prim.Native.Nat.{◌+◌, ◌*◌}
use borrow.Author.Tests.{le-leb, lt-leb}
use Rattle.tables.specs.Words.{word}
use Rattle.catalogue.specs.NameLaws.{name-stands}
use Rattle.catalogue.proofs.rules.name_stands.Goals as goal
use Rattle.catalogue.proofs.rules.name_stands.Goals.{then-n-lt1-via-then-n-lt1, then-n-lt1-via-else-n-lt1+then-n-gt12, then-n-lt1-via-else-n-lt1+else-n-gt12+then-words-i-gt15}

pub returns-then-n-lt1 : goal.returns-then-n-lt1
returns-then-n-lt1 c =
    let w = c.args.words.now in
    let i = c.args.i in
    let n = word w (1 + 14 * i) in
    elim c.then-n-lt1.branch [
      | then-n-lt1-via-then-n-lt1 s ↦ rw (name-stands w i c.requires.1 c.requires.0, lt-leb 1 n s.if-n-lt1.true)
      | then-n-lt1-via-else-n-lt1+then-n-gt12 s ↦ rw (name-stands w i c.requires.1 c.requires.0, le-leb 1 n s.if-n-lt1.false, lt-leb n 12 s.if-n-gt12.true)
      | then-n-lt1-via-else-n-lt1+else-n-gt12+then-words-i-gt15 s ↦
          rw (name-stands w i c.requires.1 c.requires.0, le-leb 1 n s.if-n-lt1.false, le-leb n 12 s.if-n-gt12.false, lt-leb (word w (14 + 14 * i)) 15 s.if-words-i-gt15.true)
    ]

pub returns : goal.returns
returns c =
    let w = c.args.words.now in
    let i = c.args.i in
    let n = word w (1 + 14 * i) in
    rw (name-stands w i c.requires.1 c.requires.0, le-leb 1 n c.if-n-lt1.false, le-leb n 12 c.if-n-gt12.false, le-leb (word w (14 + 14 * i)) 15 c.if-words-i-gt15.false) c.text_stands.ensures
