-- `catalogue::rules::byte_stands` meets its contract: the tests are those of the definition. Assumes nothing.
use borrow.Author.Tests.{le-leb, lt-leb}
use Rattle.catalogue.specs.InWords.{byte_stands}
use Rattle.catalogue.proofs.rules.byte_stands.Goals as goal

pub returns-then-n-k : goal.returns-then-n-k
unfolding byte_stands
returns-then-n-k c = rw (le-leb c.args.x 255 c.if-x-le255.true, le-leb c.args.n c.args.k c.if-n-k.true)

pub returns-else-n-k : goal.returns-else-n-k
unfolding byte_stands
returns-else-n-k c = rw (le-leb c.args.x 255 c.if-x-le255.true, lt-leb c.args.n c.args.k c.if-n-k.false)

pub returns-else-x-le255 : goal.returns-else-x-le255
unfolding byte_stands
returns-else-x-le255 c = rw (lt-leb c.args.x 255 c.if-x-le255.false)
