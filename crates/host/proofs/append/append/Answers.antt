-- `host::append::append` meets its contract: the record is written behind those in use, and then the count.
-- Assumes nothing.
use mathlib.Core.Path.{◌≡◌}
use Prim.Native.Nat.{◌<◌}
use native.Mathlib.Omega.{arith}
use lib.ListN.{length}
use Rattle.tables.specs.Words.{word}
use Rattle.tables.specs.ArrayLaws.{length-array, array_count}
use Rattle.host.proofs.Appending.{appended}
use Rattle.host.proofs.append.append.Goals as goal

pub returns : goal.returns
returns g c =
    let w = c.args.words.now in
    let v = c.write.new.words in
    let long : length v ≡ length w = c.write.auto.words in
    let some : 0 < length v = omega arith in
    let count : c.in_use-count.result ≡ word w 0 = omega arith in
    rw count (appended _ _ _ _ w v _ (length-array _ _ _ w) c.requires.1 some (rw count at c.write.ensures) (array_count _ _ _ v _ some))
