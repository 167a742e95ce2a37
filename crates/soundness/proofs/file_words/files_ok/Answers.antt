-- `soundness::file_words::files_ok` meets its contract: what the walk has left says the same as the whole.
-- Assumes nothing.
use mathlib.Core.Path.{◌≡◌, sym, ap, ◌∙◌}
use Prim.Native.Nat.{◌+◌, ◌*◌}
use mathlib.Core.Bool.{true, false}
use lib.ListN.{length, get_or}
use lib.Seq.{take_all}
use borrow.Author.Tests.{le-leb, lt-leb}
use Rattle.lists.specs.Walk.{all}
use Rattle.lists.specs.WalkLaws.{all_end, all_yes, all-no}
use Rattle.records.specs.Change.{LARGEST}
use Rattle.records.specs.Empty.{no_file}
use Rattle.tables.specs.Words.{word, file_array}
use Rattle.tables.specs.ArrayLaws.{length-file_array, file-at}
use Rattle.soundness.specs.Sound.{file_ok}
use native.Mathlib.Omega.{arith}
use Rattle.soundness.proofs.file_words.files_ok.Goals as goal
use Rattle.soundness.proofs.file_words.files_ok.Goals.{then-words-i-gt-SIZE-via-then-words-i-gt-SIZE, then-words-i-gt-SIZE-via-else-words-i-gt-SIZE+then-words-i-gt-LARGEST}

pub loop-i-init : goal.loop-i-init
loop-i-init c =
    let w = c.args.words.now in
    let long : length (file_array w) ≡ 16 = length-file_array w in
    sym (ap (all file_ok) (take_all 16 (file_array w) (omega arith)))

pub returns-then-words-i-gt-SIZE : goal.returns-then-words-i-gt-SIZE
unfolding file_ok
returns-then-words-i-gt-SIZE c =
    let w = c.args.words.now in
    let loop = c.loop-i in
    let long : length (file_array w) ≡ 16 = length-file_array w in
    let fails : file_ok (get_or (file_array w) loop.i no_file) ≡ false =
    rw (file-at w loop.i no_file c.loop-i-test.true)
    (elim c.then-words-i-gt-SIZE.branch [
      | then-words-i-gt-SIZE-via-then-words-i-gt-SIZE v ↦ rw (lt-leb (word w (2 * loop.i)) 4096 v.if-words-i-gt-SIZE.true)
      | then-words-i-gt-SIZE-via-else-words-i-gt-SIZE+then-words-i-gt-LARGEST v ↦
          rw (le-leb (word w (2 * loop.i)) 4096 v.if-words-i-gt-SIZE.false, lt-leb (word w (2 * loop.i + 1)) LARGEST v.if-words-i-gt-LARGEST.true)
    ])
    in
    sym (loop.invariant ∙ all-no (file_array w) 16 loop.i no_file c.loop-i-test.true (omega arith) file_ok fails)

pub loop-i-preserved : goal.loop-i-preserved
unfolding file_ok
loop-i-preserved c =
    let w = c.args.words.now in
    let loop = c.loop-i in
    let long : length (file_array w) ≡ 16 = length-file_array w in
    let holds : file_ok (get_or (file_array w) loop.i no_file) ≡ true = rw (file-at w loop.i no_file c.loop-i-test.true, le-leb (word w (2 * loop.i)) 4096 c.if-words-i-gt-SIZE.false) (le-leb (word w (2 * loop.i + 1)) LARGEST c.if-words-i-gt-LARGEST.false) in
    loop.invariant ∙ all_yes (file_array w) 16 loop.i no_file c.loop-i-test.true (omega arith) file_ok holds

pub returns : goal.returns
returns c = sym (c.loop-i.invariant ∙ all_end (file_array c.args.words.now) 16 file_ok c.loop-i.i c.loop-i-test.false)
