-- `soundness::tree_words::trees_marked` meets its contract: each turn puts one tree more in front of those that the table has.
-- Assumes nothing.
-- the numbers of a tree that stands are its words
use mathlib.Core.Path.{◌≡◌, refl, sym, ◌∙◌}
use Prim.Native.Nat.{ℕ, ◌+◌, ◌*◌, ◌-◌, ◌≤◌, ◌<◌}
use mathlib.Core.Bool.{true}
use mathlib.Core.List.{List}
use lib.ListN.{length}
use lib.Dec.{leb, ltb}
use borrow.Author.Tests.{leb-true, ltb-true}
use Rattle.lists.specs.Truth.{both_hold}
use Rattle.lists.specs.Walk.{rest}
use Rattle.numbers.specs.Column.{tid_of}
use Rattle.tables.specs.Words.{word, up_to, record_at, tree_of, tree_array, tree_limits}
use Rattle.tables.specs.PartLaws.{part-row}
use Rattle.numbers.specs.ByNumber.{entry, by_number, number_free, uncut, marked_start}
use Rattle.soundness.specs.InWords.{rows, marked, code_of, tree_code, tree_in, tree_stands}
use Rattle.soundness.specs.InWordsLaws.{row_tid, row_code}
use Rattle.soundness.proofs.InWordsLaws.{tree-stands}
use Rattle.soundness.specs.RowWalk.{free-inside, marked-length, row-yes, row-no, told-yes, told-no}
use native.Mathlib.Omega.{arith}
use Rattle.soundness.proofs.tree_words.trees_marked.Goals as goal

record TreeNumbers (w : List ℕ) (i : ℕ) : Type 0 where
  tid-small : word w (1 + 3 * i) < 33
  uid-small : word w (1 + 3 * i + 1) < 17
  right-small : word w (1 + 3 * i + 2) ≤ 1
  tid-same : row_tid (record_at 3 w i) ≡ word w (1 + 3 * i)
  code_same : row_code (record_at 3 w i) ≡ code_of (word w (1 + 3 * i + 1)) (word w (1 + 3 * i + 2))

tree-numbers : (w : List ℕ) (i : ℕ) (uids codes : List ℕ) → length w ≡ 97 → i < 32 → length uids ≡ 17 → length codes ≡ 33
    → tree_stands uids codes (record_at 3 w i) ≡ true → TreeNumbers w i
unfolding tree_stands tree_of marked
tree-numbers w i uids codes long few size wide e =
    let same = part-row w (1 + 3 * i) 3 (omega arith) in
    let a = both_hold (number_free 0 codes (word w (1 + 3 * i))) _ (rw same at e) in
    let b = both_hold (leb (word w (1 + 3 * i + 2)) 1) _ a.1 in
    let d = both_hold (ltb (word w (1 + 3 * i + 1)) (length uids)) _ b.1 in
    let tid : word w (1 + 3 * i) < 33 = rw wide at (free-inside 0 codes (word w (1 + 3 * i)) a.0) in
    let right : word w (1 + 3 * i + 2) ≤ 1 = leb-true (word w (1 + 3 * i + 2)) 1 b.0 in
    let uid : word w (1 + 3 * i + 1) < 17 = rw size at (ltb-true (word w (1 + 3 * i + 1)) (length uids) d.0) in
    record {
      tid-small = tid;
      uid-small = uid;
      right-small = right;
      tid-same = rw same (uncut (word w (1 + 3 * i)) 65535 (omega arith));
      code_same = rw (same, uncut (word w (1 + 3 * i + 1)) 65535 (omega arith), uncut (word w (1 + 3 * i + 2)) 255 (omega arith));
    }

pub loop-i-init : goal.loop-i-init
unfolding by_number up_to entry
loop-i-init c = marked_start (word c.args.words.now 0) _ (omega arith) refl

pub returns-then-not-tree_stands : goal.returns-then-not-tree_stands
unfolding tree_array
returns-then-not-tree_stands c =
    let args = c.args in
    let pre = c.requires in
    let loop = c.loop-i in
    let w = args.words.now in
    let stands = c.tree_stands in
    let rule = tree-stands w (loop.i - 1) (rest (rows 3 32 w) (word w 0) loop.i) args.uids.now loop.codes pre.1.0 (omega arith) (omega arith) loop.invariant.keeps loop.invariant.made in
    told-no tree_limits 32 tree_of 32 tid_of (tree_in args.uids.now) tree_code 0 33 w
    (row-no 3 32 w loop.i loop.codes loop.invariant c.loop-i-test.true (omega arith) (omega arith)
    (sym rule ∙ sym stands.ensures ∙ c.if-not-tree_stands.true))

pub overflow_mul-codes : goal.overflow_mul-codes
overflow_mul-codes c =
    let args = c.args in
    let pre = c.requires in
    let loop = c.loop-i in
    let w = args.words.now in
    let stands = c.tree_stands in
    let n = tree-numbers w (loop.i - 1) args.uids.now loop.codes pre.1.0 (omega arith) pre.0 (marked-length 3 32 w loop.invariant) (sym stands.ensures ∙ c.if-not-tree_stands.false) in
    omega arith

pub overflow_add-codes-in-loop-i : goal.overflow_add-codes-in-loop-i
overflow_add-codes-in-loop-i c =
    let args = c.args in
    let pre = c.requires in
    let loop = c.loop-i in
    let w = args.words.now in
    let stands = c.tree_stands in
    let n = tree-numbers w (loop.i - 1) args.uids.now loop.codes pre.1.0 (omega arith) pre.0 (marked-length 3 32 w loop.invariant) (sym stands.ensures ∙ c.if-not-tree_stands.false) in
    omega arith

pub overflow_add-codes-in-loop-i-3 : goal.overflow_add-codes-in-loop-i-3
overflow_add-codes-in-loop-i-3 c =
    let args = c.args in
    let pre = c.requires in
    let loop = c.loop-i in
    let w = args.words.now in
    let stands = c.tree_stands in
    let n = tree-numbers w (loop.i - 1) args.uids.now loop.codes pre.1.0 (omega arith) pre.0 (marked-length 3 32 w loop.invariant) (sym stands.ensures ∙ c.if-not-tree_stands.false) in
    omega arith

pub overflow_cast-codes : goal.overflow_cast-codes
overflow_cast-codes c =
    let args = c.args in
    let pre = c.requires in
    let loop = c.loop-i in
    let w = args.words.now in
    let stands = c.tree_stands in
    let n = tree-numbers w (loop.i - 1) args.uids.now loop.codes pre.1.0 (omega arith) pre.0 (marked-length 3 32 w loop.invariant) (sym stands.ensures ∙ c.if-not-tree_stands.false) in
    omega arith

pub bounds-codes-tid : goal.bounds-codes-tid
bounds-codes-tid c =
    let args = c.args in
    let pre = c.requires in
    let loop = c.loop-i in
    let w = args.words.now in
    let stands = c.tree_stands in
    let n = tree-numbers w (loop.i - 1) args.uids.now loop.codes pre.1.0 (omega arith) pre.0 (marked-length 3 32 w loop.invariant) (sym stands.ensures ∙ c.if-not-tree_stands.false) in
    omega arith

pub loop-i-preserved : goal.loop-i-preserved
loop-i-preserved c =
    let args = c.args in
    let pre = c.requires in
    let loop = c.loop-i in
    let w = args.words.now in
    let stands = c.tree_stands in
    let n = tree-numbers w (loop.i - 1) args.uids.now loop.codes pre.1.0 (omega arith) pre.0 (marked-length 3 32 w loop.invariant) (sym stands.ensures ∙ c.if-not-tree_stands.false) in
    let rule = tree-stands w (loop.i - 1) (rest (rows 3 32 w) (word w 0) loop.i) args.uids.now loop.codes pre.1.0 (omega arith) (omega arith) loop.invariant.keeps loop.invariant.made in
    row-yes 3 32 w loop.i loop.codes loop.invariant c.loop-i-test.true (omega arith) (omega arith) _ _ (sym rule ∙ sym stands.ensures ∙ c.if-not-tree_stands.false) n.tid-same n.code_same n.tid-small

pub returns : goal.returns
unfolding tree_array
returns c =
    let args = c.args in
    let loop = c.loop-i in
    let z : loop.i ≡ 0 = omega arith in
    told-yes tree_limits 32 tree_of 32 tid_of (tree_in args.uids.now) tree_code 0 33 args.words.now loop.codes (rw z at loop.invariant)
