-- `soundness::open_words::opens_marked` meets its contract: each turn puts one open more in front of those that the table has.
-- Assumes nothing.
-- the numbers of an open that stands are its words
use mathlib.Core.Path.{◌≡◌, refl, sym, ◌∙◌}
use Prim.Native.Nat.{ℕ, ◌+◌, ◌*◌, ◌-◌, ◌≤◌, ◌<◌}
use mathlib.Core.Bool.{true}
use mathlib.Core.List.{List}
use lib.ListN.{length}
use lib.Dec.{leb}
use borrow.Author.Tests.{leb-true}
use Rattle.lists.specs.Truth.{both_hold}
use Rattle.lists.specs.Walk.{rest}
use Rattle.numbers.specs.Column.{fid_of}
use Rattle.tables.specs.Words.{word, up_to, record_at, open_of, open_array, open_limits}
use Rattle.tables.specs.PartLaws.{part-row}
use Rattle.numbers.specs.ByNumber.{entry, by_number, number_free, uncut, marked_start}
use Rattle.soundness.specs.InWords.{rows, open_in, open_stands}
use Rattle.soundness.specs.InWordsLaws.{row_fid, row_file, open-stands}
use Rattle.soundness.specs.RowWalk.{free-inside, marked-length, row-yes, row-no, told-yes, told-no}
use native.Mathlib.Omega.{arith}
use Rattle.soundness.proofs.open_words.opens_marked.Goals as goal

record OpenNumbers (w : List ℕ) (i : ℕ) : Type 0 where
  fid-small : word w (1 + 9 * i) < 65
  file-small : word w (1 + 9 * i + 4) ≤ 15
  fid-same : row_fid (record_at 9 w i) ≡ word w (1 + 9 * i)
  file-same : row_file (record_at 9 w i) ≡ word w (1 + 9 * i + 4)

open-numbers : (w : List ℕ) (i : ℕ) (codes files : List ℕ) → length w ≡ 577 → i < 64 → length files ≡ 65
    → open_stands codes files (record_at 9 w i) ≡ true → OpenNumbers w i
unfolding open_stands open_of
open-numbers w i codes files long few size e =
    let same = part-row w (1 + 9 * i) 9 (omega arith) in
    let a = both_hold (number_free 255 files (word w (1 + 9 * i))) _ (rw same at e) in
    let b = both_hold (leb (word w (1 + 9 * i + 3)) 4294967295) _ a.1 in
    let d = both_hold (leb (word w (1 + 9 * i + 4)) 15) _ b.1 in
    let fid : word w (1 + 9 * i) < 65 = rw size at (free-inside 255 files (word w (1 + 9 * i)) a.0) in
    let file : word w (1 + 9 * i + 4) ≤ 15 = leb-true (word w (1 + 9 * i + 4)) 15 d.0 in
    record {
      fid-small = fid;
      file-small = file;
      fid-same = rw same (uncut (word w (1 + 9 * i)) 65535 (omega arith));
      file-same = rw same (uncut (word w (1 + 9 * i + 4)) 255 (omega arith));
    }

pub loop-i-init : goal.loop-i-init
unfolding by_number up_to entry
loop-i-init c = marked_start (word c.args.words.now 0) _ (omega arith) refl

pub returns-then-not-open_stands : goal.returns-then-not-open_stands
unfolding open_array
returns-then-not-open_stands c =
    let args = c.args in
    let pre = c.requires in
    let loop = c.loop-i in
    let w = args.words.now in
    let stands = c.open_stands in
    let rule = open-stands w (loop.i - 1) (rest (rows 9 64 w) (word w 0) loop.i) args.codes.now loop.files pre.1.0 (omega arith) (λ k. omega (arith, c.type_inv.words k)) (omega arith) loop.invariant.keeps loop.invariant.made in
    told-no open_limits 64 open_of 64 fid_of (open_in args.codes.now) (λ o. o.file) 255 65 w
    (row-no 9 64 w loop.i loop.files loop.invariant c.loop-i-test.true (omega arith) (omega arith)
    (sym rule ∙ sym stands.ensures ∙ c.if-not-open_stands.true))

pub overflow_cast-files : goal.overflow_cast-files
overflow_cast-files c =
    let args = c.args in
    let pre = c.requires in
    let loop = c.loop-i in
    let w = args.words.now in
    let stands = c.open_stands in
    let n = open-numbers w (loop.i - 1) args.codes.now loop.files pre.1.0 (omega arith) (marked-length 9 64 w loop.invariant) (sym stands.ensures ∙ c.if-not-open_stands.false) in
    omega arith

pub bounds-files-fid : goal.bounds-files-fid
bounds-files-fid c =
    let args = c.args in
    let pre = c.requires in
    let loop = c.loop-i in
    let w = args.words.now in
    let stands = c.open_stands in
    let n = open-numbers w (loop.i - 1) args.codes.now loop.files pre.1.0 (omega arith) (marked-length 9 64 w loop.invariant) (sym stands.ensures ∙ c.if-not-open_stands.false) in
    omega arith

pub loop-i-preserved : goal.loop-i-preserved
loop-i-preserved c =
    let args = c.args in
    let pre = c.requires in
    let loop = c.loop-i in
    let w = args.words.now in
    let stands = c.open_stands in
    let n = open-numbers w (loop.i - 1) args.codes.now loop.files pre.1.0 (omega arith) (marked-length 9 64 w loop.invariant) (sym stands.ensures ∙ c.if-not-open_stands.false) in
    let rule = open-stands w (loop.i - 1) (rest (rows 9 64 w) (word w 0) loop.i) args.codes.now loop.files pre.1.0 (omega arith) (λ k. omega (arith, c.type_inv.words k)) (omega arith) loop.invariant.keeps loop.invariant.made in
    row-yes 9 64 w loop.i loop.files loop.invariant c.loop-i-test.true (omega arith) (omega arith) _ _ (sym rule ∙ sym stands.ensures ∙ c.if-not-open_stands.false) n.fid-same n.file-same n.fid-small

pub returns : goal.returns
unfolding open_array
returns c =
    let args = c.args in
    let loop = c.loop-i in
    let z : loop.i ≡ 0 = omega arith in
    told-yes open_limits 64 open_of 64 fid_of (open_in args.codes.now) (λ o. o.file) 255 65 args.words.now loop.files (rw z at loop.invariant)
