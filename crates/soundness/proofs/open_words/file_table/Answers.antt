-- `soundness::open_words::file_table` meets its contract: each turn puts one open more in front of those the table is made of.
-- Assumes nothing.
use mathlib.Core.Path.{◌≡◌, sym, ◌∙◌}
use lib.ListN.{length}
use lib.Seq.{set_out}
use Rattle.lists.specs.Walk.{rest, rest-most}
use Rattle.records.specs.Empty.{no_open}
use Rattle.tables.specs.Words.{word, open_array}
use Rattle.tables.specs.ChangeLaws.{length-open_array}
use Rattle.soundness.specs.File.{file_of, tabulate, file_table, length-file_table, file_table-turn}
use native.Mathlib.Omega.{arith}
use Rattle.soundness.proofs.open_words.file_table.Goals as goal

pub loop-i-init : goal.loop-i-init
unfolding file_table tabulate file_of
loop-i-init c =
    let w = c.args.words.now in
    let e = c.in_use-i.ensures in
    rw (rest-most (open_array w) (word w 0) 64 c.in_use-i.result (length-open_array w) e)

pub loop-i-preserved-then-fid-lt65 : goal.loop-i-preserved-then-fid-lt65
loop-i-preserved-then-fid-lt65 c =
    let w = c.args.words.now in
    let loop = c.loop-i in
    let long : length (open_array w) ≡ 64 = length-open_array w in
    rw (loop.invariant, c.open_at-o.ensures) (sym (file_table-turn (open_array w) (word w 0) loop.i no_open c.loop-i-test.true (omega arith) (omega arith)))

pub loop-i-preserved : goal.loop-i-preserved
loop-i-preserved c =
    let w = c.args.words.now in
    let loop = c.loop-i in
    let long : length (open_array w) ≡ 64 = length-open_array w in
    let turn = file_table-turn (open_array w) (word w 0) loop.i no_open c.loop-i-test.true (omega arith) (omega arith) in
    let past = rw c.open_at-o.ensures at c.if-fid-lt65.false in
    loop.invariant ∙ sym (turn ∙ set_out (file_table (rest (open_array w) (word w 0) loop.i)) _ _ (rw (length-file_table (rest (open_array w) (word w 0) loop.i)) past))

pub returns : goal.returns
returns c = let z : c.loop-i.i ≡ 0 = omega arith in rw z at c.loop-i.invariant
