-- `chain::judge::data_inside` meets its contract: the numbers read are those of the definition, and so are the two tests.
-- Assumes nothing.
use mathlib.Core.Path.{◌≡◌}
use Prim.Native.Nat.{◌≤◌, ◌<◌}
use native.Mathlib.Omega.{arith}
use borrow.Author.Tests.{lt-leb, le-leb}
use Rattle.chain.specs.Layout.{word_count, byte_area, data_offset}
use Rattle.chain.specs.Parse.{data_inside}
use Rattle.chain.proofs.judge.data_inside.Goals as goal

pub returns-then-from-at : goal.returns-then-from-at
unfolding data_inside
returns-then-from-at c =
    let args = c.args in
    let le16-at = c.le16_at-from in
    let offset : le16-at.result ≡ data_offset args.s.now args.at = le16-at.ensures in
    let words : c.byte_at-words.result ≡ word_count args.s.now args.at = c.byte_at-words.ensures in
    let early : data_offset args.s.now args.at < byte_area args.s.now args.at = omega arith in
    rw (lt-leb (byte_area args.s.now args.at) (data_offset args.s.now args.at) early)

pub returns : goal.returns
unfolding data_inside
returns c =
    let args = c.args in
    let le16-at = c.le16_at-from in
    let offset : le16-at.result ≡ data_offset args.s.now args.at = le16-at.ensures in
    let words : c.byte_at-words.result ≡ word_count args.s.now args.at = c.byte_at-words.ensures in
    let late : byte_area args.s.now args.at ≤ data_offset args.s.now args.at = omega arith in
    rw (le-leb (byte_area args.s.now args.at) (data_offset args.s.now args.at) late, c.block_end.ensures, le16-at.ensures, c.le16_at-count.ensures)
