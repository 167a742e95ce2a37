-- `requests::reading::read_part` meets its contract: the size decides, and is at most 4,096.
-- Assumes nothing.
use Rattle.std.specs.Prelude.{◌<◌, ◌≤◌}
use native.Mathlib.Omega.{arith}
use borrow.Author.Tests.{le-leb, lt-leb}
use Rattle.tables.specs.Words.{tables_of}
use Rattle.invariants.specs.SoundParts.{sound-says}
use Rattle.message.specs.Contents.{size_of}
use Rattle.invariants.specs.Sound.{size-most}
use Rattle.requests.specs.ReadPart.{read_part}
use Rattle.requests.proofs.reading.read_part.Goals as goal

pub returns-then-size-at : goal.returns-then-size-at
unfolding read_part
returns-then-size-at c =
    let args = c.args in
    let e = c.file_size-size.ensures in
    let past : size_of (tables_of args.words.now) args.file ≤ args.offset = omega arith in
    rw (le-leb _ _ past)

pub overflow_add-place : goal.overflow_add-place
overflow_add-place c =
    let args = c.args in
    let t = tables_of args.words.now in
    let e = c.file_size-size.ensures in
    let most : size_of t args.file ≤ 4096 = size-most t args.file (sound-says t c.requires.good.sound) in
    omega arith

pub returns : goal.returns
unfolding read_part
returns c =
    let args = c.args in
    let e = c.file_size-size.ensures in
    let low : args.offset < size_of (tables_of args.words.now) args.file = omega arith in
    rw (lt-leb _ _ low, c.at_most-count.ensures, c.file_size-size.ensures)
