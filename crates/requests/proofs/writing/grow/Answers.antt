-- `requests::writing::grow` meets its contract: the gap behind the file's size is cleared.
-- Assumes nothing.
use Rattle.std.specs.Prelude.{◌≤◌}
use native.Mathlib.Omega.{arith}
use Rattle.tables.specs.Words.{tables_of}
use Rattle.invariants.specs.SoundParts.{sound-says}
use Rattle.message.specs.Contents.{size_of}
use Rattle.invariants.specs.Sound.{size-most}
use Rattle.requests.specs.WritePart.{put-grown}
use Rattle.requests.proofs.writing.grow.Goals as goal

pub overflow_add-from : goal.overflow_add-from
overflow_add-from c =
    let args = c.args in
    let t = tables_of args.words.now in
    let e = c.file_size.ensures in
    let most : size_of t args.file ≤ 4096 = size-most t args.file (sound-says t c.requires.good.sound) in
    omega arith

pub returns : goal.returns
returns c =
    let args = c.args in
    let gap = c.clear_gap in
    put-grown (tables_of args.words.now) args.memory.now gap.new.room args.file args.end c.file_size.result c.file_size.ensures gap.ensures
