-- `host::file::check_load` meets its contract: the refusals are tested in the definition's order.
-- Assumes nothing.
use borrow.Author.Tests.{lt-ltb, le-ltb}
use mathlib.Core.Path.{◌≡◌, sym, ap, ◌∙◌}
use native.Mathlib.Omega.{arith}
use lib.ListN.{length}
use Rattle.lists.specs.Walk.{any}
use Rattle.tables.specs.Words.{tables_of}
use Rattle.tables.specs.PartLaws.{length_part}
use Rattle.tables.specs.WholeLaws.{opens_in_lem}
use Rattle.soundness.specs.SoundLaws.{sound-room}
use Rattle.host.specs.HostCall.{is_of, load_number}
use Rattle.host.proofs.file.check_load.Goals as goal

pub returns-then-file-gt15 : goal.returns-then-file-gt15
unfolding load_number
returns-then-file-gt15 c = rw (c.requires.1, lt-ltb 15 c.args.file c.if-file-gt15.true)

pub returns-then-size-gt4096 : goal.returns-then-size-gt4096
unfolding load_number
returns-then-size-gt4096 c = rw (c.requires.1, le-ltb 15 c.args.file c.if-file-gt15.false, lt-ltb 4096 c.args.size c.if-size-gt4096.true)

pub some_open_of-requires : goal.some_open_of-requires
unfolding tables_of
some_open_of-requires c =
    let pre = c.requires in
    let w = c.args.words.now in
    let full : length w ≡ 1605 = pre.0 in
    (length_part w 130 577 (omega arith), (sound-room (tables_of w) pre.1).opens-fit)

pub returns-then-some_open_of : goal.returns-then-some_open_of
unfolding load_number
returns-then-some_open_of c =
    let args = c.args in
    let w = args.words.now in
    rw (c.requires.1, le-ltb 15 args.file c.if-file-gt15.false, le-ltb 4096 args.size c.if-size-gt4096.false, ap (any (is_of args.file)) (opens_in_lem w) ∙ sym c.some_open_of.ensures ∙ c.if-some_open_of.true)

pub returns : goal.returns
unfolding load_number
returns c =
    let args = c.args in
    let w = args.words.now in
    rw (c.requires.1, le-ltb 15 args.file c.if-file-gt15.false, le-ltb 4096 args.size c.if-size-gt4096.false, ap (any (is_of args.file)) (opens_in_lem w) ∙ sym c.some_open_of.ensures ∙ c.if-some_open_of.false)
