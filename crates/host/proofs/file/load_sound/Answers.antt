-- `host::file::load_sound` meets its contract: a load that is not refused fits its room, the file's part of the memory is what was
-- filled, and the change of one file is written.
-- Assumes nothing.
use mathlib.Core.Path.{◌≡◌, refl, sym, ap, ◌∙◌}
use Prim.Native.Nat.{◌+◌, ◌*◌}
use native.Mathlib.Omega.{arith}
use lib.ListN.{length, length-take, length-drop}
use Rattle.records.specs.Change.{with_change}
use Rattle.records.specs.Held.{with_files}
use Rattle.tables.specs.Words.{tables_of}
use Rattle.tables.specs.PartLaws.{lent, length_part}
use Rattle.tables.specs.WholeLaws.{tables-files, fit-files}
use Rattle.host.specs.HostCall.{load_file}
use Rattle.host.proofs.Loaded.{loadable, load-refused, load-done, filled-memory}
use Rattle.host.proofs.Leaving.{left-refused, left-done}
use Rattle.std.proofs.Common.{rules}
use Rattle.std.specs.Prelude.{Err}
use Rattle.host.specs.Outcome.{row_number, refused-row}
use Rattle.host.proofs.file.load_sound.Goals as goal

pub returns-in_err-check_load : goal.returns-in_err-check_load
returns-in_err-check_load c =
    let args = c.args in
    let w = args.words.now in
    let why = c.in_err-check_load.field-0.0 in
    let e = load-refused (tables_of w) args.file args.contents.now args.memory.now (row_number why) c.requires.1.1 c.in_err-check_load.ensures (refused-row why) in
    let same : c.from_residual.result ≡ Err why = search rules in
    record { left = rw same (left-refused w why (load_file (tables_of w) args.file args.contents.now args.memory.now) e.0); memory_after = sym e.1 }

pub slice_bounds-fill_file-end : goal.slice_bounds-fill_file-end
slice_bounds-fill_file-end c =
    let args = c.args in
    let l = loadable (tables_of args.words.now) args.file (length args.contents.now) 65536 (sym c.in_ok-check_load.ensures) in
    let whole : length args.memory.now ≡ 65536 = c.requires.1.1 in
    let f = l.known-file in
    omega arith

pub fill_file-requires : goal.fill_file-requires
fill_file-requires c =
    let args = c.args in
    let l = loadable (tables_of args.words.now) args.file (length args.contents.now) 65536 (sym c.in_ok-check_load.ensures) in
    let whole : length args.memory.now ≡ 65536 = c.requires.1.1 in
    let f = l.known-file in
    let s = l.fitting in
    rw (length-take, length-drop) (omega arith)

pub put_change-requires : goal.put_change-requires
put_change-requires c =
    let args = c.args in
    let w = args.words.now in
    let full : length w ≡ 1605 = c.requires.0 in
    let l = loadable (tables_of w) args.file (length args.contents.now) 65536 (sym c.in_ok-check_load.ensures) in
    let f = l.known-file in
    (length_part w 1348 32 (omega arith), omega arith)

pub returns : goal.returns
unfolding tables_of
returns c =
    let pre = c.requires in
    let put-change = c.put_change in
    let fill-file = c.fill_file in
    let args = c.args in
    let w = args.words.now in
    let full : length w ≡ 1605 = pre.0 in
    let e = put-change.new.words in
    let long : length e ≡ 32 = put-change.auto.words ∙ length_part w 1348 32 (omega arith) in
    let l = loadable (tables_of w) args.file (length args.contents.now) 65536 (sym c.in_ok-check_load.ensures) in
    let whole : length args.memory.now ≡ 65536 = pre.1.1 in
    let f = l.known-file in
    let d = load-done (tables_of w) args.file args.contents.now args.memory.now 0 pre.1.1 c.in_ok-check_load.ensures refl in record { left = left-done w (lent w 1348 32 e) 0 (load_file (tables_of w) args.file args.contents.now args.memory.now) (with_change (tables_of w) args.file (length args.contents.now)) d.0 (tables-files w e full long ∙ ap (with_files (tables_of w)) put-change.ensures) (fit-files w e full long); memory_after = filled-memory args.memory.now fill-file.new.room args.contents.now (args.file * 4096) (args.file * 4096 + 4096) refl (omega arith) l.fitting fill-file.ensures ∙ sym d.1 }
