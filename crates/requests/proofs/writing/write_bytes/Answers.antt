-- `requests::writing::write_bytes` meets its contract: the gap is cleared and the bytes are laid behind it.
-- Assumes nothing.
use mathlib.Core.Path.{◌∙◌}
use Rattle.std.specs.Prelude.{◌+◌, ◌*◌, length}
use native.Mathlib.Omega.{arith}
use Rattle.lists.specs.PutLaws.{put-part}
use Rattle.tables.specs.Words.{tables_of}
use Rattle.requests.specs.WritePart.{put_written}
use Rattle.requests.proofs.writing.write_bytes.Goals as goal

pub grow-requires : goal.grow-requires
grow-requires c =
    let pre = c.requires in
    record { words_len = pre.words_len; good = pre.good; file_bound = pre.file_bound; memory_len = pre.memory_len; end_bound = omega arith }

pub returns : goal.returns
returns c =
    let args = c.args in
    let gap = c.grow in
    put-part gap.new.memory args.source.now c.lay.new.room (args.file * 4096 + args.offset) (length gap.new.memory) (omega arith) (omega arith) c.lay.ensures
    ∙ put_written (tables_of args.words.now) args.memory.now gap.new.memory args.source.now args.file args.offset c.requires.source_nonzero gap.ensures
