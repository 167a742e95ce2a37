-- `requests::barred::first_bar` meets its contract: where no lock is held none is found, and over numbered FIDs the table of files says what the
-- opens say.
-- Assumes nothing.
use native.Mathlib.Omega.{arith}
use Rattle.lists.specs.Walk.{found_from, found}
use Rattle.records.specs.Held.{opens_of}
use Rattle.tables.specs.Words.{tables_of}
use Rattle.soundness.specs.SoundLaws.{table-serves}
use Rattle.soundness.specs.WholeLaws.{part-first}
use Rattle.invariants.specs.SoundParts.{sound-says}
use Rattle.message.specs.Command.{barring}
use Rattle.requests.proofs.barred.first_bar.Goals as goal

pub returns-then-words-eq0 : goal.returns-then-words-eq0
unfolding barring tables_of found found_from
returns-then-words-eq0 c = rw (part-first c.args.words.now 707 641 (omega arith), c.if-words-eq0.true)

pub returns : goal.returns
unfolding barring tables_of
returns c =
    let t = tables_of c.args.words.now in
    rw (← (table-serves (opens_of t) (sound-says t c.requires.good.sound).records.fids), ← c.file_table-files.ensures) c.first_answer.ensures
