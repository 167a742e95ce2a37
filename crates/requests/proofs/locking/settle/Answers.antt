-- `requests::locking::settle` meets its contract: over numbered FIDs the table of files says what the opens say.
-- Assumes nothing.
use Rattle.std.specs.Prelude.{◌≡◌, length}
use mathlib.Core.Path.{◌∙◌}
use native.Mathlib.Omega.{arith}
use Rattle.records.specs.Held.{opens_of}
use Rattle.tables.specs.Words.{tables_of}
use Rattle.tables.specs.PartLaws.{length_part}
use Rattle.tables.specs.WholeLaws.{told_fit, fit-locks}
use Rattle.soundness.specs.SoundLaws.{table-serves}
use Rattle.invariants.specs.SoundParts.{sound-says}
use Rattle.requests.specs.LockPart.{settles-gives}
use Rattle.requests.specs.Steps.{lock_settled}
use Rattle.requests.proofs.locking.settle.Goals as goal

pub returns : goal.returns
unfolding lock_settled tables_of
returns c =
    let args = c.args in
    let w = args.words.now in
    let t = tables_of w in
    let full : length w ≡ 1605 = c.requires.words_len in
    let done = c.lock_request in
    let e = done.new.words in
    let long : length e ≡ 641 = done.auto.words ∙ length_part w 707 641 (omega arith) in record {
      leaves = (λ m.
          rw (← (table-serves (opens_of t) (sound-says t c.requires.good.sound).records.fids), ← c.file_table-files.ensures, ← c.request_of-q.ensures)
          (settles-gives w e m _ full long _ done.ensures.settles));
      words_after = λ h. fit-locks w e full long h (done.ensures.words_after (told_fit w h).locks-fit);
    }
