-- `requests::reading::remember` meets its contract: one record of the opens is written anew, that of the open's place. Assumes nothing.
use Rattle.std.specs.Prelude.{◌≡◌, ℕ, ◌<◌, List, length, get_or}
use mathlib.Core.Path.{◌∙◌}
use native.Mathlib.Omega.{arith}
use lib.ListN.{length-take}
use Rattle.records.specs.declared.Open.{Open}
use Rattle.records.specs.Change.{changes_of, open_after}
use Rattle.records.specs.Empty.{no_file}
use Rattle.tables.specs.Words.{word, part, open_array, file_array, open_limits, tables_of}
use Rattle.tables.specs.Written.{Wrote, opens_in}
use Rattle.tables.specs.ChangeLaws.{length-open_array}
use Rattle.tables.specs.PartLaws.{length_part}
use Rattle.tables.specs.WholeLaws.{opens_in_lem}
use Rattle.requests.specs.Noted.{tables-noted, fit-noted}
use Rattle.requests.proofs.reading.remember.Goals as goal

-- the number read off the files is the file's
put_as : (w : List ℕ) (o : Open) (e : List ℕ) (k seen : ℕ) → seen ≡ (get_or (file_array (part w 1348 32)) o.file no_file).changes
    → Wrote open_array open_limits (part w 130 577) e k (open_after o seen) → Wrote open_array open_limits (part w 130 577) e k (open_after o (changes_of (tables_of w) o.file))
unfolding changes_of tables_of
put_as w o e k seen q p = rw q at p

pub changes_at-seen-requires : goal.changes_at-seen-requires
changes_at-seen-requires c =
    let full : length c.args.words.now ≡ 1605 = c.requires.words_len in
    let file = c.requires.stands.file in
    (length_part c.args.words.now 1348 32 (omega arith), omega arith)

pub put_open-requires : goal.put_open-requires
put_open-requires c =
    let w = c.args.words.now in
    let full : length w ≡ 1605 = c.requires.words_len in
    let used : c.args.place < length (opens_in (part w 130 577)) = rw (opens_in_lem w) at c.requires.stands.used in
    let cut : length (opens_in (part w 130 577)) ≡ _ = length-take (word (part w 130 577) 0) (open_array (part w 130 577)) in
    let long : length (open_array (part w 130 577)) ≡ 64 = length-open_array (part w 130 577) in
    (length_part w 130 577 (omega arith), omega arith)

pub returns : goal.returns
returns c =
    let w = c.args.words.now in
    let o = c.args.o in
    let e = c.put_open.new.words in
    let full : length w ≡ 1605 = c.requires.words_len in
    let long : length e ≡ 577 = c.put_open.auto.words ∙ length_part w 130 577 (omega arith) in
    let wrote = put_as w o e c.args.place c.changes_at-seen.result c.changes_at-seen.ensures c.put_open.ensures in
    record { words_after = tables-noted w e full long c.requires.good o c.args.place (changes_of (tables_of w) o.file) c.requires.stands wrote; words_after_2 = fit-noted w e full long c.requires.good o c.args.place (changes_of (tables_of w) o.file) c.requires.stands wrote }
