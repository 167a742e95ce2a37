-- `requests::opening::add_open` meets its contract: the open is put behind those in use, where there is room.
-- Assumes nothing.
use Rattle.std.specs.Prelude.{◌≡◌, ◌<◌, ◌≤◌, [], ◌∷◌, ◌++◌, length, Ok}
use mathlib.Core.Path.{refl, ap, ◌∙◌}
use native.Mathlib.Omega.{arith}
use borrow.Author.Tests.{lt-leb, le-leb}
use Rattle.records.specs.Held.{opens_of, with_opens}
use Rattle.tables.specs.Words.{word, part, tables_of}
use Rattle.tables.specs.PartLaws.{length_part}
use Rattle.message.specs.Contents.{size_of}
use Rattle.message.specs.Command.{opened_said}
use Rattle.requests.specs.Leaves.{performed, gives-refused, gives-done}
use Rattle.requests.specs.OpenPart.{open_told, told-said, told-inside, open_added, first_word, opens-count, opens-more}
use Rattle.requests.proofs.opening.add_open.Goals as goal

pub returns-then-words-ge64 : goal.returns-then-words-ge64
unfolding open_added
returns-then-words-ge64 c =
    let w = c.args.words.now in
    let many : 64 ≤ (tables_of w).nopens = rw (opens-count w) c.if-words-ge64.true in
    record { leaves = (λ m. gives-refused _ (rw (le-leb 64 (tables_of w).nopens many)) refl); words_after = λ h. h }

pub append_open-requires : goal.append_open-requires
append_open-requires c =
    let w = c.args.words.now in
    let full : length w ≡ 1605 = c.requires.words_len in
    let room : word (part w 130 577) 0 < 64 = rw (first_word w 130 577 (omega arith)) c.if-words-ge64.false in
    (length_part w 130 577 (omega arith), room)

pub returns : goal.returns
unfolding open_added
returns c =
    let args = c.args in
    let w = args.words.now in
    let t = tables_of w in
    let f = args.f in
    let o = args.o in
    let full : length w ≡ 1605 = c.requires.words_len in
    let room : t.nopens < 64 = rw (opens-count w) c.if-words-ge64.false in
    let long = c.append_open.auto.words ∙ length_part w 130 577 (omega arith) in
    let more = opens-more w c.append_open.new.words full o long c.append_open.ensures in
    let told = c.open_told.ensures ∙ ap (open_told f o.fid) c.file_size-size.ensures in record {
      leaves = (λ m. gives-done (open_told f o.fid (size_of t o.file)) (with_opens t (opens_of t ++ (o ∷ []))) (opened_said f.full o.fid (size_of t o.file) f.access)
          (rw (lt-leb 64 t.nopens room)) (λ i. performed (Ok (told i)) (more.0 i)) (told-said f o.fid (size_of t o.file) m) (told-inside f o.fid (size_of t o.file)));
      words_after = more.1;
    }
