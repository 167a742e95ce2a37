-- `requests::writing::write_free` meets its contract: the end is tested first; a write of nothing changes nothing.
-- Assumes nothing.
use mathlib.Core.Path.{refl, sym, ap, ◌∙◌}
use Rattle.std.specs.Prelude.{◌+◌, ◌≤◌, Ok}
use native.Mathlib.Omega.{arith}
use borrow.Author.Tests.{ne_eqb}
use Rattle.tables.specs.Words.{tables_of}
use Rattle.message.specs.declared.answer.Answer.TheVariants.{Wrote}
use Rattle.message.specs.Command.{wrote}
use Rattle.message.specs.Contents.{resized}
use Rattle.message.specs.Given.{said_of, bytes_inside}
use Rattle.requests.specs.Leaves.{performed, gives-refused, gives-done}
use Rattle.requests.specs.Steps.{write_free}
use Rattle.requests.specs.WritePart.{fits-room, nothing_written}
use Rattle.requests.proofs.writing.write_free.Goals as goal

pub returns-then-ends_past : goal.returns-then-ends_past
unfolding write_free
returns-then-ends_past c =
    record { gives = gives-refused _ (rw (sym c.ends_past.ensures ∙ c.if-ends_past.true)) refl; words_after = λ h. h }

pub returns-then-f-eq0 : goal.returns-then-f-eq0
unfolding said_of bytes_inside
returns-then-f-eq0 c =
    let args = c.args in record {
      gives = gives-done (Wrote 0) (tables_of args.words.now) (wrote 0)
          (nothing_written (tables_of args.words.now) args.memory.now args.f args.file args.source.now (sym c.ends_past.ensures ∙ c.if-ends_past.false) c.if-f-eq0.true c.requires.source_len)
          refl refl refl;
      words_after = λ h. h;
    }

pub write_bytes-requires : goal.write_bytes-requires
write_bytes-requires c =
    let pre = c.requires in
    let args = c.args in
    let fits : args.f.offset + args.f.count ≤ 4096 = fits-room args.f.offset args.f.count c.if-f-eq0.false (sym c.ends_past.ensures ∙ c.if-ends_past.false) in
    let same = pre.source_len in
    record { words_len = pre.words_len; good = pre.good; file_bound = pre.file_bound; memory_len = pre.memory_len; source_bound = omega arith; source_nonzero = omega arith }

pub overflow_add-at : goal.overflow_add-at
overflow_add-at c =
    let args = c.args in
    let fits : args.f.offset + args.f.count ≤ 4096 = fits-room args.f.offset args.f.count c.if-f-eq0.false (sym c.ends_past.ensures ∙ c.if-ends_past.false) in
    omega arith

pub raise_size-requires : goal.raise_size-requires
raise_size-requires c = record { words_len = c.requires.words_len; file_bound = c.requires.file_bound }

pub returns : goal.returns
unfolding write_free said_of bytes_inside resized
returns c =
    let args = c.args in record {
      gives = gives-done (Wrote args.f.count) _ (wrote args.f.count)
          (rw (sym c.ends_past.ensures ∙ c.if-ends_past.false, ne_eqb args.f.count 0 c.if-f-eq0.false, c.write_bytes.ensures))
          (ap (performed (Ok (Wrote args.f.count))) c.raise_size.ensures.words_after) refl refl;
      words_after = c.raise_size.ensures.words_after_2;
    }
