-- `stream::reader::first_header` meets its contract: the header is judged where its four bytes are in, and the rest of the piece is walked where it is a keep-alive.
-- Assumes nothing.
use mathlib.Core.Path.{sym, ap, ◌∙◌}
use Rattle.std.specs.Prelude.{Ok}
use Rattle.stream.specs.declared.header.Header.{Header}
use Rattle.stream.specs.Told.{number_of, judged_of}
use native.Mathlib.Omega.{arith}
use Rattle.stream.specs.StateLaws.{header-says}
use Rattle.stream.proofs.FirstHeader.{first_short, first-bad, first_body, first-alive}
use Rattle.stream.proofs.reader.first_header.Goals as goal

pub overflow_sub-missing : goal.overflow_sub-missing
overflow_sub-missing c = let few = (header-says c.args.s c.requires).few in omega arith

pub returns-then-piece-missing : goal.returns-then-piece-missing
returns-then-piece-missing c = rw (c.header_of.ensures, c.header_byte-first.ensures, c.header_byte-second.ensures, c.header_byte-third.ensures) (first_short c.args.s (header-says c.args.s c.requires).few c.args.piece.now c.if-piece-missing.true)

pub returns-in-Err : goal.returns-in-Err
returns-in-Err c = first-bad c.args.s (header-says c.args.s c.requires).few c.args.piece.now c.if-piece-missing.false (number_of c.in-Err.refusal) (rw (← c.header_byte-first.ensures, ← c.header_byte-second.ensures, ← c.header_byte-third.ensures, ← c.header_byte.ensures) (sym c.judge.ensures ∙ ap judged_of c.in-Err.is))

pub returns-in-Message : goal.returns-in-Message
returns-in-Message c = first_body c.args.s (header-says c.args.s c.requires).few c.args.piece.now c.if-piece-missing.false c.in-Message.size (rw (← c.header_byte-first.ensures, ← c.header_byte-second.ensures, ← c.header_byte-third.ensures, ← c.header_byte.ensures) (sym c.judge.ensures ∙ ap judged_of c.in-Ok.is ∙ ap (λ (h : Header). judged_of (Ok h)) c.in-Message.is))

pub returns-in-KeepAlive : goal.returns-in-KeepAlive
returns-in-KeepAlive c = c.pass.ensures ∙ first-alive c.args.s (header-says c.args.s c.requires).few c.args.piece.now c.if-piece-missing.false (rw (← c.header_byte-first.ensures, ← c.header_byte-second.ensures, ← c.header_byte-third.ensures, ← c.header_byte.ensures) (sym c.judge.ensures ∙ ap judged_of c.in-Ok.is ∙ ap (λ (h : Header). judged_of (Ok h)) c.in-KeepAlive.is))
