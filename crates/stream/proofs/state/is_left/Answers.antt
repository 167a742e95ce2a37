-- `stream::state::is_left` meets its contract.
-- Assumes nothing.
use borrow.Author.Tests.{eq-eqb, ne_eqb}
use Rattle.stream.specs.State.{is_left}
use Rattle.stream.proofs.state.is_left.Goals as goal

pub returns-then-s-ne0 : goal.returns-then-s-ne0
unfolding is_left
returns-then-s-ne0 c = rw (ne_eqb c.args.s.stopped 0 c.if-s-ne0.true, c.no_header.ensures, c.no_message.ensures)

pub returns-then-s-eq0 : goal.returns-then-s-eq0
unfolding is_left
returns-then-s-eq0 c = rw (eq-eqb c.args.s.stopped 0 c.if-s-ne0.false, eq-eqb c.args.s.length 0 c.if-s-eq0.true, c.header_fits.ensures)

pub returns : goal.returns
unfolding is_left
returns c = rw (eq-eqb c.args.s.stopped 0 c.if-s-ne0.false, ne_eqb c.args.s.length 0 c.if-s-eq0.false, c.no_header-2.ensures, c.message_fits.ensures)
