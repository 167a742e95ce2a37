-- `removal::open_named` meets its contract: each case of what goes computes.
-- Assumes nothing.
use mathlib.Core.Path.{sym, ap, ◌∙◌}
use borrow.Author.Tests.{eq-eqb, ne_eqb}
use Rattle.removal.specs.Removal.{open_named}
use Rattle.removal.proofs.open_named.Goals as goal

pub returns-then-o-uid : goal.returns-then-o-uid
unfolding open_named
returns-then-o-uid c = sym (ap (λ g. open_named g c.args.o) c.in-Process.is ∙ rw (eq-eqb _ _ c.if-o-uid.true))

pub returns-in-Connection : goal.returns-in-Connection
unfolding open_named
returns-in-Connection c = sym (ap (λ g. open_named g c.args.o) c.in-Connection.is)

pub returns-in-Session : goal.returns-in-Session
unfolding open_named
returns-in-Session c = sym (ap (λ g. open_named g c.args.o) c.in-Session.is)

pub returns-in-Tree : goal.returns-in-Tree
unfolding open_named
returns-in-Tree c = sym (ap (λ g. open_named g c.args.o) c.in-Tree.is)

pub returns-in-Open : goal.returns-in-Open
unfolding open_named
returns-in-Open c = sym (ap (λ g. open_named g c.args.o) c.in-Open.is)

pub returns-else-o-uid : goal.returns-else-o-uid
unfolding open_named
returns-else-o-uid c = sym (ap (λ g. open_named g c.args.o) c.in-Process.is ∙ rw (ne_eqb _ _ c.if-o-uid.false))
