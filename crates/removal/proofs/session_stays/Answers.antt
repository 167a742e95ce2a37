-- `removal::session_stays` meets its contract: each case of what goes computes.
-- Assumes nothing.
use mathlib.Core.Path.{sym, ap}
use Rattle.removal.specs.Removal.{session_named, session_stays}
use Rattle.removal.proofs.session_stays.Goals as goal

pub returns-in-Connection : goal.returns-in-Connection
unfolding session_stays session_named
returns-in-Connection c = sym (ap (λ g. session_stays g c.args.s) c.in-Connection.is)

pub returns-in-Session : goal.returns-in-Session
unfolding session_stays session_named
returns-in-Session c = sym (ap (λ g. session_stays g c.args.s) c.in-Session.is)

pub returns-in-Tree : goal.returns-in-Tree
unfolding session_stays session_named
returns-in-Tree c = sym (ap (λ g. session_stays g c.args.s) c.in-Tree.is)

pub returns-in-Open : goal.returns-in-Open
unfolding session_stays session_named
returns-in-Open c = sym (ap (λ g. session_stays g c.args.s) c.in-Open.is)

pub returns-in-Process : goal.returns-in-Process
unfolding session_stays session_named
returns-in-Process c = sym (ap (λ g. session_stays g c.args.s) c.in-Process.is)
