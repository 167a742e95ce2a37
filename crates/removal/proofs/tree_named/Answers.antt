-- `removal::tree_named` meets its contract: each case of what goes computes.
-- Assumes nothing.
use mathlib.Core.Path.{sym, ap}
use Rattle.removal.specs.Removal.{tree_named}
use Rattle.removal.proofs.tree_named.Goals as goal

pub returns-in-Connection : goal.returns-in-Connection
unfolding tree_named
returns-in-Connection c = sym (ap (λ g. tree_named g c.args.t) c.in-Connection.is)

pub returns-in-Session : goal.returns-in-Session
unfolding tree_named
returns-in-Session c = sym (ap (λ g. tree_named g c.args.t) c.in-Session.is)

pub returns-in-Tree : goal.returns-in-Tree
unfolding tree_named
returns-in-Tree c = sym (ap (λ g. tree_named g c.args.t) c.in-Tree.is)

pub returns-in-Open : goal.returns-in-Open
unfolding tree_named
returns-in-Open c = sym (ap (λ g. tree_named g c.args.t) c.in-Open.is)

pub returns-in-Process : goal.returns-in-Process
unfolding tree_named
returns-in-Process c = sym (ap (λ g. tree_named g c.args.t) c.in-Process.is)
