-- `host::ending::gone_with` meets its contract: each case computes. Assumes nothing.
use mathlib.Core.Path.{sym, ap}
use Rattle.host.specs.HostCall.{gone_with}
use Rattle.host.proofs.ending.gone_with.Goals as goal

pub returns-in-Session : goal.returns-in-Session
unfolding gone_with
returns-in-Session c = sym (ap gone_with c.in-Session.is)

pub returns-in-Tree : goal.returns-in-Tree
unfolding gone_with
returns-in-Tree c = sym (ap gone_with c.in-Tree.is)

pub returns-in-Open : goal.returns-in-Open
unfolding gone_with
returns-in-Open c = sym (ap gone_with c.in-Open.is)
