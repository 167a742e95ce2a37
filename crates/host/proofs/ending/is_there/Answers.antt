-- `host::ending::is_there` meets its contract: each case looks into its own table. Assumes nothing.
use mathlib.Core.Path.{sym, ap, ◌∙◌}
use Rattle.tables.specs.Words.{tables_of}
use Rattle.host.specs.declared.ending.One.{One}
use Rattle.host.specs.HostCall.{is_there}
use Rattle.host.proofs.ending.is_there.Goals as goal

pub returns-in-Session : goal.returns-in-Session
unfolding is_there tables_of
returns-in-Session c = c.has_session.ensures ∙ sym (ap (λ (x : One). is_there x (tables_of c.args.words.now)) c.in-Session.is)

pub returns-in-Tree : goal.returns-in-Tree
unfolding is_there tables_of
returns-in-Tree c = c.has_tree.ensures ∙ sym (ap (λ (x : One). is_there x (tables_of c.args.words.now)) c.in-Tree.is)

pub returns-in-Open : goal.returns-in-Open
unfolding is_there tables_of
returns-in-Open c = c.has_open.ensures ∙ sym (ap (λ (x : One). is_there x (tables_of c.args.words.now)) c.in-Open.is)
