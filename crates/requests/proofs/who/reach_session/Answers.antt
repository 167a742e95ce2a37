-- `requests::who::reach_session` meets its contract: the session decides.
-- Assumes nothing.
use mathlib.Core.Path.{sym, ◌∙◌}
use Rattle.tables.specs.Words.{tables_of}
use Rattle.requests.specs.Reach.{session_reached}
use Rattle.requests.proofs.who.reach_session.Goals as goal

pub returns-then-not-session_named : goal.returns-then-not-session_named
unfolding session_reached tables_of
returns-then-not-session_named c = rw (sym c.session_named.ensures ∙ c.if-not-session_named.true)

pub returns : goal.returns
unfolding session_reached tables_of
returns c = rw (sym c.session_named.ensures ∙ c.if-not-session_named.false)
