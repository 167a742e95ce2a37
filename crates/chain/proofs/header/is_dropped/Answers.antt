-- `chain::header::is_dropped` meets its contract: the tests are those of the definition, in its order.
-- Assumes nothing.
use mathlib.Core.Path.{sym, ◌∙◌}
use borrow.Author.Tests.{lt-ltb, le-ltb}
use Rattle.chain.specs.Header.{dropped, is_reply}
use Rattle.chain.proofs.header.is_dropped.Goals as goal

pub returns-then-s-lt-SHORTEST : goal.returns-then-s-lt-SHORTEST
unfolding dropped
returns-then-s-lt-SHORTEST c = rw (lt-ltb _ _ c.if-s-lt-SHORTEST.true)

pub returns-then-s-gt-LONGEST : goal.returns-then-s-gt-LONGEST
unfolding dropped
returns-then-s-gt-LONGEST c = rw (le-ltb _ _ c.if-s-lt-SHORTEST.false, lt-ltb _ _ c.if-s-gt-LONGEST.true)

pub returns-then-not-starts_smb : goal.returns-then-not-starts_smb
unfolding dropped
returns-then-not-starts_smb c = rw (le-ltb _ _ c.if-s-lt-SHORTEST.false, le-ltb _ _ c.if-s-gt-LONGEST.false, sym c.starts_smb.ensures ∙ c.if-not-starts_smb.true)

pub returns : goal.returns
unfolding dropped is_reply
returns c = rw (le-ltb _ _ c.if-s-lt-SHORTEST.false, le-ltb _ _ c.if-s-gt-LONGEST.false, sym c.starts_smb.ensures ∙ c.if-not-starts_smb.false, ← c.byte_at.ensures)
