-- `chain::header::starts_smb` meets its contract: the tests are those of the definition, in its order.
-- Assumes nothing.
use mathlib.Core.Path.{sym, ◌∙◌}
use borrow.Author.Tests.{eq-eqb, ne_eqb}
use Rattle.chain.specs.Header.{starts_smb}
use Rattle.chain.proofs.header.starts_smb.Goals as goal

pub returns-then-byte_at-ne255 : goal.returns-then-byte_at-ne255
unfolding starts_smb
returns-then-byte_at-ne255 c = rw (ne_eqb _ _ (λ e. c.if-byte_at-ne255.true (c.byte_at.ensures ∙ e)))

pub returns-then-byte_at-ne83 : goal.returns-then-byte_at-ne83
unfolding starts_smb
returns-then-byte_at-ne83 c = rw ((eq-eqb _ _ (sym c.byte_at.ensures ∙ c.if-byte_at-ne255.false)), (ne_eqb _ _ (λ e. c.if-byte_at-ne83.true (c.byte_at-2.ensures ∙ e))))

pub returns-then-byte_at-ne77 : goal.returns-then-byte_at-ne77
unfolding starts_smb
returns-then-byte_at-ne77 c = rw ((eq-eqb _ _ (sym c.byte_at.ensures ∙ c.if-byte_at-ne255.false)), (eq-eqb _ _ (sym c.byte_at-2.ensures ∙ c.if-byte_at-ne83.false)), (ne_eqb _ _ (λ e. c.if-byte_at-ne77.true (c.byte_at-3.ensures ∙ e))))

pub returns : goal.returns
unfolding starts_smb
returns c = rw ((eq-eqb _ _ (sym c.byte_at.ensures ∙ c.if-byte_at-ne255.false)), (eq-eqb _ _ (sym c.byte_at-2.ensures ∙ c.if-byte_at-ne83.false)), (eq-eqb _ _ (sym c.byte_at-3.ensures ∙ c.if-byte_at-ne77.false)), ← c.byte_at-4.ensures)
