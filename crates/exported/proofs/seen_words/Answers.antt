-- `exported::seen_words` meets its contract: the sum that `gateway_words` gives is the length of what `gateway_empty` leaves. Assumes nothing.
use mathlib.Core.Path.{sym, ap, ◌∙◌}
use Prim.Native.Nat.{ℕ}
use lib.ListN.{length, length-replicate}
use Rattle.boundary.specs.Boundary.{table_words}
use Rattle.exported.proofs.seen_words.Goals as goal

pub returns : goal.returns
unfolding table_words
returns c = c.gateway_words.ensures ∙ sym (ap length c.gateway_empty.ensures.tables_after ∙ length-replicate {A = ℕ} 1605 0)
