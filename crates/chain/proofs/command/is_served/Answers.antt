-- `chain::command::is_served` meets its contract.
-- Assumes nothing.
use mathlib.Core.Path.{◌≡◌, refl, ap, ◌∙◌}
use Rattle.std.specs.Prelude.{Option, Some, None}
use Rattle.std.specs.Option.{is_some}
use Rattle.chain.specs.Request.{is_served}
use Rattle.chain.specs.declared.command.ServedRequest.{ServedRequest}
use Rattle.chain.proofs.command.is_served.Goals as goal

some : (request : Option ServedRequest) → is_some request ≡ is_served request
unfolding is_served
some (Some r) = refl
some None = refl

pub returns : goal.returns
returns c = c.is_some.ensures ∙ some c.request_named.result ∙ ap is_served c.request_named.ensures
