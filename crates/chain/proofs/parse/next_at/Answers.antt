-- `chain::parse::next_at` meets its contract: the test is that of the definition.
-- Assumes nothing.
use mathlib.Core.Path.{◌≡◌, sym, ◌∙◌}
use Rattle.std.specs.Prelude.{Some}
use Rattle.chain.specs.Request.{request_named, is_andx}
use Rattle.chain.specs.Rows.{next_at}
use Rattle.chain.proofs.parse.next_at.Goals as goal
use Rattle.chain.proofs.parse.next_at.Goals.{In_ok-request}

named : (c : In_ok-request) → request_named c.args.command ≡ Some c.in_ok-request.request
named c = sym c.request_named.ensures ∙ c.in_ok-request.was

pub returns-in_err-request : goal.returns-in_err-request
unfolding next_at is_andx
returns-in_err-request c = rw (c.from_residual.ensures, sym c.request_named.ensures ∙ c.in_err-request.was)

pub link_at-requires : goal.link_at-requires
link_at-requires c = c.requires (rw (named (goal.at.link_at-requires c).In_ok-request) (sym c.is_andx.ensures ∙ c.if-is_andx.true))

pub returns-then-is_andx : goal.returns-then-is_andx
unfolding next_at
returns-then-is_andx c = rw (named (goal.at.returns-then-is_andx c).In_ok-request, ← c.is_andx.ensures, c.if-is_andx.true) c.link_at.ensures

pub returns : goal.returns
unfolding next_at
returns c = rw (named (goal.at.returns c).In_ok-request, ← c.is_andx.ensures, c.if-is_andx.false)
