-- `chain::judge::judge_block` meets its contract: the tests are those of the definition, in its order; a block that fits its row stands inside the message.
-- Assumes nothing.
-- the block fits its row
use mathlib.Core.Path.{◌≡◌, sym, ◌∙◌}
use mathlib.Core.Bool.{true}
use Rattle.std.specs.Prelude.{Some}
use Rattle.chain.specs.Request.{request_named, is_andx}
use Rattle.chain.specs.Rows.{row_fits, row_inside, andx-inside}
use Rattle.chain.proofs.Rows.{judged-misfit, judged-plain, judged-link}
use Rattle.chain.proofs.judge.judge_block.Goals as goal
use Rattle.chain.proofs.judge.judge_block.Goals.{Else-not-is_andx, Else-not-row_fits, In_ok-request}

is_named : (c : In_ok-request) → request_named c.args.command ≡ Some c.in_ok-request.request
is_named c = sym c.request_named.ensures ∙ c.in_ok-request.was

fitting : (c : Else-not-row_fits)
    → row_fits c.args.s.now (request_named c.args.command) c.args.at ≡ true
fitting c = rw (sym c.request_named.ensures ∙ c.in_ok-request.was) (sym c.row_fits.ensures ∙ c.if-not-row_fits.false)

-- its words begin with AndX
andx : (c : Else-not-is_andx) → is_andx (request_named c.args.command) ≡ true
andx c = rw (sym c.request_named.ensures ∙ c.in_ok-request.was) (sym c.is_andx.ensures ∙ c.if-not-is_andx.false)

pub returns-in_err-request : goal.returns-in_err-request
unfolding row_fits
returns-in_err-request c =
    c.from_residual.ensures ∙ sym (judged-misfit c.args.s.now c.args.command c.args.at (rw (sym c.request_named.ensures ∙ c.in_err-request.was)))

pub returns-then-not-row_fits : goal.returns-then-not-row_fits
returns-then-not-row_fits c =
    let args = c.args in
    sym (judged-misfit args.s.now args.command args.at (rw (is_named (goal.at.returns-then-not-row_fits c).In_ok-request) (sym c.row_fits.ensures ∙ c.if-not-row_fits.true)))

pub returns-then-not-is_andx : goal.returns-then-not-is_andx
returns-then-not-is_andx c =
    let args = c.args in
    sym (judged-plain args.s.now args.command args.at (fitting (goal.at.returns-then-not-is_andx c).Else-not-row_fits) (rw (is_named (goal.at.returns-then-not-is_andx c).In_ok-request) (sym c.is_andx.ensures ∙ c.if-not-is_andx.true)))

pub judge_link-requires : goal.judge_link-requires
judge_link-requires c =
    let args = c.args in
    let fits = fitting (goal.at.judge_link-requires c).Else-not-row_fits in record { at_in_bounds = andx-inside args.s.now (request_named args.command) args.at (andx (goal.at.judge_link-requires c).Else-not-is_andx) fits; at_in_bounds_2 = row_inside args.s.now (request_named args.command) args.at fits }

pub returns : goal.returns
returns c =
    let args = c.args in
    c.judge_link.ensures ∙ sym (judged-link args.s.now args.command args.at (fitting (goal.at.returns c).Else-not-row_fits) (andx (goal.at.returns c).Else-not-is_andx))
