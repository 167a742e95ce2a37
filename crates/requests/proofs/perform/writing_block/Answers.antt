-- `requests::perform::writing_block` meets its contract: the part of the message handed on is the write's data, and the answer has its form.
-- Assumes nothing.
use Rattle.std.specs.Prelude.{◌≡◌, ◌+◌, ◌-◌, ◌≤◌, length}
use mathlib.Core.Path.{◌∙◌}
use Rattle.tables.specs.PartLaws.{length_part}
use native.Mathlib.Omega.{arith}
use Rattle.requests.proofs.Raised.{raised}
use Rattle.requests.specs.CorePart.{gives-formed, refuses-formed}
use Rattle.requests.proofs.perform.writing_block.Goals as goal

pub do_write-requires : goal.do_write-requires
do_write-requires c =
    let pre = c.requires in
    let args = c.args in
    let fits : args.f.from + args.f.count ≤ length args.s.now = pre.count_in_bounds in
    let cut : args.f.from + args.f.count - args.f.from ≡ args.f.count = omega arith in
    record { words_len = pre.words_len; good = pre.good; memory_len = pre.memory_len; source_len = length_part args.s.now args.f.from (args.f.from + args.f.count - args.f.from) (omega arith) ∙ cut }

pub returns-in_err-answer-clause-gives : goal.returns-in_err-answer-clause-gives
returns-in_err-answer-clause-gives c =
    let args = c.args in
    let cut : args.f.from + args.f.count - args.f.from ≡ args.f.count = omega arith in
    rw (raised _ _ _ c.from_residual.ensures.1) (refuses-formed args.core (rw cut at c.in_err-answer.ensures.gives))

pub returns-clause-gives : goal.returns-clause-gives
returns-clause-gives c =
    let args = c.args in
    let cut : args.f.from + args.f.count - args.f.from ≡ args.f.count = omega arith in
    rw c.in_form.ensures (gives-formed args.core (rw cut at c.in_ok-answer.ensures.gives))
