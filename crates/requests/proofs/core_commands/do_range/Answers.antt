-- `requests::core_commands::do_range` meets its contract: the open is reached first, then the request is made.
-- Assumes nothing.
use mathlib.Core.Path.{sym}
use Rattle.requests.proofs.Raised.{raised}
use Rattle.tables.specs.Words.{tables_of}
use Rattle.requests.specs.Reach.{not-reached, is-reached}
use Rattle.requests.specs.Steps.{range_steps}
use Rattle.requests.proofs.core_commands.do_range.Goals as goal

pub returns-in_err-reach_open-clause-leaves : goal.returns-in_err-reach_open-clause-leaves
returns-in_err-reach_open-clause-leaves c =
    λ m. rw (range_steps c.args.c (tables_of c.args.words.now) m c.args.f c.args.unlocks c.args.locks) (not-reached c.args.c _ c.args.f.fid m _ _ _ (sym c.in_err-reach_open.ensures) (raised _ _ _ c.from_residual.ensures.1))

pub returns-clause-leaves : goal.returns-clause-leaves
returns-clause-leaves c =
    λ m. rw (range_steps c.args.c (tables_of c.args.words.now) m c.args.f c.args.unlocks c.args.locks) (is-reached c.args.c _ c.args.f.fid m _ _ m _ _ (sym c.in_ok-reach_open.ensures) (c.range_open.ensures.leaves m))
