-- `requests::sizing::do_set_size` meets its contract: the open is reached first, then the size is set.
-- Assumes nothing.
use mathlib.Core.Path.{sym}
use Rattle.requests.proofs.Raised.{raised}
use Rattle.tables.specs.Words.{tables_of}
use Rattle.requests.specs.Reach.{reached-stands, not-reached, is-reached}
use Rattle.requests.specs.Steps.{size-steps}
use Rattle.requests.proofs.sizing.do_set_size.Goals as goal

pub size_open-requires-clause-file_bound : goal.size_open-requires-clause-file_bound
size_open-requires-clause-file_bound c = (reached-stands c.args.c (tables_of c.args.words.now) c.args.f.fid _ _ c.requires.good (sym c.in_ok-o.ensures)).file

pub returns-in_err-o-clause-gives : goal.returns-in_err-o-clause-gives
returns-in_err-o-clause-gives c =
    rw (size-steps c.args.c (tables_of c.args.words.now) c.args.memory.now c.args.f) (not-reached c.args.c _ c.args.f.fid c.args.memory.now _ _ _ (sym c.in_err-o.ensures) (raised _ _ _ c.from_residual.ensures.1))

pub returns-clause-gives : goal.returns-clause-gives
returns-clause-gives c =
    rw (size-steps c.args.c (tables_of c.args.words.now) c.args.memory.now c.args.f) (is-reached c.args.c _ c.args.f.fid c.args.memory.now _ _ _ _ _ (sym c.in_ok-o.ensures) c.size_open.ensures.gives)
