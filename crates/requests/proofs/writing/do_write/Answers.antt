-- `requests::writing::do_write` meets its contract: the open is reached first, then the file is written.
-- Assumes nothing.
use mathlib.Core.Path.{sym}
use Rattle.requests.proofs.Raised.{raised}
use Rattle.tables.specs.Words.{tables_of}
use Rattle.requests.specs.Reach.{reached-stands, not-reached, is-reached}
use Rattle.requests.specs.Steps.{write-steps}
use Rattle.requests.proofs.writing.do_write.Goals as goal

pub write_open-requires-clause-file_bound : goal.write_open-requires-clause-file_bound
write_open-requires-clause-file_bound c = (reached-stands c.args.c (tables_of c.args.words.now) c.args.f.fid _ _ c.requires.good (sym c.in_ok-o.ensures)).file

pub returns-in_err-o-clause-gives : goal.returns-in_err-o-clause-gives
returns-in_err-o-clause-gives c =
    rw (write-steps c.args.c (tables_of c.args.words.now) c.args.memory.now c.args.f c.args.source.now) (not-reached c.args.c _ c.args.f.fid c.args.memory.now _ _ _ (sym c.in_err-o.ensures) (raised _ _ _ c.from_residual.ensures.1))

pub returns-clause-gives : goal.returns-clause-gives
returns-clause-gives c =
    rw (write-steps c.args.c (tables_of c.args.words.now) c.args.memory.now c.args.f c.args.source.now) (is-reached c.args.c _ c.args.f.fid c.args.memory.now _ _ _ _ _ (sym c.in_ok-o.ensures) c.write_open.ensures.gives)
