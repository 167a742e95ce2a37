-- `requests::reading::do_read` meets its contract: the open is reached first, then the file is read.
-- Assumes nothing.
use mathlib.Core.Path.{sym}
use Rattle.requests.proofs.Raised.{raised}
use Rattle.tables.specs.Words.{tables_of}
use Rattle.requests.specs.Reach.{reached-stands, not-reached, is-reached}
use Rattle.requests.specs.Steps.{read-steps}
use Rattle.requests.proofs.reading.do_read.Goals as goal

pub read_open-requires-clause-stands : goal.read_open-requires-clause-stands
read_open-requires-clause-stands c = reached-stands c.args.c (tables_of c.args.words.now) c.args.f.fid _ _ c.requires.good (sym c.in_ok-o.ensures)

pub returns-in_err-o-clause-leaves : goal.returns-in_err-o-clause-leaves
returns-in_err-o-clause-leaves c =
    λ m. rw (read-steps c.args.c (tables_of c.args.words.now) m c.args.f) (not-reached c.args.c _ c.args.f.fid m _ _ _ (sym c.in_err-o.ensures) (raised _ _ _ c.from_residual.ensures.1))

pub returns-clause-leaves : goal.returns-clause-leaves
returns-clause-leaves c =
    λ m. rw (read-steps c.args.c (tables_of c.args.words.now) m c.args.f) (is-reached c.args.c _ c.args.f.fid m _ _ m _ _ (sym c.in_ok-o.ensures) (c.read_open.ensures.leaves m))
