-- `requests::leaving::do_close` meets its contract: the open is reached first, and goes.
-- Assumes nothing.
use mathlib.Core.Path.{refl, sym, ap}
use Rattle.std.specs.Prelude.{Ok}
use Rattle.requests.proofs.Raised.{raised}
use Rattle.tables.specs.Words.{tables_of}
use Rattle.message.specs.declared.answer.Answer.TheVariants.{Plain}
use Rattle.message.specs.Command.{plain, perform}
use Rattle.message.specs.Given.{said_of, bytes_inside}
use Rattle.requests.specs.Leaves.{performed, gives-done}
use Rattle.requests.specs.Numbers.{good-numbered}
use Rattle.requests.specs.Reach.{not-reached, is-reached}
use Rattle.requests.proofs.leaving.do_close.Goals as goal

pub returns-in_err-reach_open-clause-leaves : goal.returns-in_err-reach_open-clause-leaves
unfolding perform
returns-in_err-reach_open-clause-leaves c =
    λ m. not-reached c.args.c _ c.args.fid m _ _ _ (sym c.in_err-reach_open.ensures) (raised _ _ _ c.from_residual.ensures.1)

pub remove_named-requires : goal.remove_named-requires
remove_named-requires c = (c.requires.words_len, good-numbered (tables_of c.args.words.now) c.requires.good)

pub returns-clause-leaves : goal.returns-clause-leaves
unfolding perform said_of bytes_inside
returns-clause-leaves c =
    λ m. is-reached c.args.c _ c.args.fid m _ _ m _ _ (sym c.in_ok-reach_open.ensures) (gives-done Plain _ plain refl (ap (performed (Ok Plain)) c.remove_named.ensures.tables) refl refl)
