-- `gateway::gateway_unchanged` meets its contract: the question on the words, a wide FID answered as the cut one, its answer handed on where it is done. Assumes nothing.
use mathlib.Core.Path.{◌∙◌}
use Rattle.tables.specs.Words.{tables_of}
use Rattle.host.specs.OnWords.{on_words, Gives}
use Rattle.boundary.specs.Boundary.{unchanged_asked}
use Rattle.gateway.proofs.HostCalls.{asked}
use Rattle.gateway.proofs.Wide.{ask-wide}
use Rattle.gateway.proofs.gateway_unchanged.Goals as goal

pub returns : goal.returns
unfolding unchanged_asked
returns c =
    let args = c.args in
    let w = args.tables.now in
    let says : Gives (on_words w (unchanged_asked w args.fid)) c.ask_unchanged-given.result = rw (← (ask-wide (tables_of w) args.fid c.to_number-narrow_fid.result c.to_number-narrow_fid.ensures)) c.ask_unchanged-given.ensures in
    let k = asked w (unchanged_asked w args.fid) args.unchanged.now c.ask_unchanged-given.result says in
    record { value = c.hand_out.ensures.value ∙ k.number_is; unchanged_after = c.hand_out.ensures.to_after ∙ k.given_is }
