-- `requests::who::session_named` meets its contract: the sessions that it goes through are those in use. Assumes nothing.
use Rattle.std.proofs.Common.{ap, ◌∙◌, get_or, rules}
use borrow.Author.Tests.{tests}
use Rattle.lists.specs.Walk.{any}
use Rattle.records.specs.Empty.{no_session}
use Rattle.tables.specs.Words.{word, up_to, session_array}
use Rattle.tables.specs.ChangeLaws.{length-session_array}
use Rattle.tables.specs.RangeLaws.{any-range, up_to-take}
use Rattle.message.specs.Command.{is_session}
use Rattle.requests.proofs.who.session_named.Goals as goal

pub returns : goal.returns
returns c =
    let w = c.args.words.now in
    let test = is_session c.args.c in
    any-range (λ i. get_or (session_array w) i no_session) test c.any.ensures.ran (λ i b q e. search (rules, tests))
    ∙ ap (λ n. any test (up_to (λ i. get_or (session_array w) i no_session) n)) c.in_use.ensures
    ∙ ap (any test) (up_to-take (session_array w) (word w 0) 16 no_session (length-session_array w))
