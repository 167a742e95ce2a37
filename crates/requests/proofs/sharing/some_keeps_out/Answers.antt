-- `requests::sharing::some_keeps_out` meets its contract: the opens that it goes through are those in use. Assumes nothing.
use Rattle.std.proofs.Common.{ap, ◌∙◌, get_or, rules}
use borrow.Author.Tests.{tests}
use Rattle.lists.specs.Walk.{any}
use Rattle.records.specs.Empty.{no_open}
use Rattle.tables.specs.Words.{word, up_to, open_array}
use Rattle.tables.specs.ChangeLaws.{length-open_array}
use Rattle.tables.specs.RangeLaws.{any-range, up_to-take}
use Rattle.message.specs.Sharing.{kept_out}
use Rattle.requests.proofs.sharing.some_keeps_out.Goals as goal

pub returns : goal.returns
returns c =
    let w = c.args.words.now in
    let test = kept_out c.args.file c.args.access c.args.sharing in
    any-range (λ i. get_or (open_array w) i no_open) test c.any.ensures.ran (λ i b q e. search (rules, tests))
    ∙ ap (λ n. any test (up_to (λ i. get_or (open_array w) i no_open) n)) c.in_use.ensures
    ∙ ap (any test) (up_to-take (open_array w) (word w 0) 64 no_open (length-open_array w))
