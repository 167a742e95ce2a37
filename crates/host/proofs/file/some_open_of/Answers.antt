-- `host::file::some_open_of` meets its contract: the opens that it goes through are those in use. Assumes nothing.
use Rattle.std.proofs.Common.{sym, ap, ◌∙◌, get_or, rules}
use Rattle.std.proofs.Math.Nat.{min-eq_left}
use borrow.Author.Tests.{tests}
use Rattle.lists.specs.Walk.{any}
use Rattle.records.specs.Empty.{no_open}
use Rattle.tables.specs.Words.{word, up_to, open_array}
use Rattle.tables.specs.ChangeLaws.{length-open_array}
use Rattle.tables.specs.RangeLaws.{any-range, up_to-take}
use Rattle.host.specs.HostCall.{is_of}
use Rattle.host.proofs.file.some_open_of.Goals as goal

pub returns : goal.returns
unfolding is_of
returns c =
    let w = c.args.words.now in
    let of_file = is_of c.args.file in
    any-range (λ i. get_or (open_array w) i no_open) of_file c.any.ensures.ran (λ i b q e. search (rules, tests))
    ∙ ap (λ n. any of_file (up_to (λ i. get_or (open_array w) i no_open) n)) (sym (min-eq_left c.requires.1))
    ∙ ap (any of_file) (up_to-take (open_array w) (word w 0) 64 no_open (length-open_array w))
