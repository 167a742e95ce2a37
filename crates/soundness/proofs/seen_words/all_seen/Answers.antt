-- `soundness::seen_words::all_seen` meets its contract: the opens that it goes through are those in use. Assumes nothing.
use Rattle.std.proofs.Common.{sym, ap, ◌∙◌, get_or, rules}
use Rattle.std.proofs.Math.Nat.{min-eq_left}
use borrow.Author.Tests.{tests}
use Rattle.lists.specs.Walk.{all}
use Rattle.records.specs.Empty.{no_open}
use Rattle.tables.specs.Words.{word, up_to, open_array, file_array}
use Rattle.tables.specs.ChangeLaws.{length-open_array}
use Rattle.tables.specs.RangeLaws.{all-range, up_to-take}
use Rattle.soundness.specs.Sound.{seen_ok}
use Rattle.soundness.proofs.seen_words.all_seen.Goals as goal

pub returns : goal.returns
unfolding seen_ok
returns c =
    let w = c.args.words.now in
    let seen = seen_ok (file_array c.args.files.now) in
    all-range (λ i. get_or (open_array w) i no_open) seen c.all.ensures.ran (λ i b q e. search (rules, tests))
    ∙ ap (λ n. all seen (up_to (λ i. get_or (open_array w) i no_open) n)) (sym (min-eq_left c.requires.1.1))
    ∙ ap (all seen) (up_to-take (open_array w) (word w 0) 64 no_open (length-open_array w))
