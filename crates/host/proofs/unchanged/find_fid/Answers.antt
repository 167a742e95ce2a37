-- `host::unchanged::find_fid` meets its contract: the opens that it goes through are those in use. Assumes nothing.
use Rattle.std.proofs.Common.{sym, ap, ◌∙◌, get_or, eqb, rules}
use Rattle.std.proofs.Math.Nat.{min-eq_left}
use borrow.Author.Tests.{tests}
use Rattle.lists.specs.Walk.{found}
use Rattle.records.specs.Empty.{no_open}
use Rattle.records.specs.declared.Open.{Open}
use Rattle.tables.specs.Words.{word, up_to, open_array}
use Rattle.tables.specs.ChangeLaws.{length-open_array}
use Rattle.tables.specs.RangeLaws.{position-range, up_to-take}
use Rattle.host.proofs.unchanged.find_fid.Goals as goal

pub returns : goal.returns
returns c =
    let w = c.args.words.now in
    let has = λ (o : Open). eqb o.fid c.args.fid in
    position-range (λ i. get_or (open_array w) i no_open) has c.position.ensures.ran (λ i b q e. search (rules, tests))
    ∙ ap (λ n. found has (up_to (λ i. get_or (open_array w) i no_open) n)) (sym (min-eq_left c.requires.1))
    ∙ ap (found has) (up_to-take (open_array w) (word w 0) 64 no_open (length-open_array w))
