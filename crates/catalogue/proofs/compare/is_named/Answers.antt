-- `catalogue::compare::is_named` meets its contract: names of different lengths are different, and what the walk has left says the same as the
-- whole. Assumes nothing.
use Rattle.std.proofs.Common.{◌+◌, ◌*◌, ◌%◌, ◌<◌, ◌≤◌, length, get_or, drop, eqb, sym, ap, ◌∙◌, arith, rules}
use Rattle.std.proofs.iter.Serving.{serving}
use borrow.Author.Tests.{eqb-true, eqb-false, ne_eqb, tests}
use Rattle.records.specs.Empty.{no_name}
use Rattle.tables.specs.Words.{word, name_array}
use Rattle.tables.specs.RangeLaws.{all-walk}
use Rattle.catalogue.specs.Name.{folded, same_name, name_bytes, is_named}
use Rattle.catalogue.specs.NameLaws.{same-long, same_more, same_not, same_end, length-name, byte-name}
use Rattle.catalogue.proofs.compare.is_named.Goals as goal

pub all-requires-clause-callable : goal.all-requires-clause-callable
all-requires-clause-callable c =
    let l = length-name c.args.words.now c.args.i c.requires.1 c.requires.0 in
    let e = c.name_length-n.ensures in
    let few : c.name_length-n.result ≤ 12 = omega arith in
    grind serving

pub returns-then-n-name : goal.returns-then-n-name
unfolding is_named
returns-then-n-name c =
    let w = c.args.words.now in
    let xs = name_bytes (get_or (name_array w) c.args.i no_name) in
    let ys = c.args.name.now in
    let same = c.name_length-n.ensures in
    let long = c.if-n-name.true in
    let byte = byte-name w c.args.i c.requires.1 c.requires.0 in
    all-walk (λ k. eqb (folded (word w (2 + 14 * c.args.i + k) % 256)) (folded (get_or ys k 0))) (λ k. same_name (drop k xs) (drop k ys)) 0 c.name_length-n.result (omega arith)
    (λ k from below h.
    let here : k < length xs = omega arith in
    same_more xs ys k here (omega arith) (ap folded (byte k here) ∙ eqb-true _ _ h))
    (λ k from below h.
    let here : k < length xs = omega arith in
    same_not xs ys k here (omega arith) (λ e. eqb-false _ _ h (sym (ap folded (byte k here)) ∙ e)))
    (same_end xs ys c.name_length-n.result (omega arith) (omega arith))
    c.all.ensures.ran
    (λ k b q e. search (rules, tests))

pub returns-else-n-name : goal.returns-else-n-name
unfolding is_named
returns-else-n-name c =
    ne_eqb _ _ c.if-n-name.false
    ∙ sym (same-long (name_bytes (get_or (name_array c.args.words.now) c.args.i no_name)) c.args.name.now (λ e. c.if-n-name.false (c.name_length-n.ensures ∙ e)))
