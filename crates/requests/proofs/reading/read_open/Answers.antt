-- `requests::reading::read_open` meets its contract: the tests are those of the definition, in its order, the part read is what it yields, and the open remembers.
-- Assumes nothing.
use mathlib.Core.Path.{refl, sym, ap, ◌∙◌}
use Rattle.std.specs.Prelude.{Ok}
use Rattle.requests.proofs.Raised.{raised}
use Rattle.tables.specs.Words.{tables_of}
use Rattle.std.specs.Prelude.{ℕ}
use borrow.Author.Tests.{eq-eqb, ne_eqb}
use Rattle.records.specs.Change.{changes_of, with_read}
use Rattle.requests.specs.Leaves.{performed, gives-refused, gives-done}
use Rattle.requests.specs.Reach.{stands-own}
use Rattle.requests.specs.Steps.{read_open}
use Rattle.requests.specs.BarPart.{is-barred, not-barred}
use Rattle.requests.specs.ReadPart.{read_part, part-said, part-within}
use Rattle.requests.proofs.reading.read_open.Goals as goal

pub returns-then-o-eq1-clause-leaves : goal.returns-then-o-eq1-clause-leaves
unfolding read_open
returns-then-o-eq1-clause-leaves c = λ m. gives-refused _ (rw (eq-eqb _ _ c.if-o-eq1.true)) refl

pub returns-in_err-pass_locks-clause-leaves : goal.returns-in_err-pass_locks-clause-leaves
unfolding read_open
returns-in_err-pass_locks-clause-leaves c =
    let barred = rw c.ask_of-q.ensures at (sym c.in_err-pass_locks.ensures) in
    λ m. gives-refused _ (rw (ne_eqb _ _ c.if-o-eq1.false) (is-barred _ _ _ _ barred)) (raised _ _ _ c.from_residual.ensures.1)

pub read_part-answer-requires : goal.read_part-answer-requires
read_part-answer-requires c = record { words_len = c.requires.words_len; good = c.requires.good; file_bound = c.requires.stands.file }

pub remember-requires : goal.remember-requires
remember-requires c = record { words_len = c.requires.words_len; good = c.requires.good; stands = stands-own c.requires.stands }

pub returns-clause-leaves : goal.returns-clause-leaves
unfolding read_open
returns-clause-leaves c =
    let pre = c.requires in
    let args = c.args in
    let t = tables_of args.words.now in
    let free = rw c.ask_of-q.ensures at (sym c.in_ok-pass_locks.ensures) in
    let after = c.remember.ensures.words_after ∙ ap (λ (fid : ℕ). with_read t fid (changes_of t args.o.file)) pre.stands.named in
    let left = with_read t args.f.fid (changes_of t args.o.file) in
    let part = read_part t args.o.file args.f.offset args.f.max in
    λ m.
    gives-done part left _ (rw (ne_eqb _ _ c.if-o-eq1.false) (not-barred _ _ _ _ free))
    (λ i. performed (Ok (c.read_part-answer.ensures i)) (after i))
    (part-said t args.o.file args.f.offset args.f.max m)
    (part-within t args.o.file args.f.offset args.f.max pre.good pre.stands.file)
