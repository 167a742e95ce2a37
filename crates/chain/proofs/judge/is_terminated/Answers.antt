-- `chain::judge::is_terminated` meets its contract: the last byte, and those before it, give the same answer as all of them.
-- Assumes nothing.
use borrow.Author.Tests.{ne_eqb, eq-eqb}
use Rattle.std.proofs.lemmas.List.{nil_from_length}
use Rattle.chain.specs.Parse.{terminated}
use Rattle.chain.proofs.Terminated.{terminated-last}
use Rattle.chain.proofs.judge.is_terminated.Goals as goal

pub returns-in_default : goal.returns-in_default
unfolding terminated
returns-in_default c = rw (nil_from_length c.args.bytes.now c.in_default.ensures.cases)

pub returns-then-last-eq0 : goal.returns-then-last-eq0
returns-then-last-eq0 c =
    let both = terminated-last c.in-Some.name.now c.in-Some.last.now in
    rw (c.in-Some.ensures.cases.0, both, eq-eqb c.in-Some.last.now 0 c.if-last-eq0.true, c.contains.ensures.value)

pub returns-else-last-eq0 : goal.returns-else-last-eq0
returns-else-last-eq0 c =
    let both = terminated-last c.in-Some.name.now c.in-Some.last.now in
    rw (c.in-Some.ensures.cases.0, both, ne_eqb c.in-Some.last.now 0 c.if-last-eq0.false)
