-- `chain::command::may_follow` meets its contract: each row of the match is the definition's.
-- Assumes nothing.
use native.Mathlib.Omega.{arith}
use mathlib.Core.Path.{◌≡◌}
use borrow.Author.Tests.{ne_eqb}
use Rattle.chain.specs.Parse.{may_follow}
use Rattle.chain.proofs.command.may_follow.Goals as goal
use Rattle.chain.proofs.command.may_follow.Goals.{then-next-eq-READ, else-next-eq-READ, then-next-eq-WRITE, else-next-eq-WRITE, then-next-eq-WRITE-2, else-next-eq-WRITE-2}

pub returns-then-next-eq-CORE_READ : goal.returns-then-next-eq-CORE_READ
unfolding may_follow
returns-then-next-eq-CORE_READ c =
    elim c.if-next-eq-WRITE.branch [
      | then-next-eq-WRITE w ↦
          elim c.if-next-eq-READ.branch [
            | then-next-eq-READ v ↦ rw (w.t-5-is, v.t-6-is, c.in-36.is, v.if-next-eq-READ.true)
            | else-next-eq-READ v ↦
                let here : c.args.next ≡ 47 = omega arith in
                rw (w.t-5-is, v.t-6-is, c.in-36.is, here)
          ]
      | else-next-eq-WRITE w ↦
          let no = w.if-next-eq-WRITE.false in
          let here : c.args.next ≡ 10 = omega arith in
          rw (w.t-5-is, c.in-36.is, here)
    ]

pub returns-else-next-eq-CORE_READ : goal.returns-else-next-eq-CORE_READ
unfolding may_follow
returns-else-next-eq-CORE_READ c =
    let no = c.if-next-eq-CORE_READ.false in
    rw (c.in-36.is, ne_eqb c.args.next 46 no.0, ne_eqb c.args.next 47 no.1, ne_eqb c.args.next 10 no.2)

pub returns-in-46 : goal.returns-in-46
unfolding may_follow
returns-in-46 c = rw c.in-46.is

pub returns-then-next-eq-READ-2 : goal.returns-then-next-eq-READ-2
unfolding may_follow
returns-then-next-eq-READ-2 c =
    elim c.if-next-eq-WRITE-2.branch [
      | then-next-eq-WRITE-2 w ↦ rw (w.t-8-is, c.in-47.is, w.if-next-eq-WRITE-2.true)
      | else-next-eq-WRITE-2 w ↦
          let here : c.args.next ≡ 46 = omega arith in
          rw (w.t-8-is, c.in-47.is, here)
    ]

pub returns-else-next-eq-READ-2 : goal.returns-else-next-eq-READ-2
unfolding may_follow
returns-else-next-eq-READ-2 c =
    let no = c.if-next-eq-READ-2.false in
    rw (c.in-47.is, ne_eqb c.args.next 47 no.0, ne_eqb c.args.next 46 no.1)

pub returns-in-45 : goal.returns-in-45
unfolding may_follow
returns-in-45 c = rw c.in-45.is

pub returns-in_default : goal.returns-in_default
unfolding may_follow
returns-in_default c = rw (ne_eqb c.args.command 36 (omega arith), ne_eqb c.args.command 46 (omega arith), ne_eqb c.args.command 47 (omega arith), ne_eqb c.args.command 45 (omega arith))
