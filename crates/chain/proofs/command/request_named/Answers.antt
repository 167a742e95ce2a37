-- `chain::command::request_named` meets its contract: each arm is the definition's, and a number of one half is none of the other's.
-- Assumes nothing.
use native.Mathlib.Omega.{arith}
use borrow.Author.Tests.{ne_eqb}
use Rattle.chain.specs.Request.{request_named}
use Rattle.chain.proofs.command.request_named.Goals as goal

pub returns-in-4 : goal.returns-in-4
unfolding request_named
returns-in-4 c = rw c.in-4.is

pub returns-in-17 : goal.returns-in-17
unfolding request_named
returns-in-17 c = rw c.in-17.is

pub returns-in-10 : goal.returns-in-10
unfolding request_named
returns-in-10 c = rw c.in-10.is

pub returns-in-11 : goal.returns-in-11
unfolding request_named
returns-in-11 c = rw c.in-11.is

pub returns-in-12 : goal.returns-in-12
unfolding request_named
returns-in-12 c = rw c.in-12.is

pub returns-in-13 : goal.returns-in-13
unfolding request_named
returns-in-13 c = rw c.in-13.is

pub returns-in_default : goal.returns-in_default
unfolding request_named
returns-in_default c =
    let command = c.args.command in
    rw (ne_eqb command 36 (omega arith), ne_eqb command 46 (omega arith), ne_eqb command 47 (omega arith), ne_eqb command 4 (omega arith), ne_eqb command 116 (omega arith), ne_eqb command 113 (omega arith), ne_eqb command 17 (omega arith), ne_eqb command 10 (omega arith), ne_eqb command 11 (omega arith), ne_eqb command 12 (omega arith), ne_eqb command 13 (omega arith), ne_eqb command 45 (omega arith))

pub returns-in-36 : goal.returns-in-36
unfolding request_named
returns-in-36 c = rw c.in-36.is

pub returns-in-46 : goal.returns-in-46
unfolding request_named
returns-in-46 c = rw c.in-46.is

pub returns-in-47 : goal.returns-in-47
unfolding request_named
returns-in-47 c = rw c.in-47.is

pub returns-in-116 : goal.returns-in-116
unfolding request_named
returns-in-116 c = rw c.in-116.is

pub returns-in-113 : goal.returns-in-113
unfolding request_named
returns-in-113 c = rw c.in-113.is

pub returns-in-45 : goal.returns-in-45
unfolding request_named
returns-in-45 c = rw c.in-45.is

pub returns-in_default-command : goal.returns-in_default-command
unfolding request_named
returns-in_default-command c =
    let command = c.args.command in
    rw (ne_eqb command 36 (omega arith), ne_eqb command 46 (omega arith), ne_eqb command 47 (omega arith), ne_eqb command 4 (omega arith), ne_eqb command 116 (omega arith), ne_eqb command 113 (omega arith), ne_eqb command 17 (omega arith), ne_eqb command 10 (omega arith), ne_eqb command 11 (omega arith), ne_eqb command 12 (omega arith), ne_eqb command 13 (omega arith), ne_eqb command 45 (omega arith))
