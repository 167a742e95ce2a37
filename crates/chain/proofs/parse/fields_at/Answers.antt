-- `chain::parse::fields_at` meets its contract: a block that stands there is inside the message, and its fields are those of the definition.
-- Assumes nothing.
-- the block stands inside the message
use Prim.Native.Nat.{◌≤◌}
use native.Mathlib.Omega.{arith}
use lib.ListN.{length}
use Rattle.chain.specs.Layout.{block_end}
use Rattle.chain.specs.Parse.{answer, parse}
use Rattle.chain.proofs.ParseLaws.{placed}
use Rattle.chain.specs.Judged.{whole-block}
use Rattle.chain.specs.Rows.{taken-apart}
use Rattle.chain.proofs.Rows.{whole-andx}
use Rattle.chain.proofs.parse.fields_at.Goals as goal
use Rattle.chain.proofs.parse.fields_at.Goals.{Start}

inside : (c : Start) → block_end c.args.s.now c.args.at ≤ length c.args.s.now
inside c =
    let b = whole-block (parse c.args.s.now c.args.command c.args.at) c.requires in
    (placed c.args.s.now c.args.at b.0 c.args.command b.1).inside

pub body_at-body-requires : goal.body_at-body-requires
body_at-body-requires c = omega (arith, inside (goal.at.body_at-body-requires c).Start)

pub next_at-next-requires : goal.next_at-next-requires
next_at-next-requires c =
    let args = c.args in
    whole-andx args.s.now args.command args.at c.requires

pub end_inside-requires : goal.end_inside-requires
end_inside-requires c = inside (goal.at.end_inside-requires c).Start

pub returns : goal.returns
unfolding answer
returns c =
    let args = c.args in
    rw (taken-apart args.s.now args.command args.at c.body_at-body.result c.body_at-body.ensures c.requires, c.next_at-next.ensures, c.end_inside.ensures)
