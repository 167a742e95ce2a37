-- `chain::judge::judge_link` meets its contract: the tests are those of the definition, in its order.
-- Assumes nothing.
use mathlib.Core.Path.{◌≡◌}
use Prim.Native.Nat.{◌≤◌, ◌<◌}
use native.Mathlib.Omega.{arith}
use borrow.Author.Tests.{ne_eqb, lt-leb, le-leb}
use Rattle.chain.specs.Layout.{block_end, andx_command, andx_offset}
use Rattle.chain.specs.Parse.{link_fits, link_at}
use Rattle.chain.specs.Rows.{link_judged}
use Rattle.chain.proofs.judge.judge_link.Goals as goal

pub returns-then-next : goal.returns-then-next
unfolding link_judged link_fits link_at
returns-then-next c = rw c.if-next.true

pub returns-then-not-may_follow : goal.returns-then-not-may_follow
unfolding link_judged link_fits link_at
returns-then-not-may_follow c = rw (ne_eqb _ 255 c.if-next.false, ← c.may_follow.ensures, c.if-not-may_follow.true)

pub returns-then-place-end_inside : goal.returns-then-place-end_inside
unfolding link_judged link_fits link_at
returns-then-place-end_inside c =
    let args = c.args in
    let may-follow = c.may_follow in
    let offset : c.number_inside-place.result ≡ andx_offset args.s.now args.at = c.number_inside-place.ensures in
    let end : c.end_inside.result ≡ block_end args.s.now args.at = c.end_inside.ensures in
    let early : andx_offset args.s.now args.at < block_end args.s.now args.at = omega arith in
    rw (lt-leb (block_end args.s.now args.at) (andx_offset args.s.now args.at) early, ne_eqb (andx_command args.s.now args.at) 255 c.if-next.false, ← may-follow.ensures, c.if-not-may_follow.false)

pub returns : goal.returns
unfolding link_judged link_fits link_at
returns c =
    let args = c.args in
    let may-follow = c.may_follow in
    let offset : c.number_inside-place.result ≡ andx_offset args.s.now args.at = c.number_inside-place.ensures in
    let end : c.end_inside.result ≡ block_end args.s.now args.at = c.end_inside.ensures in
    let late : block_end args.s.now args.at ≤ andx_offset args.s.now args.at = omega arith in
    rw (le-leb (block_end args.s.now args.at) (andx_offset args.s.now args.at) late, c.number_inside-place.ensures, ne_eqb (andx_command args.s.now args.at) 255 c.if-next.false, ← may-follow.ensures, c.if-not-may_follow.false)
