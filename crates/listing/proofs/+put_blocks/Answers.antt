-- A chain that has a reading has a block where it begins. A follower stands behind the block, so what is left of the message falls.
-- The block's line stands before those of the rest, and `end` stands last.
use Rattle.std.proofs.Common.{ℕ, ◌+◌, ◌≤◌, length, sym, arith}
use Rattle.text.specs.Overlaid.{written_then}
use Rattle.listing.proofs.Lines.{sentence-stands, lines_end, lines_more, sentence-more, left-falls, count-more, count-inside, Followed}
use Rattle.listing.specs.Text.{end_line}
use Rattle.listing.proofs.+put_blocks.Goals as goal
use Rattle.listing.proofs.+put_blocks.Goals.{In-Some}

-- the block that was taken apart and its follower
followed : (t : ℕ) (c : In-Some t) → Followed c.args.s.now c.args.command c.args.place c.fields_at-b.result c.in-Some.follower.command c.in-Some.follower.at
followed t c = record { chained = c.requires.sentence_from; whole = sym c.fields_at-b.ensures; follows = c.in-Some.is }

pub fields_at-b-requires : goal.fields_at-b-requires
fields_at-b-requires t c = sentence-stands c.requires.sentence_from

pub returns-in_default : goal.returns-in_default
unfolding end_line
returns-in_default t c =
    let args = c.args in
    let block = c.fields_at-b in
    rw (lines_end args.s.now args.command args.place args.k block.result (sym block.ensures) c.in_default.is) (written_then c.put_line-to.ensures c.put_text.ensures)

pub overflow_add-k : goal.overflow_add-k
overflow_add-k t c =
    let few : c.args.k + 1 ≤ length c.args.s.now = count-inside (followed t (goal.at.overflow_add-k t c).In-Some) c.args.k c.requires.k_le_place in
    omega arith

pub put_blocks-requires : goal.put_blocks-requires
put_blocks-requires t c =
    let follower = followed t (goal.at.put_blocks-requires t c).In-Some in
    (rw c.decreases at (left-falls follower), (count-more follower c.args.k c.requires.k_le_place, sentence-more follower))

pub returns : goal.returns
returns t c =
    let args = c.args in
    rw (lines_more (followed t (goal.at.returns t c).In-Some) args.k) (written_then c.put_line-to.ensures c.put_blocks.ensures)
