-- A follower stands behind the block, so what is left of the message falls.
-- The answer at each return is a law of whether a chain has a reading.
use Rattle.std.proofs.Common.{◌≡◌, sym, ap, ◌∙◌, ℕ}
use Rattle.chain.proofs.Sentence.{sentence-refused, sentence-end, sentence-more, left-falls}
use Rattle.chain.specs.Parse.{parse}
use Rattle.chain.specs.Judged.{judged}
use Rattle.chain.specs.Next.{Next}
use Rattle.std.specs.Prelude.{Some, Some as Fits}
use Rattle.chain.proofs.reader.+is_sentence.Goals as goal
use Rattle.chain.proofs.reader.+is_sentence.Goals.{In-Some-next}

-- what the block that was judged is followed by
followed : (t : ℕ) (c : In-Some-next t) → judged (parse c.args.s.now c.args.command c.args.at) ≡ Fits (Some c.in-Some-next.follower)
followed t c = sym c.judge_at.ensures ∙ c.in-Some.is ∙ ap (λ (n : Next). Fits n) c.in-Some-next.is

pub returns-in_default : goal.returns-in_default
returns-in_default t c = sym (sentence-refused c.args.s.now c.args.command c.args.at (sym c.judge_at.ensures ∙ c.in_default.is))

pub returns-in_default-next : goal.returns-in_default-next
returns-in_default-next t c =
    sym (sentence-end c.args.s.now c.args.command c.args.at (sym c.judge_at.ensures ∙ c.in-Some.is ∙ ap (λ (n : Next). Fits n) c.in_default-next.is))

pub is_sentence-requires : goal.is_sentence-requires
is_sentence-requires t c =
    let args = c.args in
    (rw c.decreases at (left-falls args.s.now args.command args.at c.in-Some-next.follower.command c.in-Some-next.follower.at (followed t (goal.at.is_sentence-requires t c).In-Some-next)), tt)

pub returns : goal.returns
returns t c =
    let args = c.args in
    c.is_sentence.ensures
    ∙ sym (sentence-more args.s.now args.command args.at c.in-Some-next.follower.command c.in-Some-next.follower.at (followed t (goal.at.returns t c).In-Some-next))
