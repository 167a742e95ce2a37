-- `catalogue::compare::fold` meets its contract: the library's letters are those of the definition. Assumes nothing.
use Rattle.std.proofs.Common.{ltb, cond, ◌+◌, ℕ, ◌≡◌, ◌∙◌, arith}
use Rattle.std.proofs.Math.Decide.{dec_lt}
use borrow.Author.Tests.{le-leb, lt-leb, lt-ltb, le-ltb}
use Rattle.catalogue.specs.Name.{folded}
use Rattle.catalogue.proofs.compare.fold.Goals as goal

-- one test of a range is the other
told : (b : ℕ) → cond (ltb b 65) b (cond (ltb b 91) (b + 32) b) ≡ folded b
unfolding folded
told b =
    elim (dec_lt b 65) [
      | yes h ↦ rw (lt-ltb b 65 h, lt-leb 65 b h)
      | no h ↦
          elim (dec_lt b 91) [
            | yes k ↦ rw (le-ltb b 65 (omega arith), lt-ltb b 91 k, le-leb 65 b (omega arith), le-leb b 90 (omega arith))
            | no k ↦ rw (le-ltb b 65 (omega arith), le-ltb b 91 (omega arith), le-leb 65 b (omega arith), lt-leb b 90 (omega arith))
          ]
    ]

pub returns : goal.returns
returns c = c.to_ascii_lowercase.ensures.value ∙ told c.args.b
