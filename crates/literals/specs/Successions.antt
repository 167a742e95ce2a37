-- What may follow what (document 02, CR 5): "of all 65,536 pairs it allows exactly the eight listed"; CR 6: "CR 5's eight pairs become nine". The checker computes one test over the whole table, and a
-- lemma turns the test into the rule. Assumes nothing.
use Rattle.std.specs.Prelude.{◌≡◌, refl, ℕ, zero, suc, ◌+◌, ◌≤◌, ◌<◌, Bool, true, false, not, ◌&&◌, eqb}
use Rattle.std.proofs.Common.{sym, arith, eq-eqb}
use Rattle.std.proofs.Math.Decide.{ℕ_discrete}
use Rattle.std.proofs.lemmas.Bool.{false≢true}
use mathlib.Core.List.Memᴰ.{head as first}
use mathlib.Core.List.Memᴰ.{tail as later}
use mathlib.Core.List.{List, [], ◌∷◌, Memᴰ as In}
use Rattle.lists.specs.Walk.{any, all}
use Rattle.lists.specs.Members.{one-any}
use Rattle.lists.specs.Truth.{hold-both}
use Rattle.chain.specs.Layout.{CLOSE, LOCKING, READ, WRITE, CORE-READ, CORE-WRITE, OPEN}
use Rattle.chain.specs.Parse.{may_follow}
use Rattle.literals.specs.Counting.{count_from}

-- a command, and one that may follow it
pub record Pair : Type 0 where
  pub command : ℕ
  pub next : ℕ

unfoldable pub pair : ℕ → ℕ → Pair
pair command next = record { command = command; next = next }

-- Document 01's column "May be followed by", row by row in its order, last in LOCKING's row the two of document 02's CR 3, and a last row of its CR 6. READ, WRITE and OPEN are READ_ANDX,
-- WRITE_ANDX and OPEN_ANDX here, CORE-READ and CORE-WRITE CR 3's READ and WRITE. docs/GRAMMAR.md prints this list, and tests/follow_table holds it to that page and to the source.
unfoldable pub listed : List Pair
listed =
    pair LOCKING READ
    ∷ pair LOCKING WRITE
    ∷ pair LOCKING CORE-READ
    ∷ pair LOCKING CORE-WRITE
    ∷ pair READ CLOSE
    ∷ pair WRITE WRITE
    ∷ pair WRITE READ
    ∷ pair WRITE CLOSE
    ∷ pair OPEN READ
    ∷ []

-- the same as a test
unfoldable pub is_pair : ℕ → ℕ → Pair → Bool
is_pair command next p = eqb p.command command && eqb p.next next

unfoldable pub is_listed : ℕ → ℕ → Bool
is_listed command next = any (is_pair command next) listed

unfoldable pub alike : Bool → Bool → Bool
alike true b = b
alike false b = not b

-- ---- the test, computed: the reader's table and the list agree at every pair of bytes

pub table-agrees : all (λ command. all (λ next. alike (may_follow command next) (is_listed command next)) (count_from 0 256)) (count_from 0 256) ≡ true
unfolding all count_from alike may_follow is_listed any is_pair listed pair
table-agrees = refl

-- ---- what it says

pub alike_same : (a b : Bool) → alike a b ≡ true → a ≡ b
unfolding alike
alike_same true b e = sym e
alike_same false true e = absurd (false≢true e)
alike_same false false e = refl

-- every byte is counted
pub counted : (k n i : ℕ) → k ≤ i → i < k + n → In i (count_from k n)
unfolding count_from
counted k zero i h l = absurd (omega arith)
counted k (suc n) i h l =
    elim (ℕ_discrete i k) [
      | yes e ↦ first e
      | no e ↦ later (counted (suc k) n i (omega arith) (omega arith))
    ]

-- a pair passes the test exactly if it is in the list
pub its-pair : (p : Pair) (command next : ℕ) → p.command ≡ command → p.next ≡ next → In p listed → In (pair command next) listed
unfolding pair
its-pair p command next e f i = rw (← e, ← f) i

pub in-listed : (command next : ℕ) → In (pair command next) listed → is_listed command next ≡ true
unfolding is_listed is_pair pair
in-listed command next i =
    one-any (is_pair command next) i (hold-both (eqb command command) (eqb next next) (eq-eqb command command refl) (eq-eqb next next refl))
