-- Of specs/Successions.antt: what rests on its other theorems. Assumes nothing.
use Rattle.std.specs.Prelude.{◌≡◌, ◌↔◌, ℕ, ◌<◌, true, eqb}
use Rattle.std.proofs.Common.{sym, ◌∙◌, arith, eqb-true}
use mathlib.Core.List.{Memᴰ as In}
use Rattle.lists.specs.Walk.{all}
use Rattle.lists.specs.Members.{all-each, any-one}
use Rattle.lists.specs.Truth.{both_hold}
use Rattle.chain.specs.Grammar.{MayFollow}
use Rattle.chain.specs.Parse.{may_follow}
use Rattle.invariants.specs.Follows.{follow-table}
use Rattle.literals.specs.Counting.{count_from}
use Rattle.literals.specs.Successions.{alike, alike_same, counted, in-listed, is_listed, is_pair, its-pair, listed, pair, table-agrees}

pub listed_in : (command next : ℕ) → is_listed command next ≡ true → In (pair command next) listed
unfolding is_listed is_pair
listed_in command next e =
    let w = any-one (is_pair command next) listed e in
    let h = both_hold (eqb w.0.command command) (eqb w.0.next next) w.2 in
    its-pair w.0 command next (eqb-true w.0.command command h.0) (eqb-true w.0.next next h.1) w.1

module _ (command next : ℕ) (low : command < 256) (low' : next < 256) where
  pub same_test : may_follow command next ≡ is_listed command next
  same_test =
      let row = all-each (λ (c : ℕ). all (λ (n : ℕ). alike (may_follow c n) (is_listed c n)) (count_from 0 256)) (counted 0 256 command (omega arith) (omega arith)) table-agrees in
      alike_same (may_follow command next) (is_listed command next)
      (all-each (λ (n : ℕ). alike (may_follow command n) (is_listed command n)) (counted 0 256 next (omega arith) (omega arith)) row)

  -- "of all 65,536 pairs it allows exactly the eight listed", nine with CR 6's: the answer of `chain::command::may_follow`, whose contract is an equation with may_follow
  pub exactly-listed : (may_follow command next ≡ true) ↔ In (pair command next) listed
  exactly-listed = (λ e. listed_in command next (sym same_test ∙ e), λ i. same_test ∙ in-listed command next i)

  -- and so the grammar's last column
  pub grammar-listed : MayFollow command next ↔ In (pair command next) listed
  grammar-listed =
      let t = follow-table command next in (
        λ m. exactly-listed.0 (t.1 m),
        λ i. t.0 (exactly-listed.1 i),
      )
