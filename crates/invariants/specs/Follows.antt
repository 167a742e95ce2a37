-- The reader's test of what may follow what is the table's last column.
-- Assumes nothing.
use Rattle.std.specs.Prelude.{◌≡◌, refl, ◌↔◌, ℕ, true, false, cond, ◌||◌, eqb}
use Rattle.std.proofs.Common.{arith, eqb-true}
use Rattle.chain.specs.Layout.{CLOSE, LOCKING, READ, WRITE, CORE-READ, CORE-WRITE, OPEN}
use Rattle.chain.specs.Grammar.{MayFollow, locking-read, locking-write, locking-core-read, locking-core-write, read-close, write-write, write_read, write-close, open-read}
use Rattle.chain.specs.Parse.{may_follow}
use Rattle.lists.specs.Truth.{either-cases, choice-cases}

-- behind a LOCKING block: READ_ANDX, WRITE_ANDX, and the core READ and WRITE
after-locking : (next : ℕ) → (eqb next READ || (eqb next WRITE || (eqb next CORE-READ || eqb next CORE-WRITE))) ≡ true → MayFollow LOCKING next
after-locking next e =
    either-cases (eqb next READ) _ e (λ p. rw (eqb-true next READ p) locking-read)
    (λ q. either-cases (eqb next WRITE) _ q (λ p. rw (eqb-true next WRITE p) locking-write)
    (λ r. either-cases (eqb next CORE-READ) (eqb next CORE-WRITE) r (λ p. rw (eqb-true next CORE-READ p) locking-core-read)
    (λ p. rw (eqb-true next CORE-WRITE p) locking-core-write)))

-- behind a READ block: CLOSE
after_read : (next : ℕ) → eqb next CLOSE ≡ true → MayFollow READ next
after_read next e = rw (eqb-true next CLOSE e) read-close

-- behind a WRITE block: WRITE_ANDX, READ_ANDX, CLOSE
after_write : (next : ℕ) → (eqb next WRITE || (eqb next READ || eqb next CLOSE)) ≡ true → MayFollow WRITE next
after_write next e =
    either-cases (eqb next WRITE) (eqb next READ || eqb next CLOSE) e (λ p. rw (eqb-true next WRITE p) write-write)
    (λ q. either-cases (eqb next READ) (eqb next CLOSE) q (λ p. rw (eqb-true next READ p) write_read) (λ p. rw (eqb-true next CLOSE p) write-close))

-- behind an OPEN block: READ_ANDX
after_open : (next : ℕ) → eqb next READ ≡ true → MayFollow OPEN next
after_open next e = rw (eqb-true next READ e) open-read

-- what the test lets follow stands in the column
pub follow-sound : (command next : ℕ) → may_follow command next ≡ true → MayFollow command next
unfolding may_follow
follow-sound command next e =
    choice-cases (eqb command LOCKING) (eqb next READ || (eqb next WRITE || (eqb next CORE-READ || eqb next CORE-WRITE)))
    (cond (eqb command READ) (eqb next CLOSE) (cond (eqb command WRITE) (eqb next WRITE || (eqb next READ || eqb next CLOSE)) (cond (eqb command OPEN) (eqb next READ) false))) true e
    (λ p q. rw (eqb-true command LOCKING p) (after-locking next q))
    (λ _ r. choice-cases (eqb command READ) (eqb next CLOSE) (cond (eqb command WRITE) (eqb next WRITE || (eqb next READ || eqb next CLOSE)) (cond (eqb command OPEN) (eqb next READ) false))
    true r (λ p q. rw (eqb-true command READ p) (after_read next q))
    (λ _ u. choice-cases (eqb command WRITE) (eqb next WRITE || (eqb next READ || eqb next CLOSE)) (cond (eqb command OPEN) (eqb next READ) false) true u
    (λ p q. rw (eqb-true command WRITE p) (after_write next q))
    (λ _ v. choice-cases (eqb command OPEN) (eqb next READ) false true v (λ p q. rw (eqb-true command OPEN p) (after_open next q))
    (λ _ x. let no : ◌≡◌ {A = ℕ} 0 1 = cc in absurd (omega arith)))))

-- what stands in the column the test lets follow
pub follow-complete : {command next : ℕ} → MayFollow command next → may_follow command next ≡ true
unfolding may_follow
follow-complete locking-read = refl
follow-complete locking-write = refl
follow-complete locking-core-read = refl
follow-complete locking-core-write = refl
follow-complete read-close = refl
follow-complete write-write = refl
follow-complete write_read = refl
follow-complete write-close = refl
follow-complete open-read = refl

-- "Otherwise the command must be in the last column": the test and the table agree on every pair of commands
pub follow-table : (command next : ℕ) → (may_follow command next ≡ true) ↔ MayFollow command next
follow-table command next = (follow-sound command next, follow-complete)
