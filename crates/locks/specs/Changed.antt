-- A LOCKING request on the words that hold the lock list: what it leaves there.
-- Assumes nothing.
use Rattle.std.specs.Prelude.{◌≡◌, ℕ, ◌≤◌, true, false, List, Option, None, Some, Err}
use Rattle.lists.specs.Stored.{stored}
use Rattle.records.specs.Empty.{no_lock}
use Rattle.records.specs.declared.Lock.{Lock}
use Rattle.tables.specs.Words.{word, lock_array}
use Rattle.tables.specs.Written.{locks_in}
use Rattle.locks.specs.declared.types.LockRefusal.TheVariants.{NoSuchLock}
use Rattle.locks.specs.Outcome.{Outcome, is_done}
use Rattle.locks.specs.declared.types.Locking.{Locking}

-- Unlocks that leave the list `left`, if each names a lock. Then the words hold that list, with empty records in place of those
-- given up; where one names none, nothing is said of the words.
pub record Unlocks (left : Option (List Lock)) (before after : List ℕ) (ended : Outcome) : Type 0 where
  pub list : is_done ended ≡ true → left ≡ Some (locks_in after)
  pub array : is_done ended ≡ true → lock_array after ≡ stored no_lock (lock_array before) (word before 0) (locks_in after)
  pub count : is_done ended ≡ true → word after 0 ≤ word before 0
  pub missing : is_done ended ≡ false → (ended ≡ Err NoSuchLock) × (left ≡ None)

-- A request on words that are thrown away if it is refused: if it is done they are as the definition has them.
pub record Tried (after : List ℕ) (why : Outcome) (l : Locking) : Type 0 where
  pub outcome : why ≡ l.outcome
  pub locks : is_done why ≡ true → lock_array after ≡ l.locks
  pub count : is_done why ≡ true → word after 0 ≡ l.count

-- A request with its outcome and its words as the definition has them. "A refused request leaves the list untouched, its unlocks
-- included": each word stands.
pub record Settles (before after : List ℕ) (why : Outcome) (l : Locking) : Type 0 where
  pub outcome : why ≡ l.outcome
  pub locks : lock_array after ≡ l.locks
  pub count : word after 0 ≡ l.count
  pub stands : is_done why ≡ false → after ≡ before
