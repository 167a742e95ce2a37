-- A listed lock as the words hold it. Assumes nothing.
use Rattle.std.specs.Prelude.{◌≡◌, ℕ, min, ◌<◌, List, length, get_or}
use Rattle.std.proofs.Common.{arith, length-take, get_or-take}
use Rattle.records.specs.Empty.{no_lock}
use Rattle.tables.specs.Words.{word, lock_array}
use Rattle.tables.specs.Written.{locks_in}
use Rattle.tables.specs.ChangeLaws.{length-lock_array}

module _ (w : List ℕ) (k : ℕ) (h : k < length (locks_in w)) where
  among : k < min (word w 0) 128
  among = let e = length-take (word w 0) (lock_array w) in let n = length-lock_array w in omega arith

  -- its place is one of the table's
  pub listed_below : k < 128
  listed_below = let a = among in omega arith

  -- its record is the one there
  pub listed_at : get_or (locks_in w) k no_lock ≡ get_or (lock_array w) k no_lock
  listed_at = let a = among in get_or-take (word w 0) (lock_array w) k no_lock (omega arith)
