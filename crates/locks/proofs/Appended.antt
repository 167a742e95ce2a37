-- The array while a request's own locks are written behind the list, one by one.
-- Assumes nothing.
use mathlib.Core.Path.{◌≡◌, sym, ap, ◌∙◌}
use Prim.Native.Nat.{ℕ, ◌+◌, ◌-◌, ◌≤◌, ◌<◌}
use mathlib.Core.List.{List}
use lib.ListN.{length, take, set, length-append}
use lib.Seq.{length-take-le}
use native.Mathlib.Omega.{arith}
use Rattle.lists.specs.Stored.{stored}
use Rattle.lists.specs.StoredLaws.{stored_same, stored-push}
use Rattle.records.specs.Empty.{no_lock}
use Rattle.records.specs.declared.Lock.{Lock}
use Rattle.locks.specs.Wire.{range_at}
use Rattle.locks.specs.Request.{of_header, lock_of}
use Rattle.locks.specs.declared.types.Request.{Request}
use Rattle.locks.proofs.Granted.{length-own, along, along-start, along-more}

module _ (locks : List Lock) (count : ℕ) (q : Request) (s : List ℕ) where
  -- the list's records with the locks of the request's ranges before k behind them
  abbrev joined : ℕ → List Lock
  joined k = along q s (take count locks) k

  -- the array that holds them
  abbrev pub appended : ℕ → List Lock
  appended k = stored no_lock locks count (joined k)

  module _ (room : count ≤ length locks) where
    -- at first it is the array as it was
    pub appended-start : locks ≡ appended q.unlocks
    appended-start = sym (ap (stored no_lock locks count) (along-start q s (take count locks)) ∙ stored_same no_lock locks count room)

    -- how many they are
    length-joined : (k : ℕ) → length (joined k) ≡ count + (k - q.unlocks)
    length-joined k = rw (length-append, length-take-le count locks room, length-own q s k)

    -- lock k is written behind them
    pub appended-more : (k : ℕ) → q.unlocks ≤ k → count + (k - q.unlocks) < length locks
        → set (appended k) (count + (k - q.unlocks)) (lock_of q.fid q.shared (of_header q.high (range_at q.large s k))) ≡ appended (k + 1)
    appended-more k b h =
        let e = length-joined k in
        rw (along-more q s (take count locks) k b)
        (stored-push no_lock locks count (joined k) (lock_of q.fid q.shared (of_header q.high (range_at q.large s k))) (count + (k - q.unlocks)) (omega arith) (sym e) h)
