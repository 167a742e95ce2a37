-- The unlocks of a request, range by range, and the array that holds what they leave.
-- Assumes nothing.
use mathlib.Core.Path.{◌≡◌, sym, ap, ◌∙◌}
use Prim.Native.Nat.{ℕ, ◌-◌, ◌≤◌, ◌<◌}
use mathlib.Core.Bool.{Bool}
use mathlib.Core.List.{List, ◌∷◌}
use Rattle.std.specs.Prelude.{None, Option, Some}
use lib.ListN.{length, take}
use lib.Seq.{length-take-le}
use native.Mathlib.Omega.{arith}
use Rattle.lists.specs.Walk.{found}
use Rattle.lists.specs.FoundLaws.{found_below}
use Rattle.lists.specs.Stored.{stored}
use Rattle.lists.specs.StoredLaws.{stored_same, stored-stored, take-stored}
use Rattle.records.specs.Empty.{no_lock}
use Rattle.records.specs.declared.Lock.{Lock}
use Rattle.locks.specs.Answer.{answers}
use Rattle.locks.specs.Request.{ask_of, remove_at, after_find, release_all}
use Rattle.locks.specs.declared.types.Ask.{Ask}
use Rattle.locks.specs.declared.types.LockRange.{LockRange}
use Rattle.locks.specs.declared.types.Purpose.TheVariants.{Release}
use Rattle.locks.proofs.Removed.{length-remove_at}

module _ (file : ℕ → ℕ) (fid : ℕ) where
  -- `f` is what the walk for the lock of range r yields, by the range that was read and by what was asked
  module _ (r : LockRange) (list : List Lock) {range : LockRange} {ask : Ask} {f : Option ℕ} (read : range ≡ r) (asked : ask ≡ ask_of fid Release range)
      (walked : f ≡ found (answers file ask) list) where
    sought : found (answers file (ask_of fid Release r)) list ≡ f
    sought = sym (walked ∙ (λ i. found (answers file (asked i)) list) ∙ (λ i. found (answers file (ask_of fid Release (read i))) list))

    -- a range that names a lock takes it out of the list
    pub release-more : (rs : List LockRange) {place : ℕ} → f ≡ Some place → release_all file fid (r ∷ rs) list ≡ release_all file fid rs (remove_at place list)
    unfolding release_all after_find
    release-more rs e = rw (sought, e)

    -- one that names none ends the unlocks
    pub release-stop : (rs : List LockRange) → f ≡ None → release_all file fid (r ∷ rs) list ≡ None
    unfolding release_all after_find
    release-stop rs e = rw (sought, e)

-- the array `left` holds a list of `held` records where `locks` held `count`
pub record Left (locks : List Lock) (count : ℕ) (left : List Lock) (held : ℕ) : Type 0 where
  pub short : held ≤ count
  pub long : length (take held left) ≡ held
  pub holds : left ≡ stored no_lock locks count (take held left)

-- at first it holds all of them
pub left-start : (locks : List Lock) (count : ℕ) → count ≤ length locks → Left locks count locks count
left-start locks count h =
    record { short = omega arith; long = length-take-le count locks h; holds = sym (stored_same no_lock locks count h) }

module _ {locks : List Lock} {count : ℕ} {left : List Lock} {held : ℕ} (l : Left locks count left held) where
  -- a list stored there is as if it were stored in the first array
  left-stored : (m : List Lock) → stored no_lock left held m ≡ stored no_lock locks count m
  left-stored m =
      let a = l.short in
      let b : length (take held left) ≤ count = rw l.long a in
      ap (λ (t : List Lock). stored no_lock t held m) l.holds
      ∙ ap (λ (n : ℕ). stored no_lock (stored no_lock locks count (take held left)) n m) (sym l.long)
      ∙ stored-stored no_lock locks count (take held left) m b

  -- a place found in the list is one of its records
  pub left_below : (p : Lock → Bool) (place : ℕ) → found p (take held left) ≡ Some place → place < held
  left_below p place e = rw l.long at (found_below p (take held left) place e)

  module _ {place : ℕ} (below : place < held) {next : List Lock} (e : next ≡ stored no_lock left held (remove_at place (take held left))) where
    -- one record less
    fewer : length (remove_at place (take held left)) ≡ held - 1
    fewer =
        let a = l.long in
        let b : length (remove_at place (take held left)) ≡ length (take held left) - 1 = length-remove_at place (take held left) (omega arith) in
        omega arith

    -- the list that is left after one unlock
    pub left-list : take (held - 1) next ≡ remove_at place (take held left)
    left-list = rw (← fewer, e) (take-stored no_lock left held (remove_at place (take held left)))

    -- after one unlock it holds one record less
    pub left_step : Left locks count next (held - 1)
    left_step =
        let a = l.short in
        let same : next ≡ stored no_lock locks count (remove_at place (take held left)) = e ∙ left-stored (remove_at place (take held left)) in
        record { short = omega arith; long = rw left-list fewer; holds = rw left-list same }
