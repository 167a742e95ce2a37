-- Who holds the lock in the way of a request: the list with all of the request's locks behind it has that lock at the same place as the list
-- that then stood.
-- Assumes nothing.
use mathlib.Core.Path.{◌≡◌, refl, sym, ap, ◌∙◌}
use Prim.Native.Nat.{ℕ, zero, suc, ◌+◌, ◌<◌}
use native.Mathlib.Nat.{add-zero}
use mathlib.Core.Bool.{Bool}
use mathlib.Core.List.{List, [], ◌∷◌, ◌++◌, map, append_assoc}
use lib.ListN.{length, get_or, length-map, length-append, get_or-append}
use lib.Seq.{get_or-append-add}
use native.Mathlib.Omega.{arith}
use Rattle.lists.specs.Walk.{found}
use Rattle.lists.specs.FoundLaws.{found_below}
use Rattle.std.specs.Prelude.{Option, Some, None}
use Rattle.records.specs.Empty.{no_lock}
use Rattle.records.specs.declared.Lock.{Lock}
use Rattle.tables.specs.Words.{lock_array}
use Rattle.tables.specs.Written.{locks_in}
use Rattle.locks.specs.Wire.{range_at, ranges_at}
use Rattle.locks.specs.Answer.{answers}
use Rattle.locks.specs.Request.{of_header, ranges_of, ask_of, lock_of, holder_at, Grants, blocked, after_walk, grant_all}
use Rattle.locks.specs.Blocked.{blocked_at}
use Rattle.locks.specs.Listed.{listed_at}
use Rattle.locks.specs.declared.types.LockRange.{LockRange}
use Rattle.locks.specs.declared.types.Request.{Request}
use Rattle.locks.specs.declared.types.Purpose.TheVariants.{Grant}

-- a place in the list of two parts: the front part's own
pub holder-front : (xs ys : List Lock) (k : ℕ) → k < length xs → holder_at xs k ≡ holder_at (xs ++ ys) k
unfolding holder_at
holder-front xs ys k h = ap (λ (l : Lock). record { lock = l; place = k }) (sym (get_or-append xs ys no_lock k h))

-- the place of the lock in the way is one of the whole list, and that lock is the holder's
record InWhole (whole : List Lock) (place : ℕ) (g : Grants) : Type 0 where
  pub same : g ≡ blocked (holder_at whole place)
  pub below : place < length whole

-- the list found it, or the ranges behind
in_whole : (f : Option ℕ) (list more : List Lock) (g : Grants) (place : ℕ) → ((k : ℕ) → f ≡ Some k → k < length list)
    → (Some place ≡ blocked_at g → InWhole (list ++ more) place g) → Some place ≡ blocked_at (after_walk f list g) → InWhole (list ++ more) place (after_walk f list g)
unfolding blocked_at after_walk holder_at
in_whole (Some k) list more g place low next e =
    let same : place ≡ k = cc in
    let below : k < length list = low k refl in
    let n = length-append list more in
    rw same (record { same = ap blocked (holder-front list more k below); below = omega arith })
in_whole None list more g place low next e = next e

module _ (file : ℕ → ℕ) (fid : ℕ) (shared : Bool) where
  blocked-whole : (rs : List LockRange) (list : List Lock) (place : ℕ) → Some place ≡ blocked_at (grant_all file fid shared rs list)
      → InWhole (list ++ map (lock_of fid shared) rs) place (grant_all file fid shared rs list)
  unfolding grant_all blocked_at
  blocked-whole [] list place e = let no : ◌≡◌ {A = ℕ} 0 1 = cc in absurd (omega arith)
  blocked-whole (r ∷ rs) list place e =
      in_whole (found (answers file (ask_of fid (Grant shared) r)) list) list (lock_of fid shared r ∷ map (lock_of fid shared) rs)
      (grant_all file fid shared rs (list ++ (lock_of fid shared r ∷ []))) place
      (λ k h. found_below (answers file (ask_of fid (Grant shared) r)) list k h)
      (λ h. rw (append_assoc list (lock_of fid shared r ∷ []) (map (lock_of fid shared) rs)) at (blocked-whole rs (list ++ (lock_of fid shared r ∷ [])) place h))
      e

  module _ (rs : List LockRange) (list : List Lock) (place : ℕ) (e : Some place ≡ blocked_at (grant_all file fid shared rs list)) where
    pub blocked-at : grant_all file fid shared rs list ≡ blocked (holder_at (list ++ map (lock_of fid shared) rs) place)
    blocked-at = (blocked-whole rs list place e).same

    pub blocked-below : place < length list + length rs
    blocked-below =
        let h = (blocked-whole rs list place e).below in
        let n = length-append list (map (lock_of fid shared) rs) in
        let m = length-map rs (lock_of fid shared) in
        omega arith

-- a place below the number held is that of a record of the words
pub holder-listed : (w : List ℕ) (more : List Lock) (k : ℕ) → k < length (locks_in w) → get_or (locks_in w ++ more) k no_lock ≡ get_or (lock_array w) k no_lock
holder-listed w more k h =
    get_or-append (locks_in w) more no_lock k h ∙ listed_at w k h

-- the lock of the i-th of the request's ranges
range-lock : (f : LockRange → Lock) (q : Request) (s : List ℕ) (from n i : ℕ) (d : Lock) → i < n
    → get_or (map f (ranges_of q s from n)) i d ≡ f (of_header q.high (range_at q.large s (from + i)))
unfolding ranges_of ranges_at
range-lock f q s from zero i d h = absurd (omega arith)
range-lock f q s from (suc n) zero d h = rw add-zero
range-lock f q s from (suc n) (suc i) d h =
    let e : suc from + i ≡ from + suc i = omega arith in
    rw (← e) (range-lock f q s (suc from) n i d (omega arith))

-- a place behind the list is that of one of the request's locks
pub holder-own : (list : List Lock) (f : LockRange → Lock) (q : Request) (s : List ℕ) (from n i k : ℕ) → i < n → k ≡ length list + i
    → get_or (list ++ map f (ranges_of q s from n)) k no_lock ≡ f (of_header q.high (range_at q.large s (from + i)))
holder-own list f q s from n i k h e =
    rw e (get_or-append-add list (map f (ranges_of q s from n)) i no_lock ∙ range-lock f q s from n i no_lock h)
