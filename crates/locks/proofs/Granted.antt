-- The locks of a request, range by range, against the list and the request's own earlier locks.
-- Assumes nothing.
use mathlib.Core.Path.{◌≡◌, refl, sym, ap, ◌∙◌}
use Prim.Native.Nat.{ℕ, suc, ◌+◌, ◌-◌, ◌≤◌}
use mathlib.Core.Bool.{Bool, true, false, ◌&&◌, and-true}
use mathlib.Core.List.{List, [], ◌∷◌, ◌++◌, map, append_assoc, append-nil}
use lib.ListN.{length, length-map}
use lib.Dec.{eqb}
use borrow.Author.Tests.{eq-eqb}
use native.Mathlib.Omega.{arith}
use Rattle.lists.specs.Walk.{found, found_from}
use Rattle.lists.specs.FoundLaws.{first_of, shifted, found-append, found_from-no}
use Rattle.std.specs.Prelude.{Option, Some, None}
use Rattle.records.specs.declared.Lock.{Lock}
use Rattle.locks.specs.Range.{overlaps, passes_end}
use Rattle.locks.specs.Answer.{bars, in_way, answers_for, answers}
use Rattle.locks.specs.Wire.{range_at, ranges_at}
use Rattle.locks.specs.Request.{of_header, ranges_of, range_passes, ask_of, lock_of, holder_at, Grants, granted, blocked, after_walk, grant_all}
use Rattle.locks.specs.Blocked.{range_meets, blocked_at, conflict_of}
use Rattle.locks.specs.declared.types.Ask.{Ask}
use Rattle.locks.specs.declared.types.LockRange.{LockRange}
use Rattle.locks.specs.declared.types.Request.{Request}
use Rattle.locks.specs.declared.types.Purpose.TheVariants.{Grant}
use Rattle.locks.proofs.Whole.{map_snoc, length-of, of-more}

-- a range passes 2^64 where its numbers say so
pub range-passes : {r w : LockRange} {t u : Bool} → r ≡ w → t ≡ passes_end r.offset r.length → t ≡ u → range_passes w ≡ u
unfolding range_passes
range-passes e f g = rw (← e, ← f) g

-- a walk that finds nothing leaves it to the other ranges
after-granted : (f : Option ℕ) (list : List Lock) (g : Grants) (l : List Lock) → (None ≡ blocked_at g → g ≡ granted l) → None ≡ blocked_at (after_walk f list g)
    → after_walk f list g ≡ granted l
unfolding blocked_at after_walk
after-granted (Some k) list g l h e = let no : ◌≡◌ {A = ℕ} 0 1 = cc in absurd (omega arith)
after-granted None list g l h e = h e

-- a walk that starts at a place counts from 0 there
pub found-whole : {A : Type 0} (p : A → Bool) (from : ℕ) (l : List A) → found p l ≡ found_from (from - from) p l
unfolding found
found-whole p from l = let e : from - from ≡ 0 = omega arith in rw e

-- a lock that does not answer is passed over
pub found-next : {A : Type 0} (p : A → Bool) (from k : ℕ) (x : A) (l : List A) → from ≤ k → p x ≡ false
    → found_from (k - from) p (x ∷ l) ≡ found_from (k + 1 - from) p l
found-next p from k x l h e = let next : k - from + 1 ≡ k + 1 - from = omega arith in rw (← next) (found_from-no p x l (k - from) e)

-- ---- the request's own locks against one of its ranges

module _ (file : ℕ → ℕ) (fid : ℕ) (shared : Bool) (r : LockRange) where
  -- whether the lock of another range is in its way
  abbrev own_bars : LockRange → Bool
  own_bars x = answers file (ask_of fid (Grant shared) r) (lock_of fid shared x)

  never : (b c : Bool) → b && (false && c) ≡ false
  never true c = refl
  never false c = refl

  -- shared ones never are
  shared-never : shared ≡ true → (x : LockRange) → own_bars x ≡ false
  unfolding answers answers_for in_way bars ask_of lock_of
  shared-never e x = rw e (never (overlaps x.offset x.length r.offset r.length) (eqb (file fid) (file fid)))

  -- exclusive ones are where they overlap
  exclusive-meets : shared ≡ false → (x : LockRange) → own_bars x ≡ range_meets r.offset r.length x
  unfolding answers answers_for in_way bars ask_of lock_of range_meets
  exclusive-meets e x = rw (e, eq-eqb (file fid) (file fid) refl, and-true)

  none-bars : shared ≡ true → (xs : List LockRange) (k : ℕ) → None ≡ found_from k (answers file (ask_of fid (Grant shared) r)) (map (lock_of fid shared) xs)
  unfolding found_from
  none-bars e [] k = refl
  none-bars e (x ∷ xs) k = rw (shared-never e x) (none-bars e xs (suc k))

  meets-bars : shared ≡ false → (xs : List LockRange) (k : ℕ)
      → found_from k (range_meets r.offset r.length) xs ≡ found_from k (answers file (ask_of fid (Grant shared) r)) (map (lock_of fid shared) xs)
  unfolding found_from
  meets-bars e [] k = refl
  meets-bars e (x ∷ xs) k = rw (exclusive-meets e x, meets-bars e xs (suc k))

  -- none of a shared request's own locks is found
  pub own-shared : shared ≡ true → (xs : List LockRange) → None ≡ found (answers file (ask_of fid (Grant shared) r)) (map (lock_of fid shared) xs)
  unfolding found
  own-shared e xs = none-bars e xs 0

  -- of an exclusive request's the first that overlaps is
  pub own-exclusive : shared ≡ false → (q : Ask) → q ≡ ask_of fid (Grant shared) r → (xs : List LockRange)
      → found (range_meets q.offset q.length) xs ≡ found (answers file (ask_of fid (Grant shared) r)) (map (lock_of fid shared) xs)
  unfolding found ask_of
  own-exclusive e q f xs = rw f (meets-bars e xs 0)

module _ (q : Request) (s : List ℕ) where
  -- range k of the request
  abbrev nth : ℕ → LockRange
  nth k = of_header q.high (range_at q.large s k)

  -- the request's own locks, those of its ranges before k
  abbrev pub own : ℕ → List Lock
  own k = map (lock_of q.fid q.shared) (ranges_of q s q.unlocks (k - q.unlocks))

  -- as many as there are ranges
  pub length-own : (k : ℕ) → length (own k) ≡ k - q.unlocks
  length-own k = rw (length-map, length-of)

  module _ (list : List Lock) where
    -- the list with them behind it
    abbrev pub along : ℕ → List Lock
    along k = list ++ own k

    -- at first there are none of them
    pub along-start : along q.unlocks ≡ list
    unfolding ranges_of ranges_at
    along-start = let e : q.unlocks - q.unlocks ≡ 0 = omega arith in rw e (append-nil list)

    -- one lock more
    pub along-more : (k : ℕ) → q.unlocks ≤ k → along (k + 1) ≡ along k ++ (lock_of q.fid q.shared (nth k) ∷ [])
    along-more k h =
        rw (of-more q s q.unlocks k h, map_snoc (lock_of q.fid q.shared)) (sym (append_assoc list (own k) (lock_of q.fid q.shared (nth k) ∷ [])))

module _ (file : ℕ → ℕ) (fid : ℕ) (shared : Bool) where
  -- where nothing stands in the way all locks are granted, in order
  pub granted-all : (rs : List LockRange) (list : List Lock) → None ≡ blocked_at (grant_all file fid shared rs list)
      → grant_all file fid shared rs list ≡ granted (list ++ map (lock_of fid shared) rs)
  unfolding grant_all
  granted-all [] list e = ap granted (sym (append-nil list))
  granted-all (r ∷ rs) list e =
      after-granted (found (answers file (ask_of fid (Grant shared) r)) list) list (grant_all file fid shared rs (list ++ (lock_of fid shared r ∷ [])))
      (list ++ (lock_of fid shared r ∷ map (lock_of fid shared) rs))
      (λ h. granted-all rs (list ++ (lock_of fid shared r ∷ [])) h ∙ ap granted (append_assoc list (lock_of fid shared r ∷ []) (map (lock_of fid shared) rs)))
      e

module _ (file : ℕ → ℕ) (q : Request) (s : List ℕ) (list : List Lock) where
  -- at first all ranges stand against the list alone
  pub grant-start : (rs : List LockRange) → grant_all file q.fid q.shared rs list ≡ grant_all file q.fid q.shared rs (along q s list q.unlocks)
  grant-start rs = ap (grant_all file q.fid q.shared rs) (sym (along-start q s list))

  module _ (k : ℕ) where
    -- a lock in the way of range k blocks the request
    pub grant-stop : (rs : List LockRange) (place : ℕ) → Some place ≡ conflict_of file q s k list
        → grant_all file q.fid q.shared (nth q s k ∷ rs) (along q s list k) ≡ blocked (holder_at (along q s list k) place)
    unfolding grant_all after_walk conflict_of
    grant-stop rs place e = rw (← e)

    -- with none in its way it is granted
    pub grant-more : (rs : List LockRange) → q.unlocks ≤ k → None ≡ conflict_of file q s k list
        → grant_all file q.fid q.shared (nth q s k ∷ rs) (along q s list k) ≡ grant_all file q.fid q.shared rs (along q s list (k + 1))
    unfolding grant_all after_walk conflict_of
    grant-more rs h e = rw (← e, along-more q s list k h)

    -- whether a lock is in the way of range k
    abbrev asked : Lock → Bool
    asked = answers file (ask_of q.fid (Grant q.shared) (nth q s k))

    -- a listed lock is in the way of range k
    pub conflict-listed : (place : ℕ) → Some place ≡ found asked list → Some place ≡ conflict_of file q s k list
    unfolding conflict_of first_of
    conflict-listed place e = rw (found-append, ← e)

    -- none is, and none of the request's own
    pub conflict-none : None ≡ found asked list → None ≡ found asked (own q s k) → None ≡ conflict_of file q s k list
    unfolding conflict_of first_of shifted
    conflict-none e g = rw (found-append, ← e, ← g)

    -- none is, but one of the request's own
    pub conflict-own : (place n : ℕ) → length list ≡ n → None ≡ found asked list → Some place ≡ found asked (own q s k) → Some (n + place) ≡ conflict_of file q s k list
    unfolding conflict_of first_of shifted
    conflict-own place n l e g = rw (found-append, ← e, ← g, l)
