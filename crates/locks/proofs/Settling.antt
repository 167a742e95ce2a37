-- A LOCKING request on the words of the list, case by case.
-- Assumes nothing.
use mathlib.Core.Path.{◌≡◌, refl, sym, ap, ◌∙◌}
use Prim.Native.Nat.{ℕ, ◌+◌, ◌*◌, ◌≤◌, ◌<◌}
use mathlib.Core.Bool.{Bool, true, false, false≢true}
use mathlib.Core.List.{List, ◌++◌, map}
use Rattle.std.specs.Prelude.{Some, None, Err}
use lib.ListN.{length, take, set, length-append, length-map, length-take}
use borrow.Author.Tests.{eq-eqb, ne_eqb, le-leb, lt-leb}
use native.Mathlib.Omega.{arith}
use Rattle.lists.specs.Walk.{any}
use Rattle.lists.specs.Truth.{not-decided-twice}
use Rattle.lists.specs.Stored.{stored}
use Rattle.lists.specs.StoredLaws.{stored-stored}
use Rattle.records.specs.Empty.{no_lock}
use Rattle.records.specs.declared.Lock.{Lock}
use Rattle.tables.specs.Words.{word, lock_array}
use Rattle.tables.specs.Written.{locks_in}
use Rattle.tables.specs.ChangeLaws.{lock_array-count, count_set}
use Rattle.locks.specs.Wire.{range_size, ranges_at}
use Rattle.locks.specs.Request.{ranges_of, lock_of, release_all, holder_at, grant_all, after_grants, range_passes, after_releases, Result, done, refused, request, settle, locking}
use Rattle.locks.specs.Blocked.{blocked_at}
use Rattle.locks.specs.Changed.{Unlocks, Tried, Settles}
use Rattle.locks.specs.declared.types.LockRange.{LockRange}
use Rattle.locks.specs.declared.types.Request.{Request}
use Rattle.locks.specs.declared.types.Holder.{Holder}
use Rattle.locks.specs.declared.types.LockRefusal.{LockRefusal}
use Rattle.locks.specs.declared.types.LockRefusal.TheVariants.{Malformed, PassesEnd, Conflict, NoRecord}
use Rattle.locks.specs.Outcome.{Outcome, Done, is_done}
use Rattle.locks.specs.declared.types.Locking.{Locking}
use Rattle.locks.proofs.Lent.{held-front}
use Rattle.locks.proofs.Granted.{granted-all}
use Rattle.locks.proofs.Holding.{blocked-at}

-- ---- what comes of the locks, after the unlocks

module _ (file : ℕ → ℕ) (fid : ℕ) (shared : Bool) (rs : List LockRange) (list : List Lock) where
  -- a lock that passes 2^64
  pub locks-pass : true ≡ any range_passes rs → after_releases file fid shared rs (Some list) ≡ refused PassesEnd
  unfolding after_releases
  locks-pass g = rw (← g)

  module _ (within : false ≡ any range_passes rs) where
    -- a lock in the way
    pub locks-conflict : {place : ℕ} {h : Holder} → Some place ≡ blocked_at (grant_all file fid shared rs list)
        → h ≡ holder_at (list ++ map (lock_of fid shared) rs) place → after_releases file fid shared rs (Some list) ≡ refused (Conflict h)
    unfolding after_releases after_grants
    locks-conflict {place} {h} g e = rw (← within, blocked-at file fid shared rs list place g, ← e)

    module _ (free : None ≡ blocked_at (grant_all file fid shared rs list)) (held wanted : ℕ) (h : held ≡ length list) (k : length rs ≡ wanted) where
      -- the list with all locks granted
      abbrev pub whole : List Lock
      whole = list ++ map (lock_of fid shared) rs

      -- how many they are
      pub length_whole : length whole ≡ held + wanted
      length_whole = rw (length-append, length-map, k, h)

      -- more locks than there are records
      pub locks-full : 128 < held + wanted → after_releases file fid shared rs (Some list) ≡ refused NoRecord
      unfolding after_releases after_grants
      locks-full g =
          let over : 128 < length whole = rw length_whole g in
          rw (← within, granted-all file fid shared rs list free, lt-leb (length whole) 128 over)

      -- all granted
      pub locks-granted : held + wanted ≤ 128 → after_releases file fid shared rs (Some list) ≡ done whole
      unfolding after_releases after_grants
      locks-granted g =
          let room : length whole ≤ 128 = rw length_whole g in
          rw (← within, granted-all file fid shared rs list free, le-leb (length whole) 128 room)

-- ---- what is left in the words

module _ (w : List ℕ) where
  -- a refusal that changed nothing
  pub settles-refused : (r : Result) (why : LockRefusal) → r ≡ refused why → Settles w w (Err why) (settle (lock_array w) (word w 0) r)
  unfolding settle
  settles-refused r why e = rw e (record { outcome = refl; locks = refl; count = refl; stands = λ _. refl })

  -- the list that a request leaves
  pub settles-done : (v : List ℕ) (r : Result) (list : List Lock) → r ≡ done list
      → lock_array v ≡ stored no_lock (lock_array w) (length (locks_in w)) list → word v 0 ≡ length list
      → Settles w v Done (settle (lock_array w) (word w 0) r)
  unfolding settle
  settles-done v r list e a n = rw e (record { outcome = refl; locks = a; count = n; stands = λ no. absurd (false≢true (sym no)) })

  -- a request tried and done
  pub settles-tried : {v : List ℕ} {why : Outcome} {l : Locking} → is_done why ≡ true → Tried v why l → Settles w v why l
  settles-tried {why = why} d t =
      record { outcome = t.outcome; locks = t.locks d; count = t.count d; stands = λ e. absurd (not-decided-twice (is_done why) d e) }

  -- one tried and refused, the words brought back
  pub settles-back : {v : List ℕ} {why : Outcome} (r : Result) → is_done why ≡ false → Tried v why (settle (lock_array w) (word w 0) r)
      → Settles w w why (settle (lock_array w) (word w 0) r)
  unfolding settle
  settles-back {why = why} (done list) d t = absurd (not-decided-twice (is_done why) (ap is_done t.outcome) d)
  settles-back (refused x) d t = record { outcome = t.outcome; locks = refl; count = refl; stands = λ _. refl }

-- ---- after the unlocks

-- the words v hold what is left of the list in w: what comes of the locks there comes of them in w
retold : (w : List ℕ) {v u : List ℕ} {why : Outcome} (r : Result)
    → lock_array v ≡ stored no_lock (lock_array w) (length (locks_in w)) (locks_in v) → length (locks_in v) ≤ length (locks_in w)
    → Settles v u why (settle (lock_array v) (word v 0) r) → Tried u why (settle (lock_array w) (word w 0) r)
unfolding settle
retold w {v} (done list) a h s =
    record {
      outcome = s.outcome;
      locks =
          λ _.
          s.locks
          ∙ ap (λ (t : List Lock). stored no_lock t (length (locks_in v)) list) a
          ∙ stored-stored no_lock (lock_array w) (length (locks_in w)) (locks_in v) list h;
      count = λ _. s.count;
    }
retold w {why = why} (refused x) a h s =
    let not_done : is_done why ≡ false = ap is_done s.outcome in
    record {
      outcome = s.outcome;
      locks = λ e. absurd (not-decided-twice (is_done why) e not_done);
      count = λ e. absurd (not-decided-twice (is_done why) e not_done);
    }

-- the words with their count cut to the table's room
pub record Recounted (w v : List ℕ) : Type 0 where
  pub array : lock_array v ≡ lock_array w
  pub count : word v 0 ≡ length (locks_in w)

pub recounted : (w : List ℕ) (n : ℕ) → length w ≡ 641 → n ≡ length (locks_in w) → Recounted w (set w 0 n)
recounted w n long e = record { array = lock_array-count w n (omega arith); count = count_set w n (omega arith) ∙ e }

-- the same list
same-list : {w v : List ℕ} → Recounted w v → locks_in v ≡ locks_in w
same-list {w} {v} r = ap (take (word v 0)) r.array ∙ held-front w (word v 0) r.count

module _ (file : ℕ → ℕ) (fid : ℕ) (shared : Bool) (unlocks locks : List LockRange) {w z v : List ℕ} {ended : Outcome} (r : Recounted w z)
    (u : Unlocks (release_all file fid unlocks (locks_in z)) z v ended) where
  -- an unlock names no lock
  pub tried-missing : (x : List ℕ) → is_done ended ≡ false → Tried x ended (settle (lock_array w) (word w 0) (request file fid shared unlocks locks (locks_in w)))
  unfolding request after_releases settle
  tried-missing x e =
      let gone = u.missing e in
      rw (← (same-list r), gone.1)
      (record { outcome = gone.0; locks = λ d. absurd (not-decided-twice (is_done ended) d e); count = λ d. absurd (not-decided-twice (is_done ended) d e) })

  -- each names one
  pub tried-locks : {x : List ℕ} {why : Outcome} → is_done ended ≡ true
      → Settles v x why (settle (lock_array v) (word v 0) (after_releases file fid shared locks (Some (locks_in v))))
      → Tried x why (settle (lock_array w) (word w 0) (request file fid shared unlocks locks (locks_in w)))
  unfolding request
  tried-locks e s =
      let left : release_all file fid unlocks (locks_in w) ≡ Some (locks_in v) = rw (same-list r) at (u.list e) in
      let array : lock_array v ≡ stored no_lock (lock_array w) (length (locks_in w)) (locks_in v) = rw (r.array, r.count) at (u.array e) in
      let fewer = u.count e in
      let count = r.count in
      let short : length (locks_in v) ≤ length (locks_in w) = rw length-take (omega arith) in
      rw left (retold w (after_releases file fid shared locks (Some (locks_in v))) array short s)

-- ---- the request with its area

-- an area of another size than its ranges take
pub settles-malformed : (file : ℕ → ℕ) (w : List ℕ) (q : Request) (area : List ℕ)
    → (length area ≡ (q.unlocks + q.locks) * range_size q.large → ⊥) → Settles w w (Err Malformed) (locking file (lock_array w) (word w 0) q area)
unfolding locking
settles-malformed file w q area h =
    settles-refused w _ Malformed (rw (ne_eqb (length area) ((q.unlocks + q.locks) * range_size q.large) h))

-- one of their size
pub locking-sized : (file : ℕ → ℕ) (locks : List Lock) (count : ℕ) (q : Request) (area : List ℕ) → length area ≡ (q.unlocks + q.locks) * range_size q.large
    → locking file locks count q area
    ≡ settle locks count (request file q.fid q.shared (ranges_of q area 0 q.unlocks) (ranges_of q area q.unlocks q.locks) (take count locks))
unfolding locking
locking-sized file locks count q area h = rw (eq-eqb (length area) ((q.unlocks + q.locks) * range_size q.large) h)

-- without unlocks there are only the locks
pub no-unlocks : (file : ℕ → ℕ) (q : Request) (area : List ℕ) (locks : List LockRange) (list : List Lock) → q.unlocks ≡ 0
    → request file q.fid q.shared (ranges_of q area 0 q.unlocks) locks list ≡ after_releases file q.fid q.shared locks (Some list)
unfolding request release_all ranges_of ranges_at
no-unlocks file q area locks list e = rw e
