-- What a LOCKING that is done leaves, in plain words (document 01, "Locks, reads and writes": "Unlocks go first, in order: each removes the earliest listed lock
-- with equal FID, process, offset and length. Then locks in order, each against the list as it stands"), and a LOCK_BYTE_RANGE and an UNLOCK_BYTE_RANGE
-- (document 02, CR 3), said of the command. Assumes nothing.
use Rattle.std.specs.Prelude.{◌≡◌, ℕ, ◌%◌, ◌≤◌, ◌<◌, Bool, true, false, cond, List, [], ◌∷◌, ◌++◌}
use Rattle.std.proofs.Math.Path.{ap}
use Rattle.std.proofs.Common.{◌∙◌}
use Rattle.std.proofs.Math.ListN.{length}
use Rattle.records.specs.declared.Open.{Open}
use Rattle.records.specs.declared.Lock.{Lock}
use Rattle.records.specs.declared.Tables.{Tables}
use Rattle.records.specs.Held.{opens_of, locks_of, with_locks}
use Rattle.locks.specs.Request.{Result, settle}
use Rattle.soundness.specs.File.{file_of}
use Rattle.soundness.specs.Sound.{sound}
use Rattle.invariants.specs.Shaped.{locks-with}
use Rattle.chain.specs.declared.block.LockingFields.{LockingFields}
use Rattle.chain.specs.declared.block.RangeFields.{RangeFields}
use Rattle.message.specs.declared.caller.Caller.{Caller}
use Rattle.message.specs.declared.refusal.Refusal.{Refusal}
use Rattle.message.specs.Command.{Given, Said, locked, plain, refused, done, with_lock_list, locking_after}
use Rattle.demands.specs.Admitted.{Admitted}
use Rattle.demands.specs.LockWords.{never, TakenOut, Released, AllGranted}
use Rattle.demands.specs.LoneLock.{core_range, BarsRange, shared_in}
use Rattle.demands.specs.CommandReasons.{unlocks_in, locks_in}

-- the tables and the file memory after a LOCKING of the open o that is done, and what it says
pub record LocksLeft (c : Caller) (t : Tables) (memory : List ℕ) (f : LockingFields) (area : List ℕ) (o : Open) (after : Tables) (left-memory : List ℕ) (said : Said) : Type 0 where
  -- "Unlocks go first, in order": what they leave of the list
  pub left : List Lock
  pub unlocked : Released f.fid (unlocks_in c f area) (locks_of t) left
  -- "Then locks in order, each against the list as it stands": what stands there then
  pub last : List Lock
  pub all-locked : AllGranted t o f.fid (shared_in f) (locks_in c f area) left last
  -- "1/8 exactly if over 128 would then be held": these are not over
  pub not-over : length last ≤ 128
  -- these are the locks held, "in order of grant"
  pub held : locks_of after ≡ last
  -- every other table is as before
  pub other-tables : after ≡ with_lock_list t after.locks after.nlocks
  -- records given up are empty, and those behind both lists as before: the tables to the last record
  pub whole : after ≡ with_locks t last
  -- no file byte is changed, and the reply block says nothing but that it is done
  pub same_memory : left-memory ≡ memory
  pub says : said ≡ locked

-- a command that is done was not refused on the way
pub test-passed : (b : Bool) (why : Refusal) (g : Given) {u : Tables} {m : List ℕ} {said : Said} → cond b g (refused why) ≡ done u m said → g ≡ done u m said
test-passed true why g e = e
test-passed false why g e = never cc

-- the file of a FID
abbrev pub file-of : Tables → ℕ → ℕ
file-of t n = file_of (opens_of t) n

-- what a request's result comes to
abbrev pub ends : Tables → List ℕ → Result → Given
ends t memory r = locking_after t memory (settle t.locks t.nlocks r)

module _ (c : Caller) (t : Tables) (memory : List ℕ) (ok : sound t ≡ true) {u : Tables} {m : List ℕ} {said : Said} (f : LockingFields) (area : List ℕ) (o : Open)
    (a : Admitted c t f.fid o) where
  -- the list that is left stands in the tables, and nothing else is changed
  pub list_left : {left last : List Lock} → Released f.fid (unlocks_in c f area) (locks_of t) left → AllGranted t o f.fid (shared_in f) (locks_in c f area) left last → length last ≤ 128
      → done (with_locks t last) memory locked ≡ done u m said → LocksLeft c t memory f area o u m said
  unfolding with_lock_list with_locks
  list_left {left} {last} r g low e =
      let w : u ≡ with_locks t last = cc in
      let n : m ≡ memory = cc in
      let s : said ≡ locked = cc in
      record {
        left = left;
        unlocked = r;
        last = last;
        all-locked = g;
        not-over = low;
        held = ap locks_of w ∙ locks-with t last;
        other-tables = rw w;
        whole = w;
        same_memory = n;
        says = s;
      }

-- ---- the core commands (document 02, CR 3): "the rules of their AndX counterparts, the process from the header; the lock is exclusive"

-- the lock of a LOCK_BYTE_RANGE
abbrev pub core_lock : Caller → RangeFields → Lock
core_lock c f = record { fid = f.fid; process = c.process; offset = f.offset % 4294967296; length = f.length % 4294967296; shared = false }

-- the tables and the file memory after one through the open o that is done, and what it says
pub record RangeLocked (c : Caller) (t : Tables) (memory : List ℕ) (f : RangeFields) (o : Open) (after : Tables) (left : List ℕ) (said : Said) : Type 0 where
  -- no listed lock was in its way, and there was a record for it
  pub free : BarsRange c t f o → ⊥
  pub not-over : length (locks_of t) < 128
  -- it stands behind the others; every other table is as before, to the last record
  pub held : locks_of after ≡ locks_of t ++ (core_lock c f ∷ [])
  pub other-tables : after ≡ with_lock_list t after.locks after.nlocks
  pub whole : after ≡ with_locks t (locks_of t ++ (core_lock c f ∷ []))
  -- no file byte is changed, and the reply block says nothing but that it is done
  pub same_memory : left ≡ memory
  pub says : said ≡ plain

-- and after an UNLOCK_BYTE_RANGE
pub record RangeUnlocked (c : Caller) (t : Tables) (memory : List ℕ) (f : RangeFields) (after : Tables) (left : List ℕ) (said : Said) : Type 0 where
  -- the earliest listed lock "with equal FID, process, offset and length" is taken out
  pub unlocked : TakenOut f.fid (core_range c f) (locks_of t) (locks_of after)
  pub other-tables : after ≡ with_lock_list t after.locks after.nlocks
  pub whole : after ≡ with_locks t (locks_of after)
  pub same_memory : left ≡ memory
  pub says : said ≡ plain
