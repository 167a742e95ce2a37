-- Document 02, CR 3: "Prove once that a core command and its counterpart with equal fields change the same things, count 0 excepted." The four pairs are one list,
-- and of each what the core command gives is what its counterpart gives, said in its own reply block. Of two messages: CorePairCalls.antt. Assumes nothing.
use Rattle.std.specs.Prelude.{◌≡◌, ◌↔◌, ℕ, ◌+◌, ◌*◌, ◌/◌, ◌%◌, Bool, true, false, List, [], ◌∷◌, take, drop, get_or, eqb, Option, None, Some, Ok, Err}
use Rattle.std.proofs.Math.Path.{refl, ap}
use Rattle.std.proofs.Common.{sym, ◌∙◌}
use native.Mathlib.Omega.{arith}
use Rattle.std.proofs.Math.ListN.{length}
use borrow.Author.Tests.{eq-eqb, ne_eqb}
use Rattle.records.specs.declared.Lock.{Lock}
use Rattle.records.specs.declared.Tables.{Tables}
use Rattle.records.specs.Empty.{no_open}
use Rattle.records.specs.Held.{opens_of}
use Rattle.locks.specs.Wire.{range_size, range_at, ranges_at, small_form, small-back}
use Rattle.locks.specs.Request.{of_header, ranges_of, grant_all, after_releases, request, settle, locking}
use Rattle.locks.specs.declared.types.LockRange.{LockRange}
use Rattle.locks.specs.declared.types.Locking.{Locking}
use Rattle.locks.specs.Outcome.{Outcome}
use Rattle.locks.specs.declared.types.LockRefusal.TheVariants.{Malformed as BadRanges, NoSuchLock as NoLock, PassesEnd as PastEnd, Conflict as InWay, NoRecord as NoRoom}
use Rattle.soundness.specs.File.{file_of}
use Rattle.chain.specs.declared.block.LockingFields.{LockingFields}
use Rattle.chain.specs.declared.block.ReadFields.{ReadFields}
use Rattle.chain.specs.declared.block.WriteFields.{WriteFields}
use Rattle.chain.specs.declared.block.RangeFields.{RangeFields}
use Rattle.chain.specs.declared.block.Body.{Body}
use Rattle.chain.specs.declared.block.Body.TheVariants.{Locking as LockingBody, Read as ReadBody, Write as WriteBody, CoreRead as CoreReadBody, CoreWrite as CoreWriteBody, LockByteRange, UnlockByteRange}
use Rattle.message.specs.declared.caller.Caller.{Caller}
use Rattle.message.specs.declared.refusal.Refusal.{Refusal}
use Rattle.message.specs.declared.refusal.Refusal.TheVariants.{NoAccess, LockType}
use Rattle.message.specs.Command.{Said, locked, read, wrote, plain, core_read, core_wrote, Given, refused, done, with_open, served_type, request_of, locking_end, locking_after, do_locking, do_read, ends_past, do_write, core_said, as_core, range_by, one_range, do_range, do_core_write, perform}
use Rattle.message.specs.Given.{tables_after, memory_after}
use Rattle.invariants.specs.GivenCases.{cond-case, open-case, barred-case, writing-case}
use Rattle.demands.specs.CommandReasons.{OnlyTwoBits, served-exact}

-- ---- the pairs

-- a LOCKING's byte area is just one range, in its form: offset and length are a core block's, which have 32 bits; "the process from the header", of which a range has
-- the lower half
pub record JustRange (c : Caller) (f : RangeFields) (large : Bool) (area : List ℕ) : Type 0 where
  pub no_more : length area ≡ range_size large
  pub of-process : (range_at large area 0).process ≡ c.process % 65536
  pub of-offset : (range_at large area 0).offset ≡ f.offset % 4294967296
  pub of_length : (range_at large area 0).length ≡ f.length % 4294967296

-- a core command with its byte area, and its counterpart with its byte area and its data, of one sender
pub data Pair (c : Caller) : Body → List ℕ → Body → List ℕ → List ℕ → Type 0 where
  -- READ: FID, offset and count
  read-pair : {f : ReadFields} {area area' bytes' : List ℕ} → Pair c (CoreReadBody f) area (ReadBody f) area' bytes'
  -- WRITE: FID, offset, count and data; "count 0 excepted". A core block's data stand behind the mark and the length of its data block.
  write-pair : {f g : WriteFields} {area area' bytes' : List ℕ} → g.fid ≡ f.fid → g.offset ≡ f.offset → g.count ≡ f.count → (f.count ≡ 0 → ⊥) → bytes' ≡ drop 3 area
      → Pair c (CoreWriteBody f) area (WriteBody g) area' bytes'
  -- LOCK_BYTE_RANGE: "the lock is exclusive"; the LOCKING locks that one range and unlocks none, in either form
  lock-pair : {f : RangeFields} {g : LockingFields} {area area' bytes' : List ℕ} → g.fid ≡ f.fid → OnlyTwoBits g.kind → g.kind % 2 ≡ 0 → g.unlocks ≡ 0 → g.locks ≡ 1
      → JustRange c f (eqb (g.kind / 16 % 2) 1) area' → Pair c (LockByteRange f) area (LockingBody g) area' bytes'
  -- UNLOCK_BYTE_RANGE: the LOCKING unlocks that one range and locks none, of any type served
  unlock-pair : {f : RangeFields} {g : LockingFields} {area area' bytes' : List ℕ} → g.fid ≡ f.fid → OnlyTwoBits g.kind → g.unlocks ≡ 1 → g.locks ≡ 0
      → JustRange c f (eqb (g.kind / 16 % 2) 1) area' → Pair c (UnlockByteRange f) area (LockingBody g) area' bytes'

-- ---- one range

-- the range that is asked for: of the sender's whole process
abbrev pub asked : Caller → RangeFields → LockRange
asked c f = record { process = 65536 * (c.process / 65536) + c.process % 65536; offset = f.offset % 4294967296; length = f.length % 4294967296 }

module _ (c : Caller) (f : RangeFields) where
  -- the core block's own range
  small_one : JustRange c f false (small_form (range_by c f))
  unfolding small_form range_size range_by
  small_one =
      let e = small-back (range_by c f) in
      record { no_more = refl; of-process = ap (λ (r : LockRange). r.process) e; of-offset = ap (λ (r : LockRange). r.offset) e; of_length = ap (λ (r : LockRange). r.length) e }

  module _ (t : Tables) (memory : List ℕ) where
    -- what a LOCKING that is served gives, with these unlocks and locks
    abbrev pub locking_gives : ℕ → Bool → List LockRange → List LockRange → Given
    locking_gives fid shared unlocks locks =
        with_open c t fid (λ o. locking_after t memory (settle t.locks t.nlocks (request (file_of (opens_of t)) fid shared unlocks locks (take t.nlocks t.locks))))

    -- one exclusive lock
    one-lock : (g : LockingFields) (area : List ℕ) → served_type g.kind ≡ true → eqb (g.kind % 2) 1 ≡ false → g.unlocks ≡ 0 → g.locks ≡ 1
        → JustRange c f (eqb (g.kind / 16 % 2) 1) area → do_locking c t memory g area ≡ locking_gives g.fid false [] (asked c f ∷ [])
    unfolding do_locking locking request_of ranges_of ranges_at of_header
    one-lock g area served exclusive u l one =
        let n : length area ≡ (0 + 1) * range_size (eqb (g.kind / 16 % 2) 1) = one.no_more ∙ omega arith in
        rw (served, exclusive, u, l, eq-eqb (length area) ((0 + 1) * range_size (eqb (g.kind / 16 % 2) 1)) n, one.of-process, one.of-offset, one.of_length)

    -- nothing to lock: whether it would be shared does not count
    no-locks : (file : ℕ → ℕ) (fid : ℕ) (shared : Bool) (o : Option (List Lock)) → after_releases file fid shared [] o ≡ after_releases file fid false [] o
    unfolding after_releases grant_all
    no-locks file fid shared None = refl
    no-locks file fid shared (Some list) = refl

    one-unlock : (g : LockingFields) (area : List ℕ) → served_type g.kind ≡ true → g.unlocks ≡ 1 → g.locks ≡ 0
        → JustRange c f (eqb (g.kind / 16 % 2) 1) area → do_locking c t memory g area ≡ locking_gives g.fid false (asked c f ∷ []) []
    unfolding do_locking locking request_of ranges_of ranges_at of_header request
    one-unlock g area served u l one =
        let n : length area ≡ (1 + 0) * range_size (eqb (g.kind / 16 % 2) 1) = one.no_more ∙ omega arith in
        rw (served, u, l, eq-eqb (length area) ((1 + 0) * range_size (eqb (g.kind / 16 % 2) 1)) n, one.of-process, one.of-offset, one.of_length, no-locks _ _ (eqb (g.kind % 2) 1) _)

-- ---- the theorem

-- what a core command gives is what its counterpart gives, on the same tables and file memory, in its own reply block: refused with the same refusal, or done with
-- the same tables and file memory
pub pair-gives : {c : Caller} {core other : Body} {area area' bytes' : List ℕ} → Pair c core area other area' bytes' → (t : Tables) (memory bytes : List ℕ)
    → perform c t memory core area bytes ≡ as_core (perform c t memory other area' bytes')
unfolding perform do_core_write do_write do_range one_range served_type
pair-gives read-pair t memory bytes = refl
pair-gives (write-pair {f} fid offset count counts same) t memory bytes = rw (fid, offset, count, same, ne_eqb f.count 0 counts)
pair-gives {c} (lock-pair {f} {g} {area' = area'} fid bits exclusive u l one) t memory bytes =
    let s = (served-exact g.kind).1 bits in
    ap as_core (one-lock c f t memory (one_range f 0 1) (small_form (range_by c f)) refl refl refl refl (small_one c f)
    ∙ rw (← fid) (sym (one-lock c f t memory g area' s (ne_eqb (g.kind % 2) 1 (λ e. omega arith)) u l one)))
pair-gives {c} (unlock-pair {f} {g} {area' = area'} fid bits u l one) t memory bytes =
    let s = (served-exact g.kind).1 bits in
    ap as_core (one-unlock c f t memory (one_range f 1 0) (small_form (range_by c f)) refl refl refl (small_one c f)
    ∙ rw (← fid) (sym (one-unlock c f t memory g area' s u l one)))

-- ---- in words

-- what the two say where they are done: the same bytes, the same count, or only that it is done
pub data SaidAlike : Said → Said → Type 0 where
  same_bytes : (bytes : List ℕ) → SaidAlike (core_read bytes) (read bytes)
  same_count : (count : ℕ) → SaidAlike (core_wrote count) (wrote count)
  both-done : SaidAlike plain locked

-- the two are refused for the same, so with the same status and the same holder, or done and leave the same tables and the same file memory
pub data Alike : Given → Given → Type 0 where
  refused-alike : (why : Refusal) → Alike (refused why) (refused why)
  done-alike : {t : Tables} {memory : List ℕ} {said said' : Said} → SaidAlike said said' → Alike (done t memory said) (done t memory said')

-- a counterpart says one of these
pub data Speaks : Given → Type 0 where
  says-refused : {why : Refusal} → Speaks (refused why)
  says-read : {t : Tables} {memory bytes : List ℕ} → Speaks (done t memory (read bytes))
  says-wrote : {t : Tables} {memory : List ℕ} {count : ℕ} → Speaks (done t memory (wrote count))
  says-locked : {t : Tables} {memory : List ℕ} → Speaks (done t memory locked)

pub speaks-alike : {g : Given} → Speaks g → Alike (as_core g) g
unfolding as_core core_said
speaks-alike (says-refused {why}) = refused-alike why
speaks-alike (says-read {bytes = bytes}) = done-alike (same_bytes bytes)
speaks-alike (says-wrote {count = count}) = done-alike (same_count count)
speaks-alike says-locked = done-alike both-done

-- a LOCKING says no more than that it is done
pub data LockingSays : Given → Type 0 where
  locking-refused : {why : Refusal} → LockingSays (refused why)
  locking-done : {t : Tables} {memory : List ℕ} → LockingSays (done t memory locked)

locking-speaks : {g : Given} → LockingSays g → Speaks g
locking-speaks locking-refused = says-refused
locking-speaks locking-done = says-locked

ending-says : (o : Outcome) (t : Tables) (memory : List ℕ) (l : Locking) → LockingSays (locking_end o t memory l)
unfolding locking_end
ending-says (Ok _) t memory l = locking-done
ending-says (Err BadRanges) t memory l = locking-refused
ending-says (Err NoLock) t memory l = locking-refused
ending-says (Err PastEnd) t memory l = locking-refused
ending-says (Err (InWay h)) t memory l = locking-refused
ending-says (Err NoRoom) t memory l = locking-refused

module _ (c : Caller) (t : Tables) (memory : List ℕ) where
  pub locking-says : (f : LockingFields) (area : List ℕ) → LockingSays (do_locking c t memory f area)
  unfolding do_locking locking_after
  locking-says f area =
      open-case LockingSays c t f.fid _ locking-refused locking-refused locking-refused
      (λ k _. cond-case LockingSays (served_type f.kind) _ (refused LockType) (λ _. ending-says _ t memory _) (λ _. locking-refused))

  read-speaks : (f : ReadFields) → Speaks (do_read c t memory f)
  unfolding do_read
  read-speaks f =
      open-case Speaks c t f.fid _ says-refused says-refused says-refused
      (λ k _. cond-case Speaks (eqb (get_or (opens_of t) k no_open).access 1) (refused NoAccess) _ (λ _. says-refused)
      (λ _. barred-case Speaks t _ _ (λ h. says-refused) (λ _. says-read)))

  write-speaks : (f : WriteFields) (bytes : List ℕ) → Speaks (do_write c t memory f bytes)
  unfolding do_write
  write-speaks f bytes =
      writing-case Speaks c t f.fid _ (ends_past f.offset f.count) _ says-refused says-refused says-refused says-refused (λ h. says-refused) says-refused
      (λ k _ _. says-wrote)

pub other-speaks : {c : Caller} {core other : Body} {area area' bytes' : List ℕ} → Pair c core area other area' bytes' → (t : Tables) (memory : List ℕ)
    → Speaks (perform c t memory other area' bytes')
unfolding perform
other-speaks {c} (read-pair {f}) t memory = read-speaks c t memory f
other-speaks {c} {bytes' = bytes'} (write-pair {g = g} fid offset count counts same) t memory = write-speaks c t memory g bytes'
other-speaks {c} {area' = area'} (lock-pair {g = g} fid bits exclusive u l one) t memory = locking-speaks (locking-says c t memory g area')
other-speaks {c} {area' = area'} (unlock-pair {g = g} fid bits u l one) t memory = locking-speaks (locking-says c t memory g area')

-- so tables and file memory are the same afterwards
pub alike-tables : {core other : Given} → Alike core other → (t : Tables) → tables_after core t ≡ tables_after other t
unfolding tables_after
alike-tables (refused-alike why) t = refl
alike-tables (done-alike says) t = refl

pub alike-memory : {core other : Given} → Alike core other → (memory : List ℕ) → memory_after core memory ≡ memory_after other memory
unfolding memory_after
alike-memory (refused-alike why) memory = refl
alike-memory (done-alike says) memory = refl

-- the one is refused exactly if the other is, and for the same
pub alike-refused : {core other : Given} → Alike core other → (why : Refusal) → (core ≡ refused why) ↔ (other ≡ refused why)
alike-refused (refused-alike first) why = (λ e. e, λ e. e)
alike-refused (done-alike says) why = (λ e. let z : ◌≡◌ {A = ℕ} 0 1 = cc in absurd (omega arith), λ e. let z : ◌≡◌ {A = ℕ} 0 1 = cc in absurd (omega arith))
