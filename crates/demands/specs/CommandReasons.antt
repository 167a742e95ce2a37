-- The status of each command and the one reason for it, in plain words (document 01, "Refusals on the wire": the codes, and "Order: as written, for the whole of each
-- command with all its ranges"; document 02, CR 3, of the core commands: "as for the counterparts"; CR 6, of OPEN_ANDX: OpenReasons.antt). A reason names the failure of those
-- before it in that order; the status is given just where its reason holds. Assumes nothing.
use Rattle.std.specs.Prelude.{◌≡◌, ◌⊎◌, ◌↔◌, ℕ, ◌+◌, ◌*◌, ◌/◌, ◌%◌, ◌^◌, ◌≤◌, ◌<◌, true, not, ◌||◌, get_or, leb, ltb, eqb, Option, Some, None}
use Rattle.std.proofs.Math.Path.{refl, ap}
use Rattle.std.proofs.Math.Logic.{inl, inr}
use native.Mathlib.Omega.{arith}
use Rattle.std.proofs.Math.Bool.{false, and-false}
use mathlib.Core.List.{List, [], ◌∷◌, map}
use Rattle.std.proofs.Math.ListN.{length}
use Rattle.std.proofs.Math.Decide.{ℕ_discrete}
use borrow.Author.Tests.{leb-true, leb-false, ltb-true, ltb-false, lt-ltb, le-ltb, eqb-true, eqb-false, eq-eqb, ne_eqb, not-true}
use Rattle.lists.specs.Walk.{any}
use Rattle.lists.specs.Truth.{both_hold, either-holds, decided, not-decided-twice}
use Rattle.records.specs.declared.Open.{Open}
use Rattle.records.specs.declared.Lock.{Lock}
use Rattle.records.specs.declared.Tables.{Tables}
use Rattle.records.specs.Change.{changes_of, with_read}
use Rattle.records.specs.Empty.{no_open}
use Rattle.records.specs.Held.{opens_of, locks_of}
use Rattle.locks.specs.Wire.{range_size, range_at, ranges_at, small_form}
use Rattle.locks.specs.Request.{of_header, Grants, granted, blocked, after_grants, after_releases, Result, settle}
use Rattle.locks.specs.declared.types.LockRange.{LockRange}
use Rattle.soundness.specs.File.{file_of}
use Rattle.soundness.specs.Sound.{sound}
use Rattle.claims.specs.HostReasons.{HasTree}
use Rattle.claims.specs.Cases.{status_in}
use Rattle.chain.specs.declared.block.LockingFields.{LockingFields}
use Rattle.chain.specs.declared.block.ReadFields.{ReadFields}
use Rattle.chain.specs.declared.block.WriteFields.{WriteFields}
use Rattle.chain.specs.declared.block.RangeFields.{RangeFields}
use Rattle.chain.specs.declared.block.Body.{Body}
use Rattle.chain.specs.declared.block.Body.TheVariants.{Locking as LockingBody, Read as ReadBody, Write as WriteBody, Close, Logoff, TreeDisconnect, ProcessExit, CoreRead as CoreReadBody, CoreWrite as CoreWriteBody, LockByteRange, UnlockByteRange, Open as OpenBody}
use Rattle.message.specs.declared.caller.Caller.{Caller}
use Rattle.message.specs.Refusal.{status, forms_of}
use Rattle.message.specs.declared.refusal.Status.{Status}
use Rattle.message.specs.Contents.{read_bytes}
use Rattle.message.specs.Command.{Given, refused, done, read, served_type, locking_end, locking_after, unless_barred, do_read, ends_past, as_core, range_by, name_asked}
use Rattle.demands.specs.LoneLock.{held_in, May, InWay, Owner, BarsLock, BarsSize, BarsRange, read-conflict as read-exact, shared_in, exclusive-way, range_back}
use Rattle.demands.specs.Admitted.{SessionHere, Admitted, NoSessionFor, NoTreeFor, NoOpenFor}
use Rattle.demands.specs.LockWords.{Released, Unnamed, PastEnd, past_is, one-past, AllGranted, OneBlocked, Granting, all-granted, one-blocked}
use Rattle.demands.specs.WritingReasons.{WritingStatus, conflicts-status, other-status}
use Rattle.demands.specs.OpenReasons.{OpenStatus}
use Rattle.demands.specs.CoreReasons.{LockStatus, UnlockStatus}

-- ---- the reasons

-- "LOGOFF and PROCESS_EXIT stop after 2/91"
pub data SessionStatus (c : Caller) (t : Tables) : Status → Type 0 where
  -- 2/91: Admitted.antt
  session-not : {n : Status} → NoSessionFor c t n → SessionStatus c t n
  session-there : SessionHere c t → SessionStatus c t (status 0 0)

-- "TREE_DISCONNECT after 2/5"
pub data TreeStatus (c : Caller) (t : Tables) : Status → Type 0 where
  -- 2/91 or 2/5: Admitted.antt
  tree-not : {n : Status} → NoTreeFor c t n → TreeStatus c t n
  tree-there : SessionHere c t → HasTree t c.tid c.uid → TreeStatus c t (status 0 0)

-- "CLOSE after 1/6"
pub data CloseStatus (c : Caller) (t : Tables) (fid : ℕ) : Status → Type 0 where
  -- 2/91, 2/5 or 1/6: Admitted.antt
  close-not : {n : Status} → NoOpenFor c t fid n → CloseStatus c t fid n
  close-done : {o : Open} → Admitted c t fid o → CloseStatus c t fid (status 0 0)

-- "an exclusive lock of another owner overlaps offset and max"
abbrev pub BarsRead : Caller → Tables → ReadFields → Open → Type 0
BarsRead c t f o = InWay t o (locks_of t) f.offset f.max (λ l. (l.shared ≡ false) × (Owner f.fid c.process l → ⊥))

-- READ: "1/5 is a read on access 1", 1/33
pub data ReadStatus (c : Caller) (t : Tables) (f : ReadFields) : Status → Type 0 where
  -- 2/91, 2/5 or 1/6: Admitted.antt
  read-not : {n : Status} → NoOpenFor c t f.fid n → ReadStatus c t f n
  read-access : {o : Open} → Admitted c t f.fid o → o.access ≡ 1 → ReadStatus c t f (status 1 5)
  read-barred : {o : Open} → Admitted c t f.fid o → (o.access ≡ 1 → ⊥) → BarsRead c t f o → ReadStatus c t f (status 1 33)
  read_done : {o : Open} → Admitted c t f.fid o → (o.access ≡ 1 → ⊥) → (BarsRead c t f o → ⊥) → ReadStatus c t f (status 0 0)

-- "any lock overlaps it save the writer's own exclusive ones"
abbrev pub BarsWrite : Caller → Tables → WriteFields → Open → Type 0
BarsWrite c t f o = InWay t o (locks_of t) f.offset f.count (λ l. (l.shared ≡ false) × Owner f.fid c.process l → ⊥)

-- WRITE: "Length 0 .. is done at any offset"
abbrev pub WriteStatus : Caller → Tables → WriteFields → Status → Type 0
WriteStatus c t f n =
    WritingStatus c t f.fid (BarsWrite c t f) ((1 ≤ f.count) × (4096 < f.offset + f.count)) ((f.count ≡ 0) ⊎ (f.offset + f.count ≤ 4096)) n

-- the core WRITE, document 02, CR 3: with count 0 it "sets the file's size to the offset (past 4,096 is 3/39)"; with any other it is a WRITE
abbrev pub SetSizeStatus : Caller → Tables → WriteFields → Status → Type 0
SetSizeStatus c t f n = WritingStatus c t f.fid (BarsSize c t f) (4096 < f.offset) (f.offset ≤ 4096) n

pub data CoreWriteStatus (c : Caller) (t : Tables) (f : WriteFields) (n : Status) : Type 0 where
  some-count : (f.count ≡ 0 → ⊥) → WriteStatus c t f n → CoreWriteStatus c t f n
  count-0 : f.count ≡ 0 → SetSizeStatus c t f n → CoreWriteStatus c t f n

-- the type's bits 0x01 and 0x10 are all of it
abbrev pub OnlyTwoBits : ℕ → Type 0
OnlyTwoBits kind = kind ≡ kind % 2 + kind / 16 % 2 * 16

-- n ranges of a request of that process, from the k-th on, each with the upper half of the process (document 02, CR 4)
abbrev pub ranges_by : ℕ → LockingFields → List ℕ → ℕ → ℕ → List LockRange
ranges_by process f area k n = map (of_header (process / 65536)) (ranges_at (eqb (f.kind / 16 % 2) 1) area k n)

-- the unlocks and the locks
abbrev pub unlocks_in : Caller → LockingFields → List ℕ → List LockRange
unlocks_in c f area = ranges_by c.process f area 0 f.unlocks

abbrev pub locks_in : Caller → LockingFields → List ℕ → List LockRange
locks_in c f area = ranges_by c.process f area f.unlocks f.locks

-- LOCKING: "2/65535 lock type bit other than 0x01 and 0x10; 1/158 no such lock to release; 1/87 lock range passes 2^64; 1/33 lock conflict; 1/8 no lock record free"
pub data LockingStatus (c : Caller) (t : Tables) (f : LockingFields) (area : List ℕ) : Status → Type 0 where
  -- 2/91, 2/5 or 1/6: Admitted.antt
  locking-not : {n : Status} → NoOpenFor c t f.fid n → LockingStatus c t f area n
  locking-type : {o : Open} → Admitted c t f.fid o → (OnlyTwoBits f.kind → ⊥) → LockingStatus c t f area (status 2 65535)
  locking-unnamed : {o : Open} → Admitted c t f.fid o → OnlyTwoBits f.kind → Unnamed f.fid (unlocks_in c f area) (locks_of t)
      → LockingStatus c t f area (status 1 158)
  locking-past : {o : Open} {left : List Lock} → Admitted c t f.fid o → OnlyTwoBits f.kind → Released f.fid (unlocks_in c f area) (locks_of t) left
      → PastEnd (locks_in c f area) → LockingStatus c t f area (status 1 87)
  locking-blocked : {o : Open} {left : List Lock} → Admitted c t f.fid o → OnlyTwoBits f.kind → Released f.fid (unlocks_in c f area) (locks_of t) left
      → (PastEnd (locks_in c f area) → ⊥) → OneBlocked t o f.fid (shared_in f) (locks_in c f area) left → LockingStatus c t f area (status 1 33)
  locking-full : {o : Open} {left last : List Lock} → Admitted c t f.fid o → OnlyTwoBits f.kind → Released f.fid (unlocks_in c f area) (locks_of t) left
      → (PastEnd (locks_in c f area) → ⊥) → AllGranted t o f.fid (shared_in f) (locks_in c f area) left last → 128 < length last
      → LockingStatus c t f area (status 1 8)
  locking-done : {o : Open} {left last : List Lock} → Admitted c t f.fid o → OnlyTwoBits f.kind → Released f.fid (unlocks_in c f area) (locks_of t) left
      → (PastEnd (locks_in c f area) → ⊥) → AllGranted t o f.fid (shared_in f) (locks_in c f area) left last → length last ≤ 128
      → LockingStatus c t f area (status 0 0)

-- of each command
unfoldable pub Reason : Caller → Tables → List ℕ → Body → Status → Type 0
Reason c t area (LockingBody f) n = LockingStatus c t f area n
Reason c t area (ReadBody f) n = ReadStatus c t f n
Reason c t area (WriteBody f) n = WriteStatus c t f n
Reason c t area (Close fid) n = CloseStatus c t fid n
Reason c t area Logoff n = SessionStatus c t n
Reason c t area TreeDisconnect n = TreeStatus c t n
Reason c t area ProcessExit n = SessionStatus c t n
Reason c t area (CoreReadBody f) n = ReadStatus c t f n
Reason c t area (CoreWriteBody f) n = CoreWriteStatus c t f n
Reason c t area (LockByteRange f) n = LockStatus c t f n
Reason c t area (UnlockByteRange f) n = UnlockStatus c t f n
Reason c t area (OpenBody f) n = OpenStatus c t f (name_asked area) n

-- ---- a write's end

past-means-space : (offset count : ℕ) → ends_past offset count ≡ true → (1 ≤ count) × (4096 < offset + count)
unfolding ends_past
past-means-space offset count e =
    let a = both_hold (not (eqb count 0)) (ltb 4096 (offset + count)) e in
    let n : count ≡ 0 → ⊥ = eqb-false count 0 (not-true (eqb count 0) a.0) in
    (positive count n, ltb-true 4096 (offset + count) a.1)
  where
    positive : (k : ℕ) → (k ≡ 0 → ⊥) → 1 ≤ k
    positive k h = elim (decided (leb 1 k)) [ inl b ↦ leb-true 1 k b | inr b ↦ let z : k < 1 = leb-false 1 k b in absurd (h (omega arith)) ]

space-is-past : (offset count : ℕ) → 1 ≤ count → 4096 < offset + count → ends_past offset count ≡ true
unfolding ends_past
space-is-past offset count h k = rw (ne_eqb count 0 (λ e. omega arith), lt-ltb 4096 (offset + count) k)

inside-means : (offset count : ℕ) → ends_past offset count ≡ false → (count ≡ 0) ⊎ (offset + count ≤ 4096)
unfolding ends_past
inside-means offset count e =
    elim (decided (eqb count 0)) [
      | inl z ↦ inl (eqb-true count 0 z)
      | inr z ↦ let f : ltb 4096 (offset + count) ≡ false = rw z at e in inr (ltb-false 4096 (offset + count) f)
    ]

inside_is : (offset count : ℕ) → (count ≡ 0) ⊎ (offset + count ≤ 4096) → ends_past offset count ≡ false
unfolding ends_past
inside_is offset count (inl z) = rw (eq-eqb count 0 z)
inside_is offset count (inr h) = rw (le-ltb 4096 (offset + count) h) (and-false (not (eqb count 0)))

-- ---- the type's bits

pub served-means : (kind : ℕ) → served_type kind ≡ true → OnlyTwoBits kind
unfolding served_type
served-means kind e =
    elim (either-holds (eqb kind 0) (eqb kind 1 || (eqb kind 16 || eqb kind 17)) e) [
      | inl a ↦ rw (eqb-true kind 0 a)
      | inr b ↦ elim (either-holds (eqb kind 1) (eqb kind 16 || eqb kind 17) b) [
        | inl a ↦ rw (eqb-true kind 1 a)
        | inr d ↦ elim (either-holds (eqb kind 16) (eqb kind 17) d) [
          | inl a ↦ rw (eqb-true kind 16 a)
          | inr a ↦ rw (eqb-true kind 17 a)
        ]
      ]
    ]

pub served-is : (kind : ℕ) → OnlyTwoBits kind → served_type kind ≡ true
unfolding served_type
served-is kind h =
    elim (ℕ_discrete (kind % 2) 0) [
      | yes a ↦ elim (ℕ_discrete (kind / 16 % 2) 0) [
        | yes b ↦ let k : kind ≡ 0 = omega arith in rw k
        | no b ↦ let d : kind / 16 % 2 ≡ 1 = one_of (kind / 16) b in let k : kind ≡ 16 = omega arith in rw k
      ]
      | no a ↦
          let z : kind % 2 ≡ 1 = one_of kind a in
          elim (ℕ_discrete (kind / 16 % 2) 0) [
            | yes b ↦ let k : kind ≡ 1 = omega arith in rw k
            | no b ↦ let d : kind / 16 % 2 ≡ 1 = one_of (kind / 16) b in let k : kind ≡ 17 = omega arith in rw k
          ]
    ]
  where
    one_of : (n : ℕ) → (n % 2 ≡ 0 → ⊥) → n % 2 ≡ 1
    one_of n g = elim (ℕ_discrete (n % 2) 1) [ yes e ↦ e | no e ↦ absurd (g (omega arith)) ]

-- "lock type bit other than 0x01 and 0x10": the test is just that
pub served-exact : (kind : ℕ) → (served_type kind ≡ true) ↔ OnlyTwoBits kind
served-exact kind = (served-means kind, served-is kind)

-- ---- READ

module _ (c : Caller) (t : Tables) (memory : List ℕ) (ok : sound t ≡ true) where
  module _ (f : ReadFields) (k : ℕ) (may : May c t f.fid k) where
    abbrev pub read-open : Open
    read-open = get_or (opens_of t) k no_open

    abbrev pub read-end : Given
    read-end = done (with_read t f.fid (changes_of t read-open.file)) memory (read (read_bytes t memory read-open.file f.offset f.max))

    module _ (e : eqb read-open.access 1 ≡ false) where
      -- a lock is in the way, or the read is done
      pub read-ends : (x : Option ℕ) → do_read c t memory f ≡ unless_barred t x read-end → (BarsRead c t f read-open × (status_in (do_read c t memory f) ≡ status 1 33))
          ⊎ ((BarsRead c t f read-open → ⊥) × (status_in (do_read c t memory f) ≡ status 0 0))
      unfolding unless_barred status_in held_in status
      read-ends (Some j) g = inl ((read-exact c t memory k ok f may e).0 (_, ap held_in g), conflicts-status (do_read c t memory f) (_, ap held_in g))
      read-ends None g =
          inr (λ w. other-status (do_read c t memory f) (read-other g) ((read-exact c t memory k ok f may e).1 w), ap status_in g)
        where
          read-other : do_read c t memory f ≡ read-end → (status_in (do_read c t memory f)).code ≡ 33 → ⊥
          read-other g q = let z : (status_in (do_read c t memory f)).code ≡ 0 = ap (λ (x : Given). (status_in x).code) g in omega arith

  -- ---- WRITE

  module _ (f : WriteFields) (bytes : List ℕ) where
    pub write-passes : (ends_past f.offset f.count ≡ true) ↔ ((1 ≤ f.count) × (4096 < f.offset + f.count))
    write-passes = (past-means-space f.offset f.count, λ h. space-is-past f.offset f.count h.0 h.1)

    pub write-fits : (ends_past f.offset f.count ≡ false) ↔ ((f.count ≡ 0) ⊎ (f.offset + f.count ≤ 4096))
    write-fits = (inside-means f.offset f.count, inside_is f.offset f.count)

  -- ---- LOCKING

  -- the status of a request's result
  abbrev pub ends : Result → Status
  ends r = status_in (locking_after t memory (settle t.locks t.nlocks r))

  module _ (f : LockingFields) (area : List ℕ) (announced : length area ≡ (f.unlocks + f.locks) * range_size (eqb (f.kind / 16 % 2) 1)) where
    abbrev pub file-of : ℕ → ℕ
    file-of n = file_of (opens_of t) n

    -- the request, with what its unlocks give
    abbrev pub after-unlocks : Option (List Lock) → Status
    after-unlocks x = ends (after_releases file-of f.fid (shared_in f) (locks_in c f area) x)

    module _ {o : Open} (a : Admitted c t f.fid o) (bits : OnlyTwoBits f.kind) where
      pub grants-reason : {left : List Lock} → Released f.fid (unlocks_in c f area) (locks_of t) left → (PastEnd (locks_in c f area) → ⊥)
          → (x : Grants) → Granting t o f.fid (shared_in f) (locks_in c f area) left x → LockingStatus c t f area (ends (after_grants x))
      unfolding after_grants settle locking_after locking_end status_in forms_of
      grants-reason r low (granted last) (all-granted g) =
          elim (decided (leb (length last) 128)) [
            | inl e ↦ rw e (locking-done a bits r low g (leb-true (length last) 128 e))
            | inr e ↦ rw e (locking-full a bits r low g (leb-false (length last) 128 e))
          ]
      grants-reason r low (blocked h) (one-blocked b) = locking-blocked a bits r low b

  -- ---- the others

  -- ---- the core commands

  -- another reply block, and no other refusal
  pub core-status : (g : Given) → status_in (as_core g) ≡ status_in g
  unfolding as_core status_in
  core-status (refused why) = refl
  core-status (done u m said) = refl

  -- the core WRITE

  -- LOCK_BYTE_RANGE and UNLOCK_BYTE_RANGE: the LOCKING of one range, of a served type and within 2^64
  module _ (f : RangeFields) where
    abbrev pub its-area : List ℕ
    its-area = small_form (range_by c f)

    abbrev pub its-range : LockRange
    its-range = of_header (c.process / 65536) (range_at false its-area 0)

    pub not-past : PastEnd (its-range ∷ []) → ⊥
    not-past w = let past : 2 ^ 64 < f.offset % 4294967296 + f.length % 4294967296 = rw (range_back c f) at (one-past its-range w) in omega arith

    pub bars-exact : {o : Open} → BarsLock t o (locks_of t) false its-range ↔ BarsRange c t f o
    bars-exact = (λ w. exclusive-way.0 (rw (range_back c f) at w), λ w. rw (range_back c f) (exclusive-way.1 w))

    pub none-past : PastEnd [] → ⊥
    unfolding any
    none-past w = not-decided-twice false (past_is [] w) refl

    pub announced : length its-area ≡ 1 * range_size false
    unfolding small_form range_size
    announced = refl

-- ---- all twelve

-- a LOCKING block's byte area is just the announced ranges, as it is in every block of a reading
unfoldable pub Announced : Body → List ℕ → Type 0
Announced b area = (f : LockingFields) → b ≡ LockingBody f → length area ≡ (f.unlocks + f.locks) * range_size (eqb (f.kind / 16 % 2) 1)
