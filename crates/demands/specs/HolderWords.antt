-- Who holds the lock, in plain words (document 02, CR 2: "the place of the first conflicting lock in the list as it then stands", for "Locks, reads and writes"; CR 3 for the
-- core commands). What is in the way is said as for the refusal itself (LoneLock.antt, CommandReasons.antt). Assumes nothing.
use Rattle.std.specs.Prelude.{◌≡◌, ℕ, ◌+◌, ◌/◌, ◌%◌, ◌<◌, Bool, true, false, List, map, length, take, get_or, eqb}
use Rattle.records.specs.declared.Open.{Open}
use Rattle.records.specs.declared.Lock.{Lock}
use Rattle.records.specs.declared.Tables.{Tables}
use Rattle.records.specs.Empty.{no_lock}
use Rattle.records.specs.Held.{locks_of}
use Rattle.locks.specs.Range.{Overlap}
use Rattle.locks.specs.Wire.{range_at, ranges_at}
use Rattle.locks.specs.Request.{of_header}
use Rattle.locks.specs.declared.types.Holder.{Holder}
use Rattle.chain.specs.declared.block.LockingFields.{LockingFields}
use Rattle.chain.specs.declared.block.ReadFields.{ReadFields}
use Rattle.chain.specs.declared.block.WriteFields.{WriteFields}
use Rattle.chain.specs.declared.block.RangeFields.{RangeFields}
use Rattle.chain.specs.declared.block.Body.{Body}
use Rattle.chain.specs.declared.block.Body.TheVariants.{Locking as LockingBody, Read as ReadBody, Write as WriteBody, Close, Logoff, TreeDisconnect, ProcessExit, CoreRead as CoreReadBody, CoreWrite as CoreWriteBody, LockByteRange, UnlockByteRange, Open as OpenBody}
use Rattle.message.specs.declared.caller.Caller.{Caller}
use Rattle.demands.specs.LoneLock.{OfFile, Owner, InWay, lower_size, sizes_apart, AnyLock, core_range, shared_in}
use Rattle.demands.specs.Admitted.{Admitted}
use Rattle.demands.specs.LockWords.{Released, PastEnd, AllGranted}
use Rattle.demands.specs.CommandReasons.{OnlyTwoBits, unlocks_in, locks_in}

-- ---- the plain words

-- the holder stands at its place of the list and is in the way: of the open's file, overlapping the range, clashing with what is asked. None before it is.
pub record FirstInWay (t : Tables) (o : Open) (list : List Lock) (offset size : ℕ) (Clash : Lock → Type 0) (h : Holder) : Type 0 where
  pub in_list : h.place < length list
  pub stands-there : get_or list h.place no_lock ≡ h.lock
  pub of-file : OfFile t o h.lock
  pub overlap : Overlap h.lock.offset h.lock.length offset size
  pub clash : Clash h.lock
  pub none_before : InWay t o (take h.place list) offset size Clash → ⊥

-- a read or a write: through an open whose access is not the one denied, on the list of all locks held; the bytes that it covers may depend on the open's file
pub record TransferHeld (c : Caller) (t : Tables) (fid denied : ℕ) (offset size : Open → ℕ) (Clash : Lock → Type 0) (h : Holder) : Type 0 where
  pub through : Open
  pub admitted : Admitted c t fid through
  pub access : through.access ≡ denied → ⊥
  pub first : FirstInWay t through (locks_of t) (offset through) (size through) Clash h

-- of a read the first "exclusive lock of another owner" that "overlaps offset and max"; the owner asking is the FID with the header's process
abbrev pub ReadHeld : Caller → Tables → ReadFields → Holder → Type 0
ReadHeld c t f h = TransferHeld c t f.fid 1 (λ o. f.offset) (λ o. f.max) (λ l. (l.shared ≡ false) × (Owner f.fid c.process l → ⊥)) h

-- of a write the first of any that overlap it "save the writer's own exclusive ones"
abbrev pub WritingHeld : Caller → Tables → ℕ → (Open → ℕ) → (Open → ℕ) → Holder → Type 0
WritingHeld c t fid offset size h = TransferHeld c t fid 0 offset size (λ l. (l.shared ≡ false) × Owner fid c.process l → ⊥) h

abbrev pub WriteHeld : Caller → Tables → WriteFields → Holder → Type 0
WriteHeld c t f h = WritingHeld c t f.fid (λ o. f.offset) (λ o. f.count) h

-- of a core WRITE with count 0, which "covers the bytes between the old and the new size"; with any other count it is a WRITE
abbrev pub SizeHeld : Caller → Tables → WriteFields → Holder → Type 0
SizeHeld c t f h =
    WritingHeld c t f.fid (lower_size t f.offset) (sizes_apart t f.offset) h

pub data CoreWriteHeld (c : Caller) (t : Tables) (f : WriteFields) (h : Holder) : Type 0 where
  write-held : (f.count ≡ 0 → ⊥) → WriteHeld c t f h → CoreWriteHeld c t f h
  size-held : f.count ≡ 0 → SizeHeld c t f h → CoreWriteHeld c t f h

-- "locks in order, each against the list as it stands": ranges of an area from the k-th on, `asked` of them, with that upper half of their processes, on a list. `granted` of
-- them were granted, none having a lock in its way; their locks, of the request's FID and each range's process, stand behind the list; there the next one has a lock in its way.
pub record RangeHeld (t : Tables) (o : Open) (fid high : ℕ) (shared large : Bool) (area : List ℕ) (k asked : ℕ) (list : List Lock) (h : Holder) : Type 0 where
  pub granted : ℕ
  pub fewer : granted < asked
  pub standing : List Lock
  pub earlier : AllGranted t o fid shared (map (of_header high) (ranges_at large area k granted)) list standing
  pub first : FirstInWay t o standing (range_at large area (k + granted)).offset (range_at large area (k + granted)).length
      (λ l. (l.shared ≡ true) × (shared ≡ true) → ⊥) h

-- a LOCKING of a served type with its ranges within 2^64: the request's unlocks are taken out, its own earlier ranges stand at the end (docs/DECISIONS.md, 67)
pub record LockHeld (c : Caller) (t : Tables) (f : LockingFields) (area : List ℕ) (h : Holder) : Type 0 where
  pub through : Open
  pub admitted : Admitted c t f.fid through
  pub served : OnlyTwoBits f.kind
  pub left : List Lock
  pub unlocked : Released f.fid (unlocks_in c f area) (locks_of t) left
  pub within : PastEnd (locks_in c f area) → ⊥
  pub held : RangeHeld t through f.fid (c.process / 65536) (shared_in f) (eqb (f.kind / 16 % 2) 1) area f.unlocks f.locks left h

-- a LOCK_BYTE_RANGE: the first of all locks held that overlaps it, since "the lock is exclusive"
pub record RangeLockHeld (c : Caller) (t : Tables) (f : RangeFields) (h : Holder) : Type 0 where
  pub through : Open
  pub admitted : Admitted c t f.fid through
  pub first : FirstInWay t through (locks_of t) (core_range c f).offset (core_range c f).length AnyLock h

-- the command with these fields and this byte area, begun on these tables, has that holder in its way; the others ask the list for nothing, or to take a lock out
unfoldable pub CommandHeld : Caller → Tables → List ℕ → Body → Holder → Type 0
CommandHeld c t area (LockingBody f) h = LockHeld c t f area h
CommandHeld c t area (ReadBody f) h = ReadHeld c t f h
CommandHeld c t area (WriteBody f) h = WriteHeld c t f h
CommandHeld c t area (Close fid) h = ⊥
CommandHeld c t area Logoff h = ⊥
CommandHeld c t area TreeDisconnect h = ⊥
CommandHeld c t area ProcessExit h = ⊥
CommandHeld c t area (CoreReadBody f) h = ReadHeld c t f h
CommandHeld c t area (CoreWriteBody f) h = CoreWriteHeld c t f h
CommandHeld c t area (LockByteRange f) h = RangeLockHeld c t f h
CommandHeld c t area (UnlockByteRange f) h = ⊥
CommandHeld c t area (OpenBody f) h = ⊥

-- ---- where a holder stands

-- at its place of the list, of the open's file, overlapping the range: whatever clashes
pub record Stands (t : Tables) (o : Open) (list : List Lock) (offset size : ℕ) (h : Holder) : Type 0 where
  pub in_list : h.place < length list
  pub stands-there : get_or list h.place no_lock ≡ h.lock
  pub of-file : OfFile t o h.lock
  pub overlap : Overlap h.lock.offset h.lock.length offset size

pub first-stands : {t : Tables} {o : Open} {list : List Lock} {offset size : ℕ} {Clash : Lock → Type 0} {h : Holder} → FirstInWay t o list offset size Clash h
    → Stands t o list offset size h
first-stands w = record { in_list = w.in_list; stands-there = w.stands-there; of-file = w.of-file; overlap = w.overlap }

-- it is one of the locks held, in the way of one range, or a LOCKING's
pub data HeldWhere (c : Caller) (t : Tables) (area : List ℕ) (h : Holder) : Type 0 where
  one-range : {o : Open} {offset size : ℕ} → Stands t o (locks_of t) offset size h → HeldWhere c t area h
  many-ranges : {f : LockingFields} → LockHeld c t f area h → HeldWhere c t area h
