-- What a block asks for, and that this is what its command does. Assumes nothing.
use Rattle.std.specs.Prelude.{◌≡◌, ℕ, ◌+◌, ◌≤◌, Bool, true, false, cond, List, length, take, drop, ◌==◌, Some as Whole}
use Rattle.std.proofs.Math.Path.{refl}
use Rattle.std.proofs.Common.{arith}
use Rattle.records.specs.declared.Tables.{Tables}
use Rattle.chain.specs.Parse.{parse}
use Rattle.chain.specs.declared.block.LockingFields.{LockingFields}
use Rattle.chain.specs.declared.block.ReadFields.{ReadFields}
use Rattle.chain.specs.declared.block.WriteFields.{WriteFields}
use Rattle.chain.specs.declared.block.OpenFields.{OpenFields}
use Rattle.chain.specs.declared.block.Body.{Body}
use Rattle.chain.specs.declared.block.Body.TheVariants.{Locking as LockingBody, Read as ReadBody, Write as WriteBody, Close as CloseBody, Logoff as LogoffBody, TreeDisconnect as DisconnectBody, ProcessExit as ExitBody, CoreRead, CoreWrite, LockByteRange, UnlockByteRange, Open as OpenBody}
use Rattle.chain.specs.declared.block.Block.{Block}
use Rattle.message.specs.declared.caller.Caller.{Caller}
use Rattle.message.specs.Command.{Given, do_locking, do_read, do_write, do_set_size, do_range, do_core_write, name_asked, do_open, perform}
use Rattle.message.specs.JustOpened.{fid_meant, body_meant}
use Rattle.message.specs.Message.{area_of, data_of}
use Rattle.requests.specs.declared.work.Work.{Work}
use Rattle.requests.specs.declared.work.Work.TheVariants.{Locking, Read, Write, Close, Logoff, TreeDisconnect, ProcessExit, SetSize, Range, Open}
use Rattle.requests.specs.BlockPart.{LockingPart, WritePart, CoreWritePart, OpeningPart, Part, part-meant, block-part, data-part}
use Rattle.requests.specs.CorePart.{in_form}

-- a READ with the FID that is meant: "FID 0xFFFF means the file just opened"
unfoldable pub read_meant : ℕ → ReadFields → ReadFields
read_meant just f = record { fid = fid_meant just f.fid; offset = f.offset; max = f.max }

-- "A core WRITE of count 0 sets the file's size to the offset"
unfoldable pub core_work : WriteFields → Work
core_work f = cond (f.count == 0) (SetSize f) (Write f true)

unfoldable pub work_of : Body → Work
work_of (LockingBody f) = Locking f
work_of (ReadBody f) = Read f false
work_of (WriteBody f) = Write f false
work_of (CloseBody fid) = Close fid
work_of LogoffBody = Logoff
work_of DisconnectBody = TreeDisconnect
work_of ExitBody = ProcessExit
work_of (CoreRead f) = Read f true
work_of (CoreWrite f) = core_work f
work_of (LockByteRange f) = Range f 0 1
work_of (UnlockByteRange f) = Range f 1 0
work_of (OpenBody f) = Open f

-- a core WRITE's data stand in its byte area, a WRITE's where it says
unfoldable pub work_done : Caller → Tables → List ℕ → Work → List ℕ → List ℕ → Given
work_done c t memory (Locking f) area bytes = do_locking c t memory f area
work_done c t memory (Read f core) area bytes = in_form core (do_read c t memory f)
work_done c t memory (Write f core) area bytes = in_form core (do_write c t memory f (cond core (drop 3 area) bytes))
work_done c t memory (Close fid) area bytes = perform c t memory (CloseBody fid) area bytes
work_done c t memory Logoff area bytes = perform c t memory LogoffBody area bytes
work_done c t memory TreeDisconnect area bytes = perform c t memory DisconnectBody area bytes
work_done c t memory ProcessExit area bytes = perform c t memory ExitBody area bytes
work_done c t memory (SetSize f) area bytes = do_set_size c t memory f
work_done c t memory (Range f unlocks locks) area bytes = do_range c t memory f unlocks locks
work_done c t memory (Open f) area bytes = do_open c t memory f (name_asked area)

module _ (c : Caller) (t : Tables) (memory area bytes : List ℕ) where
  core-done : (f : WriteFields) (none : Bool)
      → cond none (work_done c t memory (SetSize f) area bytes) (work_done c t memory (Write f true) area bytes) ≡ work_done c t memory (cond none (SetSize f) (Write f true)) area bytes
  core-done f true = refl
  core-done f false = refl

  -- what is asked for is what the command does
  pub work-performed : (body : Body) → perform c t memory body area bytes ≡ work_done c t memory (work_of body) area bytes
  unfolding perform work_of work_done in_form core_work do_core_write
  work-performed (LockingBody f) = refl
  work-performed (ReadBody f) = refl
  work-performed (WriteBody f) = refl
  work-performed (CloseBody fid) = refl
  work-performed LogoffBody = refl
  work-performed DisconnectBody = refl
  work-performed ExitBody = refl
  work-performed (CoreRead f) = refl
  work-performed (CoreWrite f) = core-done f (f.count == 0)
  work-performed (LockByteRange f) = refl
  work-performed (UnlockByteRange f) = refl
  work-performed (OpenBody f) = refl

-- the data of a write, as a part of the message
pub record DataPart (s : List ℕ) (b : Block) (f : WriteFields) (core : Bool) : Type 0 where
  pub inside : f.from + f.count ≤ length s
  pub same : cond core (drop 3 (area_of s b)) (data_of s b) ≡ take f.count (drop f.from s)

-- where what is asked for stands in the message
module _ (s : List ℕ) (b : Block) where
  unfoldable Stands : Work → Type 0
  Stands (Locking f) = LockingPart s b.at b.length
  Stands (Read f core) = ◌≡◌ {A = ℕ} 0 0
  Stands (Write f core) = DataPart s b f core
  Stands (Close fid) = ◌≡◌ {A = ℕ} 0 0
  Stands Logoff = ◌≡◌ {A = ℕ} 0 0
  Stands TreeDisconnect = ◌≡◌ {A = ℕ} 0 0
  Stands ProcessExit = ◌≡◌ {A = ℕ} 0 0
  Stands (SetSize f) = ◌≡◌ {A = ℕ} 0 0
  Stands (Range f unlocks locks) = ◌≡◌ {A = ℕ} 0 0
  Stands (Open f) = OpeningPart s b.at b.length

  write-stands : (f : WriteFields) → WritePart s b.at f → DataPart s b f false
  unfolding data_of
  write-stands f p =
      let from = p.from in
      let count = p.count in
      let inside = p.inside in
      record { inside = omega arith; same = rw (p.from, p.count) }

  core-stands : (f : WriteFields) (none : Bool) → CoreWritePart s b.at f → Stands (cond none (SetSize f) (Write f true))
  unfolding Stands area_of
  core-stands f true p = refl
  core-stands f false p =
      let from = p.from in
      let count = p.count in
      let inside = p.inside in
      record { inside = omega arith; same = data-part s b.at f p }

  part-stands : (body : Body) → Part s b.at b.length body → Stands (work_of body)
  unfolding Part Stands work_of core_work
  part-stands (LockingBody f) p = p
  part-stands (ReadBody f) p = refl
  part-stands (WriteBody f) p = write-stands f p
  part-stands (CloseBody fid) p = refl
  part-stands LogoffBody p = refl
  part-stands DisconnectBody p = refl
  part-stands ExitBody p = refl
  part-stands (CoreRead f) p = refl
  part-stands (CoreWrite f) p = core-stands f (f.count == 0) p
  part-stands (LockByteRange f) p = refl
  part-stands (UnlockByteRange f) p = refl
  part-stands (OpenBody f) p = p

  -- what the reader says of a block of ranges, of a block with data and of one with a name; `just` is what FID 0xFFFF means in it
  module _ (just : ℕ) (e : parse s b.command b.at ≡ Whole b) where
    stands : Stands (work_of (body_meant just b.body))
    stands = part-stands (body_meant just b.body) (part-meant s b.at b.length just b.body (block-part s b.at b.command b e))

    pub locking-told : (f : LockingFields) → work_of (body_meant just b.body) ≡ Locking f → LockingPart s b.at b.length
    unfolding Stands
    locking-told f q = let p : Stands (Locking f) = rw q at stands in p

    pub write-told : (f : WriteFields) (core : Bool) → work_of (body_meant just b.body) ≡ Write f core → DataPart s b f core
    unfolding Stands
    write-told f core q = let p : Stands (Write f core) = rw q at stands in p

    pub open_told : (f : OpenFields) → work_of (body_meant just b.body) ≡ Open f → OpeningPart s b.at b.length
    unfolding Stands
    open_told f q = let p : Stands (Open f) = rw q at stands in p
