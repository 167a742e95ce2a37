-- What LOCKING, READ, WRITE and a core WRITE of count 0 do once it is known who asks: the parts of message/specs/Command.antt's definitions, and that these
-- are those. Assumes nothing.
use Rattle.std.specs.Prelude.{◌≡◌, ℕ, cond, List, ◌==◌, nat_lt, refl}
use Rattle.std.proofs.Common.{ap, ◌∙◌}
use Rattle.records.specs.declared.Open.{Open}
use Rattle.records.specs.declared.Tables.{Tables}
use Rattle.records.specs.Change.{changes_of, with_read}
use Rattle.records.specs.Held.{opens_of}
use Rattle.locks.specs.Request.{locking}
use Rattle.locks.specs.Wire.{small_form}
use Rattle.locks.specs.declared.types.Purpose.TheVariants.{Read as Reading, Write as Writing}
use Rattle.soundness.specs.File.{file_of}
use Rattle.chain.specs.declared.block.LockingFields.{LockingFields}
use Rattle.chain.specs.declared.block.ReadFields.{ReadFields}
use Rattle.chain.specs.declared.block.WriteFields.{WriteFields}
use Rattle.chain.specs.declared.block.RangeFields.{RangeFields}
use Rattle.message.specs.declared.caller.Caller.{Caller}
use Rattle.message.specs.Contents.{size_of, read_bytes, grown, written, resized, sized_to}
use Rattle.message.specs.declared.refusal.Refusal.TheVariants.{NoAccess, LockType, NoSpace}
use Rattle.message.specs.Command.{Given, refused, done, read, wrote, core_wrote, with_open, served_type, request_of, locking_after, do_locking, ask_by, unless_barred, barring, do_read, ends_past, do_write, as_core, range_by, one_range, do_range, between_sizes, do_set_size}
use Rattle.requests.specs.CorePart.{core-open}

-- ---- LOCKING

unfoldable pub lock_settled : Caller → Tables → List ℕ → LockingFields → List ℕ → Given
lock_settled c t memory f area = locking_after t memory (locking (file_of (opens_of t)) t.locks t.nlocks (request_of c f) area)

unfoldable pub lock_open : Caller → Tables → List ℕ → LockingFields → List ℕ → Given
lock_open c t memory f area = cond (served_type f.kind) (lock_settled c t memory f area) (refused LockType)

pub locking-steps : (c : Caller) (t : Tables) (memory : List ℕ) (f : LockingFields) (area : List ℕ)
    → do_locking c t memory f area ≡ with_open c t f.fid (λ o. lock_open c t memory f area)
unfolding do_locking lock_open lock_settled
locking-steps c t memory f area = refl

-- the LOCKING of one range
pub range_steps : (c : Caller) (t : Tables) (memory : List ℕ) (f : RangeFields) (unlocks locks : ℕ)
    → do_range c t memory f unlocks locks ≡ with_open c t f.fid (λ o. as_core (lock_open c t memory (one_range f unlocks locks) (small_form (range_by c f))))
unfolding do_range one_range
range_steps c t memory f unlocks locks =
    ap as_core (locking-steps c t memory (one_range f unlocks locks) (small_form (range_by c f))) ∙ core-open c t f.fid _

-- ---- READ

unfoldable pub read_open : Caller → Tables → List ℕ → ReadFields → Open → Given
read_open c t memory f o =
    cond (o.access == 1) (refused NoAccess)
    (unless_barred t (barring t (ask_by c f.fid f.offset f.max Reading))
    (done (with_read t f.fid (changes_of t o.file)) memory (read (read_bytes t memory o.file f.offset f.max))))

pub read-steps : (c : Caller) (t : Tables) (memory : List ℕ) (f : ReadFields) → do_read c t memory f ≡ with_open c t f.fid (read_open c t memory f)
unfolding do_read read_open
read-steps c t memory f = refl

-- ---- WRITE

unfoldable pub write_free : Tables → List ℕ → WriteFields → ℕ → List ℕ → Given
write_free t memory f file bytes =
    cond (ends_past f.offset f.count) (refused NoSpace)
    (done (resized t file f.offset f.count) (written t memory file f.offset bytes) (wrote f.count))

unfoldable pub write_open : Caller → Tables → List ℕ → WriteFields → List ℕ → Open → Given
write_open c t memory f bytes o =
    cond (o.access == 0) (refused NoAccess)
    (unless_barred t (barring t (ask_by c f.fid f.offset f.count Writing)) (write_free t memory f o.file bytes))

pub write-steps : (c : Caller) (t : Tables) (memory : List ℕ) (f : WriteFields) (bytes : List ℕ)
    → do_write c t memory f bytes ≡ with_open c t f.fid (write_open c t memory f bytes)
unfolding do_write write_open write_free
write-steps c t memory f bytes = refl

-- ---- a core WRITE of count 0

unfoldable pub size_free : Tables → List ℕ → WriteFields → ℕ → Given
size_free t memory f file =
    cond (nat_lt 4096 f.offset) (refused NoSpace) (done (sized_to t file f.offset) (grown t memory file f.offset) (core_wrote 0))

unfoldable pub size_open : Caller → Tables → List ℕ → WriteFields → Open → Given
size_open c t memory f o =
    cond (o.access == 0) (refused NoAccess)
    (unless_barred t (barring t (between_sizes c f.fid (size_of t o.file) f.offset)) (size_free t memory f o.file))

pub size-steps : (c : Caller) (t : Tables) (memory : List ℕ) (f : WriteFields) → do_set_size c t memory f ≡ with_open c t f.fid (size_open c t memory f)
unfolding do_set_size size_open size_free
size-steps c t memory f = refl
