-- What a READ or a WRITE that is done gives and leaves, byte by byte (document 01, "Locks, reads and writes"), and the core READ and WRITE (document 02, CR 3),
-- said of the command. Assumes nothing.
use Rattle.std.specs.Prelude.{◌≡◌, refl, ℕ, min, max, ◌+◌, ◌-◌, ◌*◌, ◌≤◌, ◌<◌, Bool, true, false, cond, List, length, drop, get_or, eqb, Option, Some, None}
use Rattle.std.proofs.Common.{◌∙◌, arith, length-drop, length-take-le}
use Rattle.std.proofs.Math.Path.{ap}
use Rattle.records.specs.declared.Tables.{Tables}
use Rattle.records.specs.Change.{raised, changes_of}
use Rattle.records.specs.Empty.{no_file}
use Rattle.records.specs.Held.{with_files}
use Rattle.claims.specs.RemovalPlain.{CatalogueStands}
use Rattle.chain.specs.Layout.{WRITE, CORE-WRITE, word_count, block_end, fid_after_andx, offset_low, write_offset_high, data_length, data_offset, first_fid, core_count, core_offset, marked_data}
use Rattle.chain.specs.Parse.{wide_offset}
use Rattle.chain.specs.Grammar.{IsBlock, Data, locking-10, locking-20, read-10, read-12, write-12, write-14, close, logoff, tree-disconnect, process-exit, core-read, core-write, lock-byte-range, unlock-byte-range, open-15}
use Rattle.chain.specs.declared.block.Body.TheVariants.{Write as WriteBody, CoreWrite as CoreWriteBody}
use Rattle.chain.specs.Next.{Next}
use Rattle.chain.specs.declared.block.WriteFields.{WriteFields}
use Rattle.invariants.specs.BlockParse.{body_at, block_at}
use Rattle.message.specs.declared.refusal.Refusal.{Refusal}
use Rattle.message.specs.Contents.{size_of}
use Rattle.message.specs.Command.{Given, Said, refused, done, read, unless_barred, core_said, as_core}
use Rattle.message.specs.Message.{area_of, data_of}
use Rattle.demands.specs.Malformed.{length-area}
use Rattle.demands.specs.FileBytes.{Wrote}

-- "It yields the file's bytes in the range below its size", z being the size: so many, and which
pub record Yields (file z offset most : ℕ) (memory bytes : List ℕ) : Type 0 where
  pub so-many : length bytes ≡ min most (z - offset)
  pub which : (i : ℕ) → i < length bytes → get_or bytes i 0 ≡ get_or memory (file * 4096 + offset + i) 0

-- the tables and the file memory after a write of some bytes: "Bytes between the old size and the write become 0, and a size below the write's end becomes that
-- end"; the change number raised (document 02, CR 8); every other file and every other table, the catalogue among them, as before
pub record WroteFile (t after : Tables) (file offset : ℕ) (bytes memory left : List ℕ) : Type 0 where
  pub bytes_left : Wrote file (size_of t file) offset bytes memory left
  pub size : size_of after file ≡ max (size_of t file) (offset + length bytes)
  pub number : changes_of after file ≡ raised (changes_of t file)
  pub other-files : (i : ℕ) → (i ≡ file → ⊥) → get_or after.files i no_file ≡ get_or t.files i no_file
  pub other-tables : after ≡ with_files t after.files
  pub catalogue : CatalogueStands t after

-- tables that differ in files alone have the same catalogue
pub catalogue-kept : (t after : Tables) → after ≡ with_files t after.files → CatalogueStands t after
unfolding with_files
catalogue-kept t after e = (ap (λ (x : Tables). x.nnames) e, ap (λ (x : Tables). x.names) e)

-- a command that is done was not refused on the way
never : {P : Type 0} → ◌≡◌ {A = ℕ} 0 1 → P
never e = absurd (omega arith)

pub not-refused : (b : Bool) (why : Refusal) (g : Given) {u : Tables} {m : List ℕ} {said : Said} → cond b (refused why) g ≡ done u m said → (b ≡ false) × (g ≡ done u m said)
not-refused true why g e = never cc
not-refused false why g e = (refl, e)

pub not-barred : (t : Tables) (x : Option ℕ) (g : Given) {u : Tables} {m : List ℕ} {said : Said} → unless_barred t x g ≡ done u m said → g ≡ done u m said
unfolding unless_barred
not-barred t (Some k) g e = never cc
not-barred t None g e = e

pub same_bytes : {x y : List ℕ} → read x ≡ read y → x ≡ y
same_bytes e = cc

-- a core command that is done: its counterpart is, and leaves the same
pub as_core_lem : (g : Given) {u : Tables} {m : List ℕ} {said : Said} → as_core g ≡ done u m said → (x : Said) × (g ≡ done u m x) × (said ≡ core_said x)
unfolding as_core
as_core_lem (refused why) e = never cc
as_core_lem (done v n x) e = (x, cc, cc)

-- ---- the data of a block

-- the fields of a WRITE block
abbrev pub write_at : List ℕ → ℕ → WriteFields
write_at s at =
    record {
      fid = fid_after_andx s at;
      offset = wide_offset (offset_low s at) (write_offset_high s at) (eqb (word_count s at) 14);
      count = data_length s at;
      from = data_offset s at;
    }

-- "DataOffset + DataLength not past its end": the data has just the announced length
data-long : {s : List ℕ} {at words : ℕ} (command : ℕ) (next : Next) → Data s at words → length (data_of s (block_at s command at next)) ≡ data_length s at
unfolding data_of block_at
data-long {s} {at} command next d =
    let i : block_end s at ≤ length s = d.shape.inside in
    let e : data_offset s at + data_length s at ≤ block_end s at = d.ends in
    length-take-le (data_length s at) (drop (data_offset s at) s) (rw (length-drop (data_offset s at) s) (omega arith))

-- of every block of a reading: a WRITE's data is as long as its count
pub data-counted : {s : List ℕ} {at command : ℕ} → IsBlock s at command → (next : Next) (f : WriteFields) → body_at s command at ≡ WriteBody f
    → length (data_of s (block_at s command at next)) ≡ f.count
unfolding body_at
data-counted (locking-10 p h) next f same = never cc
data-counted (locking-20 p h) next f same = never cc
data-counted (read-10 h) next f same = never cc
data-counted (read-12 h) next f same = never cc
data-counted {s} {at} (write-12 h) next f same =
    let q : WriteBody (write_at s at) ≡ WriteBody f = same in
    let z : write_at s at ≡ f = cc in
    data-long WRITE next h ∙ ap (λ (x : WriteFields). x.count) z
data-counted {s} {at} (write-14 h) next f same =
    let q : WriteBody (write_at s at) ≡ WriteBody f = same in
    let z : write_at s at ≡ f = cc in
    data-long WRITE next h ∙ ap (λ (x : WriteFields). x.count) z
data-counted (close h) next f same = never cc
data-counted (logoff h) next f same = never cc
data-counted (tree-disconnect h) next f same = never cc
data-counted (process-exit h) next f same = never cc
data-counted (core-read h) next f same = never cc
data-counted (core-write h) next f same = never cc
data-counted (lock-byte-range h) next f same = never cc
data-counted (unlock-byte-range h) next f same = never cc
data-counted (open-15 h) next f same = never cc

-- the fields of a core WRITE block
abbrev pub core_write_fields : List ℕ → ℕ → WriteFields
core_write_fields s at = record { fid = first_fid s at; offset = core_offset s at; count = core_count s at; from = marked_data s at }

-- a core WRITE's data, behind the mark and the length of its data block, is as long as its count
pub core-counted : {s : List ℕ} {at command : ℕ} → IsBlock s at command → (next : Next) (f : WriteFields) → body_at s command at ≡ CoreWriteBody f
    → length (drop 3 (area_of s (block_at s command at next))) ≡ f.count
unfolding body_at
core-counted (locking-10 p h) next f same = never cc
core-counted (locking-20 p h) next f same = never cc
core-counted (read-10 h) next f same = never cc
core-counted (read-12 h) next f same = never cc
core-counted (write-12 h) next f same = never cc
core-counted (write-14 h) next f same = never cc
core-counted (close h) next f same = never cc
core-counted (logoff h) next f same = never cc
core-counted (tree-disconnect h) next f same = never cc
core-counted (process-exit h) next f same = never cc
core-counted (core-read h) next f same = never cc
core-counted {s} {at} (core-write h) next f same =
    let q : CoreWriteBody (core_write_fields s at) ≡ CoreWriteBody f = same in
    let z : core_write_fields s at ≡ f = cc in
    let long = length-area (core-write h) next in
    let filled = h.filled in
    let n : length (area_of s (block_at s CORE-WRITE at next)) - 3 ≡ core_count s at = omega arith in
    length-drop 3 (area_of s (block_at s CORE-WRITE at next)) ∙ n ∙ ap (λ (x : WriteFields). x.count) z
core-counted (lock-byte-range h) next f same = never cc
core-counted (unlock-byte-range h) next f same = never cc
core-counted (open-15 h) next f same = never cc
