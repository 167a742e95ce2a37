-- What a message of one command that is done gives and leaves (document 01, "Locks, reads and writes" and "Reply blocks"; document 02, CR 3), said of the
-- call and of the message's bytes: a reading of one block, with the fields where the layout has them. Assumes nothing.
use Rattle.std.specs.Prelude.{◌≡◌, ℕ, min, ◌+◌, ◌-◌, ◌*◌, ◌≤◌, ◌<◌, take, replicate}
use mathlib.Core.List.{List, [], ◌∷◌}
use Rattle.std.proofs.Math.ListN.{length, drop, get_or}
use Rattle.wire.specs.LittleEndian.{byte_at, le16_at}
use Rattle.records.specs.declared.Open.{Open}
use Rattle.records.specs.declared.Tables.{Tables}
use Rattle.chain.specs.Layout.{FIRST, fid_after_andx, read_max, data_length, data_offset, first_fid, core_count, core_offset, marked_data}
use Rattle.chain.specs.Grammar.{Span, Reading}
use Rattle.invariants.specs.Sound.{Good}
use Rattle.invariants.specs.Fit.{Fit}
use Rattle.message.specs.Caller.{caller_of}
use Rattle.message.specs.Refusal.{status}
use Rattle.message.specs.Contents.{size_of}
use Rattle.message.specs.Message.{Taken, take-message}
use Rattle.demands.specs.StatusRead.{status_read}
use Rattle.demands.specs.Remembering.{OnlyRemembers}
use Rattle.demands.specs.RefusedCall.{Untouched}
use Rattle.demands.specs.Admitted.{Admitted}
use Rattle.demands.specs.FileCommands.{WroteFile}
use Rattle.demands.specs.ReplyBytes.{CoreWriteBlock}
use Rattle.demands.specs.WireFields.{read_from, write_from, write_data, core_data, FirstBlock, one-first}

-- ---- the plain words

-- a READ through an open that the caller may use
pub record ReadDone (connection : ℕ) (s : List ℕ) (t : Tables) (memory : List ℕ) (call : Taken) : Type 0 where
  -- the open of the FID at its place, and of the header's UID and TID
  pub through : Open
  pub admitted : Admitted (caller_of connection s) t (fid_after_andx s FIRST) through
  -- "the file's bytes in the range below its size": so many
  pub count : ℕ
  pub so-many : count ≡ min (read_max s FIRST) (size_of t through.file - read_from s)
  -- and which: in the reply they stand from 59 on
  pub which : (i : ℕ) → i < count → byte_at call.room (59 + i) ≡ get_or memory (through.file * 4096 + read_from s + i) 0
  -- "length, data offset": the words in front of them say so, and the reply ends with them
  pub length-said : le16_at call.room 43 ≡ count
  pub offset-said : le16_at call.room 45 ≡ 59
  pub reply-ends : call.length ≡ 59 + count
  -- nothing is changed but what the open remembers
  pub leaves : OnlyRemembers t through memory call

-- a WRITE through an open that the caller may use
pub record WriteDone (connection : ℕ) (s : List ℕ) (t : Tables) (memory : List ℕ) (call : Taken) : Type 0 where
  pub through : Open
  pub admitted : Admitted (caller_of connection s) t (fid_after_andx s FIRST) through
  -- the data are all in the message: DataLength bytes from DataOffset on
  pub so-many : length (write_data s) ≡ data_length s FIRST
  -- some bytes: the file has them and the size; every other byte, size and table is as before
  pub wrote-file : 1 ≤ data_length s FIRST → WroteFile t call.tables through.file (write_from s) (write_data s) memory call.memory
  -- byte by byte the message's
  pub which : (i : ℕ) → i < data_length s FIRST → get_or call.memory (through.file * 4096 + write_from s + i) 0 ≡ byte_at s (data_offset s FIRST + i)
  -- "Length 0 writes nothing, changes no size"
  pub wrote_none : data_length s FIRST ≡ 0 → Untouched t memory call
  -- "WRITE: 6 words: AndX, count": the reply says it
  pub count-said : le16_at call.room 37 ≡ data_length s FIRST

-- a core READ through an open that the caller may use (document 02, CR 3): FID, count and offset are its words
pub record CoreReadDone (connection : ℕ) (s : List ℕ) (t : Tables) (memory : List ℕ) (call : Taken) : Type 0 where
  pub through : Open
  pub admitted : Admitted (caller_of connection s) t (first_fid s FIRST) through
  -- "the file's bytes in the range below its size": so many
  pub count : ℕ
  pub so-many : count ≡ min (core_count s FIRST) (size_of t through.file - core_offset s FIRST)
  -- and which: in the reply they stand from 48 on, behind 5 words (the count, eight zero bytes) and the data block's 0x01 and length
  pub which : (i : ℕ) → i < count → byte_at call.room (48 + i) ≡ get_or memory (through.file * 4096 + core_offset s FIRST + i) 0
  pub words : byte_at call.room 32 ≡ 5
  pub count-said : le16_at call.room 33 ≡ count
  pub zeros : take 8 (drop 35 call.room) ≡ replicate 8 0
  pub byte-count : le16_at call.room 43 ≡ 3 + count
  pub mark : byte_at call.room 45 ≡ 0x01
  pub length-said : le16_at call.room 46 ≡ count
  pub reply-ends : call.length ≡ 48 + count
  -- nothing is changed but what the open remembers
  pub leaves : OnlyRemembers t through memory call

-- a core WRITE of some bytes; count 0 is SetSize.antt
pub record CoreWriteDone (connection : ℕ) (s : List ℕ) (t : Tables) (memory : List ℕ) (call : Taken) : Type 0 where
  pub through : Open
  pub admitted : Admitted (caller_of connection s) t (first_fid s FIRST) through
  -- the data are all in the message: the count bytes behind the mark and the length of the data block
  pub so-many : length (core_data s) ≡ core_count s FIRST
  -- the file has them and the size; every other byte, size and table is as before
  pub wrote-file : WroteFile t call.tables through.file (core_offset s FIRST) (core_data s) memory call.memory
  -- byte by byte the message's
  pub which : (i : ℕ) → i < core_count s FIRST → get_or call.memory (through.file * 4096 + core_offset s FIRST + i) 0 ≡ byte_at s (marked_data s FIRST + i)
  -- 1 word, the count; no bytes
  pub reply : CoreWriteBlock (core_count s FIRST) call.room
  pub reply-ends : call.length ≡ 37

-- ---- a message whose reading is one block, fit to be answered, on good tables, whose reply's Status is 0/0

module _ (connection : ℕ) (s : List ℕ) {span : Span} (r : Reading s (span ∷ [])) (t : Tables) (memory room : List ℕ) (g : Good t) (fit : Fit s t memory room)
    (z : status_read (take-message connection s t memory room).room ≡ status 0 0) where
  abbrev pub call : Taken
  call = take-message connection s t memory room

  pub only : FirstBlock s []
  only = one-first r
