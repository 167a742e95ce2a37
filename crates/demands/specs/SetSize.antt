-- What a core WRITE of count 0 leaves (document 02, CR 3: "A core WRITE of count 0 sets the file's size to the offset (past 4,096 is 3/39), with zeros where it grows
-- and no byte changed where it shrinks"), said of the definitions, of the command, of the call and of the message's bytes. Assumes nothing.
use Rattle.std.specs.Prelude.{◌≡◌, ℕ, ◌+◌, ◌-◌, ◌*◌, ◌≤◌, List, ◌++◌, length, take, get_or, set, replicate}
use Rattle.std.proofs.Common.{◌∙◌, arith, length-take, length-append}
use Rattle.std.proofs.lemmas.List.{length-replicate}
use Rattle.lists.specs.PutLaws.{put-nothing}
use Rattle.records.specs.declared.Open.{Open}
use Rattle.records.specs.declared.Tables.{Tables}
use Rattle.records.specs.Change.{raised, changes_of}
use Rattle.records.specs.Empty.{no_file}
use Rattle.records.specs.Held.{with_files}
use Rattle.claims.specs.RemovalPlain.{CatalogueStands}
use Rattle.invariants.specs.Sound.{Good}
use Rattle.message.specs.declared.caller.Caller.{Caller}
use Rattle.message.specs.Contents.{size_of, contents, grown, sized_to}
use Rattle.message.specs.Message.{Taken}
use Rattle.demands.specs.Admitted.{Admitted}
use Rattle.demands.specs.FileBytes.{Grew, contents-length, file-inside, sized-size}
use Rattle.demands.specs.ReplyBytes.{CoreWriteBlock}

-- ---- the plain words

-- the tables and the file memory after a file's size was set
pub record SizeSet (t after : Tables) (file size : ℕ) (memory left : List ℕ) : Type 0 where
  -- its size is that, and its change number raised where that "alters the size" (CR 8); no other file, no other table, the catalogue among them, is changed
  pub new-size : size_of after file ≡ size
  pub other-files : (i : ℕ) → (i ≡ file → ⊥) → get_or after.files i no_file ≡ get_or t.files i no_file
  pub number : (size ≡ size_of t file → ⊥) → changes_of after file ≡ raised (changes_of t file)
  pub whole : (size ≡ size_of t file → ⊥) → after ≡ with_files t (set t.files file (record { size = size; changes = raised (changes_of t file) }))
  pub catalogue : CatalogueStands t after
  -- "with zeros where it grows": its bytes are the old ones below the size, and then zeros
  pub new-contents : contents after left file ≡ take size (contents t memory file ++ replicate (size - size_of t file) 0)
  -- of the file memory the bytes from the old size up to the new one are 0, and every other one is as it was
  pub bytes_left : Grew file (size_of t file) size memory left
  -- every other file has its bytes
  pub other-contents : (x : ℕ) → x ≤ 15 → (x ≡ file → ⊥) → contents after left x ≡ contents t memory x
  -- "and no byte changed where it shrinks", also none past its new end
  pub none-changed : size ≤ size_of t file → left ≡ memory
  -- the size that it has: nothing changes
  pub nothing-changed : size ≡ size_of t file → (after ≡ t) × (left ≡ memory)

-- ---- the definitions

module _ (t : Tables) (memory : List ℕ) (file size : ℕ) (g : Good t) (full : length memory ≡ 65536) (low : file ≤ 15) (within : size ≤ 4096) where
  pub sized : size_of (sized_to t file size) file ≡ size
  sized = sized-size t file size g.shaped low

  -- the bytes that it had, and zeros up to the new size
  abbrev pub filled : List ℕ
  filled = contents t memory file ++ replicate (size - size_of t file) 0

  pub old-length : length (contents t memory file) ≡ size_of t file
  old-length = contents-length t memory file (file-inside t memory file g.sound full low)

  pub filled-length : length (take size filled) ≡ size
  filled-length =
      let n = old-length in
      let k : length (replicate {A = ℕ} (size - size_of t file) 0) ≡ size - size_of t file = length-replicate (size - size_of t file) 0 in
      length-take size filled ∙ rw (length-append (contents t memory file) (replicate (size - size_of t file) 0)) (omega arith)

  pub shrunk : size ≤ size_of t file → grown t memory file size ≡ memory
  shrunk h =
      let none_more : size - size_of t file ≡ 0 = omega arith in
      rw none_more (put-nothing memory (file * 4096 + size_of t file))

-- ---- the command

-- ---- a message of one core WRITE of count 0, fit to be answered, on good tables, whose reply's Status is 0/0

pub record SetSizeDone (c : Caller) (t : Tables) (fid offset : ℕ) (memory : List ℕ) (call : Taken) : Type 0 where
  -- the open of that FID, UID and TID
  pub through : Open
  pub admitted : Admitted c t fid through
  -- "past 4,096 is 3/39": it is not past
  pub not-past : offset ≤ 4096
  pub sets : SizeSet t call.tables through.file offset memory call.memory
  -- 1 word, the count, which is 0; no bytes
  pub reply : CoreWriteBlock 0 call.room
  pub reply-ends : call.length ≡ 37
