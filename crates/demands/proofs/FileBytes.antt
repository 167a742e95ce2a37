-- Of specs/FileBytes.antt: what rests on its other theorems. Assumes nothing.
use Rattle.std.specs.Prelude.{◌≡◌, true, List, ℕ, ◌+◌, ◌*◌, ◌≤◌, ◌<◌, get_or}
use Rattle.std.proofs.Common.{◌∙◌, inl, inr}
use Rattle.std.proofs.Math.ListN.{length}
use native.Mathlib.Omega.{arith}
use Rattle.lists.specs.Put.{put}
use Rattle.lists.specs.PutLaws.{length-put, put_front, put-inside, put-behind}
use Rattle.records.specs.declared.Tables.{Tables}
use Rattle.soundness.specs.Sound.{sound}
use Rattle.message.specs.Contents.{size_of, grown, written}
use Rattle.demands.specs.FileBytes.{Grew, Wrote, beside, grown-bytes, written-put}

module _ (t : Tables) (memory : List ℕ) (file offset : ℕ) (ok : sound t ≡ true) (full : length memory ≡ 65536) (low : file ≤ 15) where
  module _ (bytes : List ℕ) (some_bytes : 1 ≤ length bytes) (fits : offset + length bytes ≤ 4096) where
    pub grew : Grew file (size_of t file) offset memory (grown t memory file offset)
    grew = (grown-bytes t memory file offset ok full low) (omega arith)

    pub bytes_fit : file * 4096 + offset + length bytes ≤ length (grown t memory file offset)
    bytes_fit = let a = grew.same_length in omega arith

    -- behind the write
    pub past-write : (k : ℕ) → file * 4096 + offset + length bytes ≤ k → get_or (put (grown t memory file offset) (file * 4096 + offset) bytes) k 0 ≡ get_or memory k 0
    past-write k h = put-behind (grown t memory file offset) bytes (file * 4096 + offset) bytes_fit k 0 h ∙ grew.behind k (omega arith)

    -- in front of it and of the old size
    pub before-write : (k : ℕ) → k < file * 4096 + size_of t file → k < file * 4096 + offset
        → get_or (put (grown t memory file offset) (file * 4096 + offset) bytes) k 0 ≡ get_or memory k 0
    before-write k h l = put_front (grown t memory file offset) bytes (file * 4096 + offset) bytes_fit k 0 l ∙ grew.in-front k h

    -- "Bytes between the old size and the write become 0": a write of some bytes that ends in its file
    pub written-bytes : Wrote file (size_of t file) offset bytes memory (written t memory file offset bytes)
    written-bytes =
        rw (written-put t memory file offset ok full low bytes some_bytes fits)
        (record {
          same_length = length-put (grown t memory file offset) bytes (file * 4096 + offset) bytes_fit ∙ grew.same_length;
          the-bytes = λ i h. put-inside (grown t memory file offset) bytes (file * 4096 + offset) bytes_fit i 0 h;
          the-zeros = λ k h l. put_front (grown t memory file offset) bytes (file * 4096 + offset) bytes_fit k 0 l ∙ grew.the-zeros k h l;
          in-front = before-write;
          behind = past-write;
          other-files = λ other i different h.
              elim (beside other file i different h) [
                | inl l ↦ before-write (other * 4096 + i) (omega arith) (omega arith)
                | inr l ↦ past-write (other * 4096 + i) (omega arith)
              ];
        })
