-- The bytes of a file: "Files: 16, numbered from 0, 4,096 bytes each, in file memory of 65,536 bytes; each has a size"
-- (document 01, "Tables and room"), what a read yields and what a write leaves ("Locks, reads and writes"; document 02, CR 3 and CR 8). Assumes nothing.
use Rattle.std.specs.Prelude.{ℕ, max, ◌+◌, ◌-◌, ◌*◌, cond, List, length, take, drop, get_or, replicate, eqb}
use Rattle.lists.specs.Put.{put}
use Rattle.records.specs.declared.Tables.{Tables}
use Rattle.records.specs.Empty.{no_file}
use Rattle.records.specs.Change.{with_change}

unfoldable pub size_of : Tables → ℕ → ℕ
size_of t file = (get_or t.files file no_file).size

-- the bytes of a file below its size
unfoldable pub contents : Tables → List ℕ → ℕ → List ℕ
contents t memory file = take (size_of t file) (drop (file * 4096) memory)

-- "It yields the file's bytes in the range below its size."
unfoldable pub read_bytes : Tables → List ℕ → ℕ → ℕ → ℕ → List ℕ
read_bytes t memory file offset most = take most (drop offset (contents t memory file))

-- the file memory with 0 from the file's size up to a place, where that lies further on
abbrev pub grown : Tables → List ℕ → ℕ → ℕ → List ℕ
grown t memory file end = put memory (file * 4096 + size_of t file) (replicate (end - size_of t file) 0)

-- "Bytes between the old size and the write become 0"; the bytes written; bytes past the write's end stay. "Length 0 writes
-- nothing, changes no size".
unfoldable pub written : Tables → List ℕ → ℕ → ℕ → List ℕ → List ℕ
written t memory file offset bytes =
    cond (eqb (length bytes) 0) memory
    (put (grown t memory file offset) (file * 4096 + offset) bytes)

-- "and a size below the write's end becomes that end"; the change number is raised "at each granted write of at least one byte" (document 02, CR 8)
unfoldable pub resized : Tables → ℕ → ℕ → ℕ → Tables
resized t file offset count =
    cond (eqb count 0) t (with_change t file (max (size_of t file) (offset + count)))

-- a size set, and the change number raised where that "alters the size" (document 02, CR 3 and CR 8)
unfoldable pub sized_to : Tables → ℕ → ℕ → Tables
sized_to t file size = cond (eqb (size_of t file) size) t (with_change t file size)
