-- When a file has changed, and what an open remembers of it (document 02, CR 8). Assumes nothing.
use Rattle.std.specs.Prelude.{ℕ, min, ◌+◌, true, cond, map, get_or, set, eqb}
use Rattle.records.specs.Empty.{no_file}
use Rattle.records.specs.Held.{opens_of, with_opens, with_files}
use Rattle.records.specs.declared.Open.{Open}
use Rattle.records.specs.declared.File.{File}
use Rattle.records.specs.declared.Tables.{Tables}

-- "a 32-bit change number": its largest value
abbrev pub LARGEST : ℕ
LARGEST = 4294967295

-- "raised by one ..; at its largest it stays"
abbrev pub raised : ℕ → ℕ
raised number = min (number + 1) LARGEST

unfoldable pub changes_of : Tables → ℕ → ℕ
changes_of t file = (get_or t.files file no_file).changes

-- a file after a change: its size then, and its change number raised
abbrev pub file_after : File → ℕ → File
file_after f size = record { size = size; changes = raised f.changes }

-- a file changed, and of that size then
abbrev pub with_change : Tables → ℕ → ℕ → Tables
with_change t file size = with_files t (set t.files file (file_after (get_or t.files file no_file) size))

-- "Each open remembers the number at its last granted read": and that it has read
abbrev pub open_after : Open → ℕ → Open
open_after o number =
    record {
      fid = o.fid;
      uid = o.uid;
      tid = o.tid;
      process = o.process;
      file = o.file;
      access = o.access;
      sharing = o.sharing;
      read = true;
      seen = number;
    }

unfoldable pub noting : ℕ → ℕ → Open → Open
noting fid number o = cond (eqb o.fid fid) (open_after o number) o

-- the open of that FID has read when the file's number was this; every other stands
abbrev pub with_read : Tables → ℕ → ℕ → Tables
with_read t fid number = with_opens t (map (noting fid number) (opens_of t))
