-- Small tables and files, with numbers that differ from one another. Assumes nothing.
use Rattle.std.specs.Prelude.{ℕ, ◌-◌, true, false, List, [], ◌∷◌, ◌++◌, length, replicate}
use Rattle.records.specs.declared.Session.{Session}
use Rattle.records.specs.declared.Tree.{Tree}
use Rattle.records.specs.declared.Open.{Open}
use Rattle.records.specs.declared.Lock.{Lock}
use Rattle.records.specs.declared.File.{File}
use Rattle.records.specs.declared.Name.{Name}
use Rattle.records.specs.declared.Tables.{Tables}
use Rattle.records.specs.Empty.{no_name}

unfoldable pub session : ℕ → ℕ → Session
session uid connection = record { uid = uid; connection = connection }

unfoldable pub tree : ℕ → ℕ → ℕ → Tree
tree tid uid right = record { tid = tid; uid = uid; right = right }

-- an open as the host adds it, with sharing code 4; it has not read
unfoldable pub open_of : ℕ → ℕ → ℕ → ℕ → ℕ → ℕ → Open
open_of fid uid tid process file access = record { fid = fid; uid = uid; tid = tid; process = process; file = file; access = access; sharing = 4; read = false; seen = 0 }

-- an open that has read when its file's change number was this (document 02, CR 8)
unfoldable pub having-read : ℕ → Open → Open
having-read number o =
    record { fid = o.fid; uid = o.uid; tid = o.tid; process = o.process; file = o.file; access = o.access; sharing = o.sharing; read = true; seen = number }

-- a name of the catalogue, its bytes and then zeros
unfoldable pub name : List ℕ → ℕ → Name
name bytes file = record { length = length bytes; text = bytes ++ replicate (12 - length bytes) 0; file = file }

-- 16 files: file 1 has a size of 6 and was changed 8 times, the others are empty and never were
unfoldable pub sizes : List File
sizes = record { size = 0; changes = 0 } ∷ record { size = 6; changes = 8 } ∷ replicate 14 (record { size = 0; changes = 0 })

-- tables with just those records, and no name in the catalogue
unfoldable pub tables_with : List Session → List Tree → List Open → List Lock → Tables
tables_with sessions trees opens locks =
    record {
      sessions = sessions;
      nsessions = length sessions;
      trees = trees;
      ntrees = length trees;
      opens = opens;
      nopens = length opens;
      locks = locks;
      nlocks = length locks;
      files = sizes;
      names = replicate 16 no_name;
      nnames = 0;
    }

-- UID 3 on connection 5, its tree TID 2 for reading and writing, and FID 4, an open of file 1 for both by process 0x0D0C1B1A
unfoldable pub few_records : Tables
few_records = tables_with (session 3 5 ∷ []) (tree 2 3 1 ∷ []) (open_of 4 3 2 0x0D0C1B1A 1 2 ∷ []) []

-- "in file memory of 65,536 bytes": file 1 stands at 4,096 and holds 6 bytes
unfoldable pub memory : List ℕ
memory = replicate 4096 0 ++ (0xA0 ∷ 0xA1 ∷ 0xA2 ∷ 0xA3 ∷ 0xA4 ∷ 0xA5 ∷ replicate 61434 0)
