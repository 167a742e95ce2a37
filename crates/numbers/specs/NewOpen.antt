-- The open that a call adds: "UID, TID and FID are the smallest number from 1 not in use" (document 01, "Tables and room"). It has not read
-- (document 02, CR 8).
-- Assumes nothing.
use Rattle.std.specs.Prelude.{ℕ, false, map}
use Rattle.records.specs.declared.Open.{Open}
use Rattle.records.specs.declared.Tables.{Tables}
use Rattle.records.specs.Held.{opens_of}
use Rattle.numbers.specs.Number.{smallest_free}
use Rattle.numbers.specs.Column.{fid_of}

abbrev pub open_with : Tables → ℕ → ℕ → ℕ → ℕ → ℕ → ℕ → Open
open_with t uid tid process file access sharing =
    record { fid = smallest_free (map fid_of (opens_of t)); uid = uid; tid = tid; process = process; file = file; access = access; sharing = sharing; read = false; seen = 0 }
