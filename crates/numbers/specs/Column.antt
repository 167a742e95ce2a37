-- The numbers of the records.
-- Assumes nothing.
use Rattle.std.specs.Prelude.{ℕ}
use Rattle.records.specs.declared.Session.{Session}
use Rattle.records.specs.declared.Tree.{Tree}
use Rattle.records.specs.declared.Open.{Open}

abbrev pub uid_of : Session → ℕ
uid_of s = s.uid

abbrev pub tid_of : Tree → ℕ
tid_of t = t.tid

abbrev pub fid_of : Open → ℕ
fid_of o = o.fid
