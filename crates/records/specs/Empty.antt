-- What stands in a record that is not in use.
-- Assumes nothing.
use Rattle.std.specs.Prelude.{false, replicate}
use Rattle.records.specs.declared.Session.{Session}
use Rattle.records.specs.declared.Tree.{Tree}
use Rattle.records.specs.declared.Open.{Open}
use Rattle.records.specs.declared.Lock.{Lock}
use Rattle.records.specs.declared.File.{File}
use Rattle.records.specs.declared.Name.{Name}

abbrev pub no_session : Session
no_session = record { uid = 0; connection = 0 }

abbrev pub no_tree : Tree
no_tree = record { tid = 0; uid = 0; right = 0 }

abbrev pub no_open : Open
no_open = record { fid = 0; uid = 0; tid = 0; process = 0; file = 0; access = 0; sharing = 0; read = false; seen = 0 }

abbrev pub no_lock : Lock
no_lock = record { fid = 0; process = 0; offset = 0; length = 0; shared = false }

abbrev pub no_file : File
no_file = record { size = 0; changes = 0 }

abbrev pub no_name : Name
no_name = record { length = 0; text = replicate 12 0; file = 0 }
