-- The records that the tables hold, as lists, and the tables with another list in place of one of them: records given up
-- become empty, records behind the counts stay as they were (`stored`), and so does every other table.
-- Assumes nothing.
use Rattle.std.specs.Prelude.{ℕ, List, length, take}
use Rattle.lists.specs.Stored.{stored}
use Rattle.records.specs.Empty.{no_session, no_tree, no_open, no_lock}
use Rattle.records.specs.declared.Session.{Session}
use Rattle.records.specs.declared.Tree.{Tree}
use Rattle.records.specs.declared.Open.{Open}
use Rattle.records.specs.declared.Lock.{Lock}
use Rattle.records.specs.declared.File.{File}
use Rattle.records.specs.declared.Name.{Name}
use Rattle.records.specs.declared.Tables.{Tables}

abbrev pub sessions_of : Tables → List Session
sessions_of t = take t.nsessions t.sessions

abbrev pub trees_of : Tables → List Tree
trees_of t = take t.ntrees t.trees

abbrev pub opens_of : Tables → List Open
opens_of t = take t.nopens t.opens

abbrev pub locks_of : Tables → List Lock
locks_of t = take t.nlocks t.locks

abbrev pub names_of : Tables → List Name
names_of t = take t.nnames t.names

unfoldable pub with_sessions : Tables → List Session → Tables
with_sessions t list =
    record {
      sessions = stored no_session t.sessions (length (sessions_of t)) list;
      nsessions = length list;
      trees = t.trees;
      ntrees = t.ntrees;
      opens = t.opens;
      nopens = t.nopens;
      locks = t.locks;
      nlocks = t.nlocks;
      files = t.files;
      names = t.names;
      nnames = t.nnames;
    }

unfoldable pub with_trees : Tables → List Tree → Tables
with_trees t list =
    record {
      sessions = t.sessions;
      nsessions = t.nsessions;
      trees = stored no_tree t.trees (length (trees_of t)) list;
      ntrees = length list;
      opens = t.opens;
      nopens = t.nopens;
      locks = t.locks;
      nlocks = t.nlocks;
      files = t.files;
      names = t.names;
      nnames = t.nnames;
    }

unfoldable pub with_opens : Tables → List Open → Tables
with_opens t list =
    record {
      sessions = t.sessions;
      nsessions = t.nsessions;
      trees = t.trees;
      ntrees = t.ntrees;
      opens = stored no_open t.opens (length (opens_of t)) list;
      nopens = length list;
      locks = t.locks;
      nlocks = t.nlocks;
      files = t.files;
      names = t.names;
      nnames = t.nnames;
    }

unfoldable pub with_locks : Tables → List Lock → Tables
with_locks t list =
    record {
      sessions = t.sessions;
      nsessions = t.nsessions;
      trees = t.trees;
      ntrees = t.ntrees;
      opens = t.opens;
      nopens = t.nopens;
      locks = stored no_lock t.locks (length (locks_of t)) list;
      nlocks = length list;
      files = t.files;
      names = t.names;
      nnames = t.nnames;
    }

unfoldable pub with_files : Tables → List File → Tables
with_files t list =
    record {
      sessions = t.sessions;
      nsessions = t.nsessions;
      trees = t.trees;
      ntrees = t.ntrees;
      opens = t.opens;
      nopens = t.nopens;
      locks = t.locks;
      nlocks = t.nlocks;
      files = list;
      names = t.names;
      nnames = t.nnames;
    }

-- document 02, CR 6: "a catalogue, set whole by the host": all its records, those behind the count too, and its count
unfoldable pub with_catalogue : Tables → List Name → ℕ → Tables
with_catalogue t list count =
    record {
      sessions = t.sessions;
      nsessions = t.nsessions;
      trees = t.trees;
      ntrees = t.ntrees;
      opens = t.opens;
      nopens = t.nopens;
      locks = t.locks;
      nlocks = t.nlocks;
      files = t.files;
      names = list;
      nnames = count;
    }
