-- The small gateway of the case programs, by the definitions of the host calls. Assumes nothing.
use Rattle.std.specs.Prelude.{ℕ, List, [], ◌∷◌}
use Rattle.records.specs.declared.Tables.{Tables}
use Rattle.host.specs.HostCall.{no_tables, add_session, add_tree, add_open, load_file, load_memory}

-- "Certificates revoked by the office, one to a line, as of this morning: 0017 0042 ..", 120 bytes
unfoldable pub contents : List ℕ
contents =
    67 ∷ 101 ∷ 114 ∷ 116 ∷ 105 ∷ 102 ∷ 105 ∷ 99 ∷ 97 ∷ 116 ∷ 101 ∷ 115 ∷ 32 ∷ 114 ∷ 101 ∷ 118 ∷ 111 ∷ 107 ∷ 101 ∷ 100 ∷
    32 ∷ 98 ∷ 121 ∷ 32 ∷ 116 ∷ 104 ∷ 101 ∷ 32 ∷ 111 ∷ 102 ∷ 102 ∷ 105 ∷ 99 ∷ 101 ∷ 44 ∷ 32 ∷ 111 ∷ 110 ∷ 101 ∷ 32 ∷
    116 ∷ 111 ∷ 32 ∷ 97 ∷ 32 ∷ 108 ∷ 105 ∷ 110 ∷ 101 ∷ 44 ∷ 32 ∷ 97 ∷ 115 ∷ 32 ∷ 111 ∷ 102 ∷ 32 ∷ 116 ∷ 104 ∷ 105 ∷
    115 ∷ 32 ∷ 109 ∷ 111 ∷ 114 ∷ 110 ∷ 105 ∷ 110 ∷ 103 ∷ 58 ∷ 32 ∷ 48 ∷ 48 ∷ 49 ∷ 55 ∷ 32 ∷ 48 ∷ 48 ∷ 52 ∷ 50 ∷
    32 ∷ 48 ∷ 51 ∷ 49 ∷ 49 ∷ 32 ∷ 48 ∷ 55 ∷ 54 ∷ 56 ∷ 32 ∷ 48 ∷ 57 ∷ 48 ∷ 49 ∷ 32 ∷ 49 ∷ 48 ∷ 50 ∷ 52 ∷
    32 ∷ 49 ∷ 49 ∷ 56 ∷ 51 ∷ 32 ∷ 49 ∷ 51 ∷ 57 ∷ 57 ∷ 32 ∷ 49 ∷ 55 ∷ 55 ∷ 55 ∷ 32 ∷ 50 ∷ 48 ∷ 52 ∷ 56 ∷ []

-- the file loaded, then a session on connection 5, its tree with right 1, and an open of file 0 by process 7 for both
unfoldable pub terminal_tables : List ℕ → Tables
terminal_tables memory =
    (add_open (add_tree (add_session (load_file no_tables 0 contents memory).tables 5).tables 1 1).tables 1 1 7 0 2).tables

unfoldable pub terminal_memory : List ℕ → List ℕ
terminal_memory memory = load_memory no_tables 0 contents memory
