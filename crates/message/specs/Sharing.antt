-- What opens of one file deny each other (document 02, CR 6): "access codes 0 to 2, sharing codes 1 to 4: deny both, deny write, deny read, deny
-- none". An open asks for what it may then do, and has it while it stands. Assumes nothing.
use Rattle.std.specs.Prelude.{ℕ, Bool, ◌&&◌, ◌||◌, eqb}
use Rattle.records.specs.declared.Open.{Open}

-- access 0 is reading, 1 writing, 2 both
unfoldable pub reads : ℕ → Bool
reads access = eqb access 0 || eqb access 2

unfoldable pub writes : ℕ → Bool
writes access = eqb access 1 || eqb access 2

unfoldable pub denies_reading : ℕ → Bool
denies_reading sharing = eqb sharing 1 || eqb sharing 3

unfoldable pub denies_writing : ℕ → Bool
denies_writing sharing = eqb sharing 1 || eqb sharing 2

-- something that goes with the access is denied by the sharing code
unfoldable pub denied : ℕ → ℕ → Bool
denied access sharing = (reads access && denies_reading sharing) || (writes access && denies_writing sharing)

-- "An open fails if it asks what another open of the file denies or denies what one has"
unfoldable pub kept_out : ℕ → ℕ → ℕ → Open → Bool
kept_out file access sharing o = eqb o.file file && (denied access o.sharing || denied o.access sharing)
