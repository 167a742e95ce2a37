-- A table filtered in its words, and the numbers that stand as marks: what the functions of one table say of it.
-- Assumes nothing.
use Rattle.std.specs.Prelude.{◌≡◌, ℕ, ◌<◌, Bool, true, false, not, ◌&&◌, List, map, take, get_or, set}
use Rattle.lists.specs.Walk.{keep}
use Rattle.records.specs.declared.Tree.{Tree}
use Rattle.records.specs.declared.Open.{Open}
use Rattle.records.specs.declared.Lock.{Lock}
use Rattle.records.specs.declared.Tables.{Tables}
use Rattle.records.specs.Held.{sessions_of, trees_of, opens_of}
use Rattle.tables.specs.Words.{word, up_to, records_fit, table_fits, tables_of, in_use_fit}
use Rattle.tables.specs.Written.{Holds}
use Rattle.numbers.specs.Number.{contains, numbered}
use Rattle.numbers.specs.Column.{uid_of, tid_of, fid_of}
use Rattle.removal.specs.declared.Gone.{Gone}
use Rattle.removal.specs.Removal.{tree_named, open_named, remove}

-- for each of 0 to 64 whether it is among the numbers: no number of a sound table is larger
unfoldable pub marks_of : List ℕ → List Bool
marks_of numbers = up_to (λ k. contains k numbers) 65

-- the numbers are those of sound tables: none is past the marks
pub record Numbered (t : Tables) : Type 0 where
  pub uids : numbered 16 (map uid_of (sessions_of t)) ≡ true
  pub tids : numbered 32 (map tid_of (trees_of t)) ≡ true
  pub fids : numbered 64 (map fid_of (opens_of t)) ≡ true

-- what a closure answers of each record is what f says
abbrev pub Tells : {A B : Type 0} → (A → B → Type 0) → (A → B) → Type 0
Tells {A} {B} answers f = (x : A) (y : B) → answers x y → y ≡ f x

-- what stays, told by marks: as `tree_stays`, `open_stays` and `lock_stays`
unfoldable pub tree_marked : Gone → List Bool → Tree → Bool
tree_marked gone uids t = not (tree_named gone t) && get_or uids t.uid false

unfoldable pub open_marked : Gone → List Bool → Open → Bool
open_marked gone tids o = not (open_named gone o) && get_or tids o.tid false

unfoldable pub lock_marked : List Bool → Lock → Bool
lock_marked fids l = get_or fids l.fid false

-- the record at one place moved to another, its own place empty: words that fit stay so
pub record Shifted {A : Type 0} (array_in : List ℕ → List A) (limits : List ℕ) (z : A) (before after : List ℕ) (from to : ℕ) : Type 0 where
  pub array : array_in after ≡ set (set (array_in before) from z) to (get_or (array_in before) from z)
  pub fit : (m : ℕ) → from < m → to < m → records_fit limits m before ≡ true → records_fit limits m after ≡ true

-- the records in use that pass p are left, in order; words in use that fit stay so
pub record Filtered {A : Type 0} (array_in : List ℕ → List A) (limits : List ℕ) (room : ℕ) (z : A) (p : A → Bool) (before after : List ℕ) : Type 0 where
  pub holds : Holds array_in z before after (keep p (take (word before 0) (array_in before)))
  pub fit : table_fits limits room before ≡ true → table_fits limits room after ≡ true

-- what is named is gone from the words, with what hangs on it; words in use that fit stay so
pub record Removed (gone : Gone) (before after : List ℕ) : Type 0 where
  pub tables : tables_of after ≡ remove gone (tables_of before)
  pub fit : in_use_fit before ≡ true → in_use_fit after ≡ true
