-- What the words say that the host lends: 1605 words of 64 bits, in the order in which a C struct has them.
--
--   0     how many sessions;  1     16 x (UID, connection)
--   33    how many trees;     34    32 x (TID, UID, right)
--   130   how many opens;     131   64 x (FID, UID, TID, process, file, access, sharing, read, seen)
--   707   how many locks;     708   128 x (FID, process, offset, length, shared)
--   1348  16 x (size, change number)
--   1380  how many names;     1381  16 x (length, 12 x (byte), file)
--
-- Assumes nothing.
use Rattle.std.specs.Prelude.{ℕ, zero, suc, min, ◌+◌, ◌*◌, ◌%◌, Bool, true, ◌&&◌, List, [], ◌∷◌, ◌++◌, map, length, take, drop, get_or, leb, eqb}
use Rattle.lists.specs.Walk.{all}
use Rattle.records.specs.declared.Session.{Session}
use Rattle.records.specs.declared.Tree.{Tree}
use Rattle.records.specs.declared.Open.{Open}
use Rattle.records.specs.declared.Lock.{Lock}
use Rattle.records.specs.declared.File.{File}
use Rattle.records.specs.declared.Name.{Name}
use Rattle.records.specs.declared.Tables.{Tables}

-- the word at a place
abbrev pub word : List ℕ → ℕ → ℕ
word w at = get_or w at 0

-- n words from a place on
abbrev pub part : List ℕ → ℕ → ℕ → List ℕ
part w from n = take n (drop from w)

module _ {A : Type 0} where
  -- the values of f at 0, 1, 2 and so on, n of them
  unfoldable pub up_to : (ℕ → A) → ℕ → List A
  up_to f zero = []
  up_to f (suc n) = up_to f n ++ (f n ∷ [])

-- ---- a record, from its words: each field is its word, cut to the field's width

unfoldable pub session_of : List ℕ → Session
session_of r = record { uid = word r 0 % 65536; connection = word r 1 % 4294967296 }

unfoldable pub tree_of : List ℕ → Tree
tree_of r = record { tid = word r 0 % 65536; uid = word r 1 % 65536; right = word r 2 % 256 }

unfoldable pub open_of : List ℕ → Open
open_of r =
    record {
      fid = word r 0 % 65536;
      uid = word r 1 % 65536;
      tid = word r 2 % 65536;
      process = word r 3 % 4294967296;
      file = word r 4 % 256;
      access = word r 5 % 256;
      sharing = word r 6 % 256;
      read = eqb (word r 7 % 2) 1;
      seen = word r 8;
    }

unfoldable pub lock_of : List ℕ → Lock
lock_of r =
    record {
      fid = word r 0 % 65536;
      process = word r 1 % 4294967296;
      offset = word r 2;
      length = word r 3;
      shared = eqb (word r 4 % 2) 1;
    }

unfoldable pub name_of : List ℕ → Name
name_of r = record { length = word r 0 % 256; text = map (λ x. x % 256) (part r 1 12); file = word r 13 % 256 }

abbrev pub file_of : ℕ → ℕ → File
file_of size changes = record { size = size; changes = changes }

-- ---- a table, from its own words: its count, then its records, k words each

-- the words of record i
abbrev pub record_at : ℕ → List ℕ → ℕ → List ℕ
record_at k w i = part w (1 + k * i) k

-- all n records, in use or not
unfoldable pub array_of : {A : Type 0} → (List ℕ → A) → ℕ → ℕ → List ℕ → List A
array_of f k n w = up_to (λ i. f (record_at k w i)) n

unfoldable pub session_array : List ℕ → List Session
session_array w = array_of session_of 2 16 w

unfoldable pub tree_array : List ℕ → List Tree
tree_array w = array_of tree_of 3 32 w

unfoldable pub open_array : List ℕ → List Open
open_array w = array_of open_of 9 64 w

unfoldable pub lock_array : List ℕ → List Lock
lock_array w = array_of lock_of 5 128 w

unfoldable pub name_array : List ℕ → List Name
name_array w = array_of name_of 14 16 w

-- the files have no count
unfoldable pub file_array : List ℕ → List File
file_array w = up_to (λ i. file_of (word w (2 * i)) (word w (2 * i + 1))) 16

-- ---- all tables

unfoldable pub tables_of : List ℕ → Tables
tables_of w =
    record {
      sessions = session_array (part w 0 33);
      nsessions = word (part w 0 33) 0;
      trees = tree_array (part w 33 97);
      ntrees = word (part w 33 97) 0;
      opens = open_array (part w 130 577);
      nopens = word (part w 130 577) 0;
      locks = lock_array (part w 707 641);
      nlocks = word (part w 707 641) 0;
      files = file_array (part w 1348 32);
      names = name_array (part w 1380 225);
      nnames = word (part w 1380 225) 0;
    }

-- ---- whether the words in use fit: each word of a record in use is a value of its field

-- the largest value of each field, in the order of a record's words; an offset, a length and a number seen are any word
abbrev pub session_limits : List ℕ
session_limits = 65535 ∷ 4294967295 ∷ []

abbrev pub tree_limits : List ℕ
tree_limits = 65535 ∷ 65535 ∷ 255 ∷ []

abbrev pub open_limits : List ℕ
open_limits = 65535 ∷ 65535 ∷ 65535 ∷ 4294967295 ∷ 255 ∷ 255 ∷ 255 ∷ 1 ∷ 18446744073709551615 ∷ []

abbrev pub lock_limits : List ℕ
lock_limits = 65535 ∷ 4294967295 ∷ 18446744073709551615 ∷ 18446744073709551615 ∷ 1 ∷ []

abbrev pub name_limits : List ℕ
name_limits = 255 ∷ 255 ∷ 255 ∷ 255 ∷ 255 ∷ 255 ∷ 255 ∷ 255 ∷ 255 ∷ 255 ∷ 255 ∷ 255 ∷ 255 ∷ 255 ∷ []

-- each word of a record is at most its limit
unfoldable pub within : List ℕ → List ℕ → Bool
within [] r = true
within (l ∷ ls) [] = true
within (l ∷ ls) (x ∷ xs) = leb x l && within ls xs

-- so are those of the first m records of a table
unfoldable pub records_fit : List ℕ → ℕ → List ℕ → Bool
records_fit limits m w = all (within limits) (up_to (record_at (length limits) w) m)

-- how many records of a table are in use; a count past the table's room counts the whole table
abbrev pub in_use : List ℕ → ℕ → ℕ
in_use w room = min (word w 0) room

abbrev pub table_fits : List ℕ → ℕ → List ℕ → Bool
table_fits limits room w = records_fit limits (in_use w room) w

unfoldable pub in_use_fit : List ℕ → Bool
in_use_fit w =
    table_fits session_limits 16 (part w 0 33)
    && (table_fits tree_limits 32 (part w 33 97)
    && (table_fits open_limits 64 (part w 130 577)
    && (table_fits lock_limits 128 (part w 707 641)
    && table_fits name_limits 16 (part w 1380 225))))
