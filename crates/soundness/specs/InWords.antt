-- The rules of soundness as they are tested in the words of a table: a record's words r against tables by number. Where a rule
-- bounds a number below what its field can hold, the one test is both.
-- Assumes nothing.
use Rattle.std.specs.Prelude.{ℕ, ◌+◌, ◌*◌, Bool, not, ◌&&◌, ◌||◌, List, map, length, take, get_or, leb, ltb, eqb, cond, Option, Some, None}
use Rattle.lists.specs.Walk.{all}
use Rattle.locks.specs.Range.{passes_end}
use Rattle.records.specs.declared.Tree.{Tree}
use Rattle.records.specs.declared.Open.{Open}
use Rattle.numbers.specs.Number.{number_ok, numbered}
use Rattle.tables.specs.Words.{word, up_to, record_at, array_of, within, table_fits}
use Rattle.numbers.specs.ByNumber.{number_free}
use Rattle.soundness.specs.Sound.{sharing_ok}

-- the words of each of the n records of a table, k to a record
abbrev pub rows : ℕ → ℕ → List ℕ → List (List ℕ)
rows k n w = up_to (record_at k w) n

-- a record's rules, in front of the records behind it: its words fit, its number is in order, and it passes `ok`
unfoldable pub in_order : {A : Type 0} → List ℕ → (List ℕ → A) → ℕ → (A → ℕ) → (A → Bool) → List ℕ → List (List ℕ) → Bool
in_order limits f limit key ok r later = within limits r && (number_ok limit (key (f r)) (map (λ s. key (f s)) later) && ok (f r))

-- the same of all records in use
unfoldable pub table_in_order : {A : Type 0} → List ℕ → ℕ → (List ℕ → A) → ℕ → (A → ℕ) → (A → Bool) → List ℕ → Bool
table_in_order limits n f limit key ok w =
    table_fits limits n w
    && (numbered limit (map key (take (word w 0) (array_of f (length limits) n w))) && all ok (take (word w 0) (array_of f (length limits) n w)))

-- what a walk over a table gives: where its verdict holds, the table by number that it made
abbrev pub told : Bool → List ℕ → Option (List ℕ)
told verdict good = cond verdict (Some good) None

-- the number is marked with 1
unfoldable pub marked : List ℕ → ℕ → Bool
marked table number = ltb number (length table) && eqb (get_or table number 0) 1

-- ---- sessions: `uids` marks the UIDs behind this record

unfoldable pub session_stands : List ℕ → List ℕ → Bool
session_stands uids r = number_free 0 uids (word r 0) && leb (word r 1) 4294967295

-- ---- trees: `uids` marks the UIDs of all sessions, `codes` has the trees behind this record

-- a tree's UID and right as one number above 0
abbrev pub code_of : ℕ → ℕ → ℕ
code_of uid right = 2 * uid + 1 + right

abbrev pub tree_code : Tree → ℕ
tree_code t = code_of t.uid t.right

-- a tree's right is 0 or 1, and its session is marked
unfoldable pub tree_in : List ℕ → Tree → Bool
tree_in uids t = leb t.right 1 && eqb (get_or uids t.uid 0) 1

unfoldable pub tree_stands : List ℕ → List ℕ → List ℕ → Bool
tree_stands uids codes r = number_free 0 codes (word r 0) && (leb (word r 2) 1 && marked uids (word r 1))

-- ---- opens: `codes` has all trees, `files` the opens behind this record

-- the tree of that code is of that session, and permits the access
unfoldable pub code_holds : ℕ → ℕ → ℕ → Bool
code_holds code uid access = eqb code (2 * uid + 2) || (eqb code (2 * uid + 1) && eqb access 0)

-- the same of the tree with that TID, on words of any size
unfoldable pub holds_at : List ℕ → ℕ → ℕ → ℕ → Bool
holds_at codes tid uid access = leb uid 65535 && (ltb tid (length codes) && code_holds (get_or codes tid 0) uid access)

unfoldable pub open_in : List ℕ → Open → Bool
open_in codes o = leb o.file 15 && (leb o.access 2 && (sharing_ok o.sharing && code_holds (get_or codes o.tid 0) o.uid o.access))

unfoldable pub open_stands : List ℕ → List ℕ → List ℕ → Bool
open_stands codes files r =
    number_free 255 files (word r 0)
    && (leb (word r 3) 4294967295
    && (leb (word r 4) 15
    && (leb (word r 5) 2 && (sharing_ok (word r 6) && (leb (word r 7) 1 && holds_at codes (word r 2) (word r 1) (word r 5))))))

-- ---- locks

-- the lock's words fit, its FID has a file, and it does not pass 2^64
unfoldable pub lock_stands : List ℕ → List ℕ → Bool
lock_stands files r =
    leb (word r 4) 1
    && (leb (word r 1) 4294967295
    && (not (passes_end (word r 2) (word r 3)) && (ltb (word r 0) (length files) && not (eqb (get_or files (word r 0) 255) 255))))
