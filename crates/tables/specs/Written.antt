-- What a function that writes a record or changes a table says, the words of a record, and the records in use.
-- Assumes nothing.
use Rattle.std.specs.Prelude.{ℕ, ◌≡◌, true, cond, List, [], ◌∷◌, ◌++◌, length, take, set}
use Rattle.lists.specs.Stored.{stored}
use Rattle.records.specs.declared.Session.{Session}
use Rattle.records.specs.declared.Tree.{Tree}
use Rattle.records.specs.declared.Open.{Open}
use Rattle.records.specs.declared.Lock.{Lock}
use Rattle.records.specs.declared.Name.{Name}
use Rattle.tables.specs.Words.{word, record_at, within, session_array, tree_array, open_array, lock_array, name_array}

-- record i of a table is now x, and its words fit; the words of every other record stand, and so does the count
pub record Wrote {A : Type 0} (array_in : List ℕ → List A) (limits before after : List ℕ) (i : ℕ) (x : A) : Type 0 where
  pub array : array_in after ≡ set (array_in before) i x
  pub count : word after 0 ≡ word before 0
  pub fit : within limits (record_at (length limits) after i) ≡ true
  pub stand : (j : ℕ) → (j ≡ i → ⊥) → record_at (length limits) after j ≡ record_at (length limits) before j

-- the same of a record whose words were in part left as they stood: they fit if they did
pub record Renewed {A : Type 0} (array_in : List ℕ → List A) (limits before after : List ℕ) (i : ℕ) (x : A) : Type 0 where
  pub array : array_in after ≡ set (array_in before) i x
  pub count : word after 0 ≡ word before 0
  pub fit : within limits (record_at (length limits) before i) ≡ true → within limits (record_at (length limits) after i) ≡ true
  pub stand : (j : ℕ) → (j ≡ i → ⊥) → record_at (length limits) after j ≡ record_at (length limits) before j

-- a table now holds just the records of a list: those given up are empty, those behind the counts as they were
pub record Holds {A : Type 0} (array_in : List ℕ → List A) (z : A) (before after : List ℕ) (list : List A) : Type 0 where
  pub array : array_in after ≡ stored z (array_in before) (length (take (word before 0) (array_in before))) list
  pub count : word after 0 ≡ length list

-- the words of a record
abbrev pub session_words : Session → List ℕ
session_words s = s.uid ∷ s.connection ∷ []

abbrev pub tree_words : Tree → List ℕ
tree_words t = t.tid ∷ t.uid ∷ t.right ∷ []

abbrev pub open_words : Open → List ℕ
open_words o = o.fid ∷ o.uid ∷ o.tid ∷ o.process ∷ o.file ∷ o.access ∷ o.sharing ∷ cond o.read 1 0 ∷ o.seen ∷ []

abbrev pub lock_words : Lock → List ℕ
lock_words l = l.fid ∷ l.process ∷ l.offset ∷ l.length ∷ cond l.shared 1 0 ∷ []

abbrev pub name_words : Name → List ℕ
name_words n = n.length ∷ (n.text ++ (n.file ∷ []))

-- the records in use, from the words of their own table
abbrev pub sessions_in : List ℕ → List Session
sessions_in w = take (word w 0) (session_array w)

abbrev pub trees_in : List ℕ → List Tree
trees_in w = take (word w 0) (tree_array w)

abbrev pub opens_in : List ℕ → List Open
opens_in w = take (word w 0) (open_array w)

abbrev pub locks_in : List ℕ → List Lock
locks_in w = take (word w 0) (lock_array w)

abbrev pub names_in : List ℕ → List Name
names_in w = take (word w 0) (name_array w)
