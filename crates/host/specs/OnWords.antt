-- The host calls as the words of the tables take them. Words in use that do not fit are no sound tables: 4. Otherwise a call is the
-- definition's own, on the tables that the words hold.
-- Assumes nothing.
use Rattle.std.specs.Prelude.{◌≡◌, ℕ, true, cond, not, List, [], ◌∷◌, ◌++◌, length, take, eqb}
use Rattle.tables.specs.Words.{word, name_array, name_limits, table_fits, tables_of, in_use_fit}
use Rattle.tables.specs.Written.{Holds}
use Rattle.soundness.specs.Sound.{sound}
use Rattle.host.specs.declared.answer.Returned.{Returned}
use Rattle.std.proofs.Common.{Result}
use Rattle.host.specs.declared.answer.HostRefusal.{HostRefusal}
use Rattle.host.specs.HostCall.{refused, load_file, load_memory, set_catalogue}
use Rattle.host.specs.Outcome.{number_in, id_in}

unfoldable pub on_words : List ℕ → Returned → Returned
on_words w a = cond (in_use_fit w) a (refused 4 (tables_of w))

-- a load: a file memory that is not 65,536 bytes is refused before the words are looked at
unfoldable pub load_on_words : List ℕ → ℕ → List ℕ → List ℕ → Returned
load_on_words w file bytes memory =
    cond (not (eqb (length memory) 65536)) (refused 2 (tables_of w)) (on_words w (load_file (tables_of w) file bytes memory))

unfoldable pub memory_on_words : List ℕ → ℕ → List ℕ → List ℕ → List ℕ
memory_on_words w file bytes memory = cond (in_use_fit w) (load_memory (tables_of w) file bytes memory) memory

-- a catalogue: 225 words in the form of the tables' own. A word of a name in use that is no byte makes no name: 7
unfoldable pub set_on_sound : List ℕ → List ℕ → Returned
set_on_sound w given =
    cond (not (sound (tables_of w))) (refused 4 (tables_of w))
    (cond (table_fits name_limits 16 given) (set_catalogue (tables_of w) (name_array given) (word given 0)) (refused 7 (tables_of w)))

unfoldable pub set_on_words : List ℕ → List ℕ → Returned
set_on_words w given = on_words w (set_on_sound w given)

-- the row, and the number given out or the answer, of a call that answers a
pub record Gives (a : Returned) (r : Result ℕ HostRefusal) : Type 0 where
  pub row : number_in r ≡ a.number
  pub given : id_in r ≡ a.id

-- what a call that answers a leaves, where the words were `before`: the row and the number given out, words of the tables after the
-- call, every word as it was where it is refused, and words in use that fit where they did
pub record Left (a : Returned) (before after : List ℕ) (r : Result ℕ HostRefusal) : Type 0 where
  pub row : number_in r ≡ a.number
  pub given : id_in r ≡ a.id
  pub tables : tables_of after ≡ a.tables
  pub stays : (number_in r ≡ 0 → ⊥) → after ≡ before
  pub fit : in_use_fit before ≡ true → in_use_fit after ≡ true

-- a table with one record more, behind those in use; words in use that fit stay so
pub record Appended {A : Type 0} (array_in : List ℕ → List A) (limits : List ℕ) (room : ℕ) (z : A) (before after : List ℕ) (x : A) : Type 0 where
  pub holds : Holds array_in z before after (take (word before 0) (array_in before) ++ (x ∷ []))
  pub fit : table_fits limits room before ≡ true → table_fits limits room after ≡ true
