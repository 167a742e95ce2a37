-- The names of the catalogue as they are tested in its words. Assumes nothing.
use Rattle.std.specs.Prelude.{ℕ, min, ◌+◌, ◌*◌, ◌%◌, Bool, not, ◌&&◌, ◌||◌, List, get_or, leb, eqb}
use Rattle.lists.specs.Walk.{all}
use Rattle.records.specs.Empty.{no_name}
use Rattle.tables.specs.Words.{word, up_to, record_at, within, name_array, name_limits}
use Rattle.catalogue.specs.Name.{name_ok}

-- the words of the name at a place: its length, its text and its file
abbrev pub long_at : List ℕ → ℕ → ℕ
long_at w i = word w (1 + 14 * i)

abbrev pub text_at : List ℕ → ℕ → ℕ → ℕ
text_at w i k = word w (2 + 14 * i + k)

abbrev pub file_at : List ℕ → ℕ → ℕ
file_at w i = word w (14 + 14 * i)

-- how many bytes the name has, and each of them
abbrev pub length_at : List ℕ → ℕ → ℕ
length_at w i = min (long_at w i % 256) 12

abbrev pub byte_at : List ℕ → ℕ → ℕ → ℕ
byte_at w i k = text_at w i k % 256

-- a word of a text is a byte and, where it is one of the first n, not zero
unfoldable pub byte_stands : ℕ → ℕ → ℕ → Bool
byte_stands n x k = leb x 255 && (leb n k || not (eqb x 0))

-- the same of the twelve words from a place on
unfoldable pub text_stands : List ℕ → ℕ → ℕ → Bool
text_stands w from n = all (λ k. byte_stands n (word w (from + k)) k) (up_to (λ k. k) 12)

-- the words of the name at a place fit, and it keeps the rules for one
abbrev pub name_stands : List ℕ → ℕ → Bool
name_stands w i = within name_limits (record_at 14 w i) && name_ok (get_or (name_array w) i no_name)

-- the same, as it is tested
abbrev pub name_tested : List ℕ → ℕ → Bool
name_tested w i = leb 1 (long_at w i) && (leb (long_at w i) 12 && (leb (file_at w i) 15 && text_stands w (2 + 14 * i) (long_at w i)))
