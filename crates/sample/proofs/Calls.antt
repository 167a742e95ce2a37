-- Host calls one after the other, on words in use that fit: each is the definition's own, and leaves such words.
-- Assumes nothing.
use mathlib.Core.Path.{◌≡◌, ◌∙◌}
use Prim.Native.Nat.{ℕ}
use mathlib.Core.Bool.{true}
use mathlib.Core.List.{List}
use lib.ListN.{length}
use lib.Dec.{eqb}
use Rattle.lists.specs.Truth.{test-cases}
use Rattle.records.specs.declared.Tables.{Tables}
use Rattle.tables.specs.Words.{tables_of, in_use_fit}
use Rattle.host.specs.declared.answer.Returned.{Returned}
use Rattle.host.specs.declared.answer.HostRefusal.{HostRefusal}
use Rattle.std.proofs.Common.{Result}
use Rattle.host.specs.HostCall.{load_number, load_file, load_memory}
use Rattle.host.specs.OnWords.{on_words, load_on_words, memory_on_words, Left}

-- words of these tables, those in use fit
pub record WordsOf (t : Tables) (w : List ℕ) : Type 0 where
  pub hold : tables_of w ≡ t
  pub fit : in_use_fit w ≡ true

module _ {t : Tables} {w : List ℕ} (from : WordsOf t w) where
  pub called : (f : Tables → Returned) (v : List ℕ) (r : Result ℕ HostRefusal) → Left (on_words w (f (tables_of w))) w v r → WordsOf (f t).tables v
  unfolding on_words
  called f v r l =
      record {
        hold = l.tables ∙ rw (from.fit, from.hold);
        fit = l.fit from.fit;
      }

  module _ (file : ℕ) (bytes memory : List ℕ) where
    load_same : load_on_words w file bytes memory ≡ load_file t file bytes memory
    unfolding load_on_words on_words load_file load_number
    load_same =
        test-cases (eqb (length memory) 65536)
        (λ e. rw (e, from.fit, from.hold))
        (λ e. rw (e, from.hold))

    pub loaded : (v : List ℕ) (r : Result ℕ HostRefusal) → Left (load_on_words w file bytes memory) w v r → WordsOf (load_file t file bytes memory).tables v
    loaded v r l = record { hold = l.tables ∙ rw load_same; fit = l.fit from.fit }

    pub memory-loaded : (m : List ℕ) → m ≡ memory_on_words w file bytes memory → m ≡ load_memory t file bytes memory
    unfolding memory_on_words
    memory-loaded m e = e ∙ rw (from.fit, from.hold)
