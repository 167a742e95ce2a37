-- What a host call leaves in each of its three ends: the words in use do not fit, the core refuses, the core is done.
-- Assumes nothing.
use Rattle.std.specs.Prelude.{◌≡◌, ℕ, ◌+◌, ◌*◌, ◌≤◌, Bool, true, not, ◌&&◌, List, length, replicate}
use Rattle.std.proofs.Math.Path.{refl, ap}
use Rattle.std.proofs.Common.{sym, ◌∙◌}
use Rattle.std.proofs.Math.Logic.{⊎_elim}
use Rattle.std.proofs.Math.Bool.{false}
use Rattle.std.proofs.lemmas.Bool.{false≢true}
use native.Mathlib.Omega.{arith}
use Rattle.std.proofs.Math.Dec.{eqb}
use borrow.Author.Tests.{eq-eqb, ne_eqb}
use Rattle.host.specs.declared.answer.Returned.{Returned}
use Rattle.host.specs.HostCall.{load_number, load_file, load_memory, refused, done, no_tables, set_catalogue}
use Rattle.host.specs.OnWords.{on_words, set_on_sound, set_on_words}
use Rattle.lists.specs.Truth.{decided, both_hold, hold-both}
use Rattle.records.specs.declared.Tables.{Tables}
use Rattle.soundness.specs.Sound.{sound}
use Rattle.invariants.specs.Shaped.{Shaped}
use Rattle.invariants.specs.Sound.{Good}
use Rattle.invariants.specs.HostCases.{by-test}
use Rattle.tables.specs.Words.{word, part, up_to, array_of, session_of, tree_of, open_of, lock_of, name_of, file_of, session_array, tree_array, open_array, lock_array, name_array, file_array, tables_of, name_limits, table_fits, in_use_fit}
use Rattle.tables.specs.ArrayLaws.{length-up_to, length-array}
use Rattle.boundary.specs.Boundary.{ready, ForNext, number_of, is_done, id_after, file_loaded, load_number_of, memory_after, catalogue_set}

-- ---- the tables that words hold

-- whatever the words are, they have the arrays' room
pub words-shaped : (w : List ℕ) → Shaped (tables_of w)
unfolding tables_of session_array tree_array open_array lock_array file_array name_array
words-shaped w =
    record {
      sessions16 = length-array session_of 2 16 (part w 0 33);
      trees32 = length-array tree_of 3 32 (part w 33 97);
      opens64 = length-array open_of 9 64 (part w 130 577);
      locks128 = length-array lock_of 5 128 (part w 707 641);
      files16 = length-up_to (λ i. file_of (word (part w 1348 32) (2 * i)) (word (part w 1348 32) (2 * i + 1))) 16;
      names16 = length-array name_of 14 16 (part w 1380 225);
    }

pub words-good : (w : List ℕ) → sound (tables_of w) ≡ true → Good (tables_of w)
words-good w e = record { sound = e; shaped = words-shaped w }

-- ---- for the next call

-- words in use that fit, of sound tables
pub ready_of : (out : List ℕ) (t : Tables) → in_use_fit out ≡ true → tables_of out ≡ t → sound t ≡ true → ready out ≡ true
unfolding ready
ready_of out t f e s = hold-both (in_use_fit out) (sound (tables_of out)) f (ap sound e ∙ s)

-- a refusal leaves the words
pub undone-next : (w : List ℕ) (r : ℕ) (t : Tables) → (r ≡ 0 → ⊥) → ForNext w w r t
undone-next w r t n = record { held = λ z. absurd (n z); kept = λ _. refl; again = λ e. e }

-- the words of the core's tables, where the core leaves sound tables sound
pub done_next : (w out : List ℕ) (t : Tables) → (in_use_fit w ≡ true → in_use_fit out ≡ true) → tables_of out ≡ t → (sound (tables_of w) ≡ true → sound t ≡ true)
    → ForNext w out 0 t
unfolding ready
done_next w out t f e keeps =
    record {
      held = λ _. e;
      kept = λ n. absurd (n refl);
      again = λ h. let b = both_hold (in_use_fit w) (sound (tables_of w)) h in ready_of out t (f b.0) e (keeps b.1);
    }

-- ---- a host call

-- what a call that gives back r leaves: the words out, and the out-parameter `after`
pub record Leaves (w : List ℕ) (id : ℕ) (a : Returned) (r : ℕ) (out : List ℕ) (after : ℕ) : Type 0 where
  pub number : r ≡ number_of w a
  pub given : after ≡ id_after id w a
  pub next : ForNext w out r a.tables

-- ---- a load

and-false : (b c : Bool) → c ≡ false → (b && c) ≡ false
and-false true c e = e
and-false false c e = refl

module _ (w : List ℕ) (file : ℕ) (contents memory : List ℕ) where
  -- file memory of another length
  pub wrong-undone : (length memory ≡ 65536 → ⊥) → is_done w (file_loaded w file contents memory) ≡ false
  unfolding is_done file_loaded load_file load_number refused
  wrong-undone n = and-false (in_use_fit w) _ (rw (ne_eqb (length memory) 65536 n))

  pub wrong-number : (length memory ≡ 65536 → ⊥) → 2 ≡ load_number_of w file contents memory
  unfolding load_number_of
  wrong-number n = rw (ne_eqb (length memory) 65536 n)

  -- file memory of the right one
  pub right-number : (r : ℕ) → length memory ≡ 65536 → r ≡ number_of w (file_loaded w file contents memory) → r ≡ load_number_of w file contents memory
  unfolding load_number_of
  right-number r e h = rw (eq-eqb (length memory) 65536 e) h

  pub unfit-memory : in_use_fit w ≡ false → memory ≡ memory_after w file contents memory
  unfolding memory_after is_done
  unfit-memory e = rw e

  pub done-memory : in_use_fit w ≡ true → eqb (load_file (tables_of w) file contents memory).number 0 ≡ true
      → load_memory (tables_of w) file contents memory ≡ memory_after w file contents memory
  unfolding memory_after is_done file_loaded
  done-memory e f = rw (e, f)

  pub refused-memory : in_use_fit w ≡ true → eqb (load_file (tables_of w) file contents memory).number 0 ≡ false → memory ≡ memory_after w file contents memory
  unfolding memory_after is_done file_loaded
  refused-memory e f = rw (e, f)

  -- the core leaves the file memory where it refuses
  pub core-refuses : eqb (load_file (tables_of w) file contents memory).number 0 ≡ false → load_memory (tables_of w) file contents memory ≡ memory
  unfolding load_file load_memory done
  core-refuses f =
      ⊎_elim (λ q. absurd (false≢true (sym f ∙ rw q))) (λ q. rw q)
      (decided (eqb (load_number (tables_of w) file (length contents) (length memory)) 0))

-- ---- a catalogue

module _ (w given : List ℕ) where
  -- the host call's answer on words is this one, where the words in use fit
  pub set-on-words : set_on_words w given ≡ on_words w (catalogue_set w given)
  unfolding set_on_words catalogue_set
  set-on-words = refl

  -- "Order: .. 4, 7"
  pub set-unsound : sound (tables_of w) ≡ false → catalogue_set w given ≡ refused 4 (tables_of w)
  unfolding catalogue_set set_on_sound
  set-unsound e = rw e

  pub set-no-bytes : sound (tables_of w) ≡ true → table_fits name_limits 16 given ≡ false → catalogue_set w given ≡ refused 7 (tables_of w)
  unfolding catalogue_set set_on_sound
  set-no-bytes e fit = rw (e, fit)

  pub core-unsound : sound (tables_of w) ≡ false → set_catalogue (tables_of w) (name_array given) (word given 0) ≡ refused 4 (tables_of w)
  unfolding set_catalogue
  core-unsound e = rw e

  pub core-sound : sound (tables_of w) ≡ true → table_fits name_limits 16 given ≡ true
      → catalogue_set w given ≡ set_catalogue (tables_of w) (name_array given) (word given 0)
  unfolding catalogue_set set_on_sound
  core-sound e fit = rw (e, fit)

  -- what holds of a refusal and of the core's answer holds of the call's
  pub set-either : (P : Returned → Type 0) → ((n : ℕ) → 1 ≤ n → P (refused n (tables_of w)))
      → P (set_catalogue (tables_of w) (name_array given) (word given 0)) → P (catalogue_set w given)
  unfolding catalogue_set set_on_sound
  set-either P turned core =
      by-test P (not (sound (tables_of w))) (refused 4 (tables_of w)) _ (λ _. turned 4 (omega arith)) λ _.
      by-test P (table_fits name_limits 16 given) (set_catalogue (tables_of w) (name_array given) (word given 0)) (refused 7 (tables_of w)) (λ _. core)
      (λ _. turned 7 (omega arith))

-- ---- tables to start from

-- every word is 0
pub empty-tables : tables_of (replicate 1605 0) ≡ no_tables
unfolding tables_of session_array tree_array open_array lock_array file_array name_array array_of up_to session_of tree_of open_of lock_of name_of no_tables
empty-tables = refl
