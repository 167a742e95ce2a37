-- Of specs/BoundaryLaws.antt: what rests on its other theorems. Assumes nothing.
use Rattle.std.specs.Prelude.{◌≡◌, ℕ, true, List, length, replicate}
use Rattle.std.proofs.Math.Path.{refl, ap}
use Rattle.std.proofs.Common.{sym, ◌∙◌}
use Rattle.std.proofs.Math.Logic.{⊎_elim}
use Rattle.std.proofs.Math.Bool.{false}
use native.Mathlib.Omega.{arith}
use Rattle.std.proofs.Math.Dec.{eqb}
use borrow.Author.Tests.{ne_eqb}
use Rattle.host.specs.declared.answer.Returned.{Returned}
use Rattle.host.specs.HostCall.{load_file, load_memory, refused, done, no_tables, set_catalogue}
use Rattle.lists.specs.Walk.{all}
use Rattle.lists.specs.Truth.{decided}
use Rattle.soundness.specs.Sound.{sound}
use Rattle.invariants.specs.HostCases.{set_catalogue-either}
use Rattle.invariants.specs.HostSound.{start-sound, set_catalogue-sound}
use Rattle.tables.specs.Words.{word, up_to, name_array, tables_of, name_limits, records_fit, table_fits, in_use_fit}
use Rattle.boundary.specs.Boundary.{ready, number_of, is_done, id_after, memory_after, catalogue_set}
use Rattle.boundary.specs.BoundaryLaws.{Leaves, core-refuses, core-sound, core-unsound, done-memory, done_next, empty-tables, ready_of, refused-memory, set-either, set-no-bytes, set-unsound, undone-next, wrong-undone}

module _ (w : List ℕ) (id : ℕ) (a : Returned) where
  pub unfit : in_use_fit w ≡ false → Leaves w id a 4 w id
  unfolding number_of id_after is_done
  unfit e = record { number = rw e; given = rw e; next = undone-next w 4 a.tables (λ z. omega arith) }

  module _ (e : in_use_fit w ≡ true) where
    pub refused-leaves : (r : ℕ) → r ≡ a.number → (r ≡ 0 → ⊥) → Leaves w id a r w id
    unfolding number_of id_after is_done
    refused-leaves r same n =
        let f : eqb a.number 0 ≡ false = ne_eqb a.number 0 (λ z. n (same ∙ z)) in
        record { number = rw (e, same); given = rw (e, f); next = undone-next w r a.tables n }

    -- the words out fit, and hold the tables that the core left
    pub done-leaves : (sound (tables_of w) ≡ true → sound a.tables ≡ true) → a.number ≡ 0 → (out : List ℕ) (after : ℕ)
        → after ≡ a.id → in_use_fit out ≡ true → tables_of out ≡ a.tables → Leaves w id a 0 out after
    unfolding number_of id_after is_done
    done-leaves keeps z out after given f t =
        record { number = rw (e, z); given = rw (e, z) given; next = done_next w out a.tables (λ _. f) t keeps }

module _ (w : List ℕ) (file : ℕ) (contents memory : List ℕ) where
  pub wrong-memory : (length memory ≡ 65536 → ⊥) → memory ≡ memory_after w file contents memory
  unfolding memory_after
  wrong-memory n = rw ((wrong-undone w file contents memory) n)

  pub fit-memory : in_use_fit w ≡ true → load_memory (tables_of w) file contents memory ≡ memory_after w file contents memory
  fit-memory e =
      ⊎_elim (λ q. (done-memory w file contents memory) e q) (λ q. (core-refuses w file contents memory) q ∙ (refused-memory w file contents memory) e q)
      (decided (eqb (load_file (tables_of w) file contents memory).number 0))

module _ (w given : List ℕ) where
  -- the core's own, where the words of the names in use are bytes
  pub set-core : table_fits name_limits 16 given ≡ true → catalogue_set w given ≡ set_catalogue (tables_of w) (name_array given) (word given 0)
  set-core fit = ⊎_elim (λ e. (core-sound w given) e fit) (λ e. (set-unsound w given) e ∙ sym ((core-unsound w given) e)) (decided (sound (tables_of w)))

  -- done, it is the core's, of names whose words are bytes
  pub set-done-fits : (catalogue_set w given).number ≡ 0 → table_fits name_limits 16 given ≡ true
  unfolding refused
  set-done-fits z =
      ⊎_elim (λ fit. fit)
      (λ fit.
      absurd
      (⊎_elim
      (λ e. let seven : (catalogue_set w given).number ≡ 7 = ap (λ (a : Returned). a.number) ((set-no-bytes w given) e fit) in let no : ⊥ = omega arith in no)
      (λ e. let four : (catalogue_set w given).number ≡ 4 = ap (λ (a : Returned). a.number) ((set-unsound w given) e) in let no : ⊥ = omega arith in no)
      (decided (sound (tables_of w)))))
      (decided (table_fits name_limits 16 given))

  -- "Every call on sound tables leaves sound tables"
  pub set-sound : sound (tables_of w) ≡ true → sound (catalogue_set w given).tables ≡ true
  unfolding refused
  set-sound e =
      (set-either w given) (λ a. sound a.tables ≡ true) (λ n some. e) (set_catalogue-sound (tables_of w) e (name_array given) (word given 0))

  -- no number is given out
  pub set-no-number : (catalogue_set w given).id ≡ 0
  unfolding refused done
  set-no-number =
      (set-either w given) (λ a. a.id ≡ 0) (λ n some. refl)
      (set_catalogue-either (tables_of w) (λ a. a.id ≡ 0) (λ n some. refl) (name_array given) (word given 0) (λ _ _. refl))

pub empty-ready : ready (replicate 1605 0) ≡ true
unfolding in_use_fit records_fit all up_to
empty-ready = ready_of (replicate 1605 0) no_tables refl empty-tables start-sound
