-- A host call on the words leaves what the boundary says of it. Assumes nothing.
use mathlib.Core.Path.{◌≡◌, refl, sym, ap, ◌∙◌}
use mathlib.Core.Logic.{◌⊎◌, inl, inr, ⊎_elim}
use Prim.Native.Nat.{ℕ}
use native.Mathlib.Decide.{ℕ_discrete}
use native.Mathlib.Omega.{arith}
use mathlib.Core.Bool.{true, false}
use Rattle.std.proofs.Common.{Result, Ok, Err}
use mathlib.Core.List.{List}
use lib.ListN.{length}
use borrow.Author.Tests.{eq-eqb, ne_eqb}
use Rattle.lists.specs.Truth.{decided}
use Rattle.tables.specs.Words.{tables_of, in_use_fit}
use Rattle.soundness.specs.Sound.{sound}
use Rattle.host.specs.declared.answer.Returned.{Returned}
use Rattle.host.specs.declared.answer.HostRefusal.{HostRefusal}
use Rattle.host.specs.HostCall.{refused}
use Rattle.host.specs.Outcome.{number_in, id_in, refused-row}
use Rattle.gateway.specs.Given.{given_after}
use Rattle.host.specs.OnWords.{on_words, load_on_words, memory_on_words, Left, Gives}
use Rattle.boundary.specs.Boundary.{ForNext, number_of, is_done, id_after, file_loaded, load_number_of, memory_after}
use Rattle.boundary.specs.BoundaryLaws.{Leaves, undone-next, wrong-number, right-number, unfit-memory}
use Rattle.boundary.proofs.BoundaryLaws.{unfit, refused-leaves, done-leaves, fit-memory}

module _ (w : List ℕ) (a : Returned) where
  on-fit : in_use_fit w ≡ true → on_words w a ≡ a
  unfolding on_words
  on-fit e = rw e

  on-unfit : in_use_fit w ≡ false → (on_words w a).number ≡ 4
  unfolding on_words refused
  on-unfit e = rw e

  module _ (id : ℕ) (out : List ℕ) (r : Result ℕ HostRefusal) (l : Left (on_words w a) w out r) where
    pub refused-call : (number_in r ≡ 0 → ⊥) → Leaves w id a (number_in r) out id
    refused-call n =
        ⊎_elim
        (λ e. rw (l.stays n) (refused-leaves w id a e (number_in r) (l.row ∙ ap (λ (x : Returned). x.number) (on-fit e)) n))
        (λ e. rw (l.stays n, l.row ∙ on-unfit e) (unfit w id a e))
        (decided (in_use_fit w))

    pub done-call : (sound (tables_of w) ≡ true → sound a.tables ≡ true) → number_in r ≡ 0 → Leaves w id a 0 out (id_in r)
    done-call keeps z =
        ⊎_elim
        (λ e.
        done-leaves w id a e keeps (sym (l.row ∙ ap (λ (x : Returned). x.number) (on-fit e)) ∙ z) out (id_in r)
        (l.given ∙ ap (λ (x : Returned). x.id) (on-fit e))
        (l.fit e)
        (l.tables ∙ ap (λ (x : Returned). x.tables) (on-fit e)))
        (λ e. absurd (let four : number_in r ≡ 4 = l.row ∙ on-unfit e in let no : ⊥ = omega arith in no))
        (decided (in_use_fit w))

-- what a call leaves that answers another argument alike
pub alike : {a b : Returned} {w out : List ℕ} {r : Result ℕ HostRefusal} → a ≡ b → Left a w out r → Left b w out r
alike e l = rw (← e) l

-- ---- how a call ends, by what it gives

pub handed : (w : List ℕ) (a : Returned) (id : ℕ) (out : List ℕ) (r : Result ℕ HostRefusal) → Left (on_words w a) w out r → (sound (tables_of w) ≡ true → sound a.tables ≡ true)
    → Leaves w id a (number_in r) out (given_after id r)
handed w a id out (Ok given) l keeps = done-call w a id out (Ok given) l keeps refl
handed w a id out (Err why) l keeps = refused-call w a id out (Err why) l (refused-row why)

-- ---- a call that only reads

module _ (w : List ℕ) (a : Returned) (id : ℕ) where
  -- what the host sees of it
  pub record Answers (number given : ℕ) : Type 0 where
    pub number_is : number ≡ number_of w a
    pub given_is : given ≡ id_after id w a

  asked-fit : (r : Result ℕ HostRefusal) → in_use_fit w ≡ true → Gives a r → Answers (number_in r) (given_after id r)
  unfolding number_of id_after is_done
  asked-fit (Ok given) f e = record { number_is = rw f e.row; given_is = rw (f, eq-eqb a.number 0 (sym e.row)) e.given }
  asked-fit (Err why) f e = record { number_is = rw f e.row; given_is = rw (f, ne_eqb a.number 0 (λ z. refused-row why (e.row ∙ z))) }

  asked-unfit : (r : Result ℕ HostRefusal) → in_use_fit w ≡ false → number_in r ≡ 4 → Answers (number_in r) (given_after id r)
  unfolding number_of id_after is_done
  asked-unfit (Ok given) f e = absurd (let no : ⊥ = omega arith in no)
  asked-unfit (Err why) f e = record { number_is = rw f e; given_is = rw f }

  pub asked : (r : Result ℕ HostRefusal) → Gives (on_words w a) r → Answers (number_in r) (given_after id r)
  asked r e =
      ⊎_elim
      (λ f. asked-fit r f (rw (on-fit w a f) at e))
      (λ f. asked-unfit r f (e.row ∙ on-unfit w a f))
      (decided (in_use_fit w))

-- ---- a load

module _ (w : List ℕ) (file : ℕ) (contents memory : List ℕ) where
  pub load-memory : memory_on_words w file contents memory ≡ memory_after w file contents memory
  unfolding memory_on_words
  load-memory =
      ⊎_elim (λ e. rw e (fit-memory w file contents memory e)) (λ e. rw e (unfit-memory w file contents memory e)) (decided (in_use_fit w))

  right : length memory ≡ 65536 → load_on_words w file contents memory ≡ on_words w (file_loaded w file contents memory)
  unfolding load_on_words file_loaded
  right e = rw (eq-eqb (length memory) 65536 e)

  wrong : (length memory ≡ 65536 → ⊥) → (load_on_words w file contents memory).number ≡ 2
  unfolding load_on_words refused
  wrong n = rw (ne_eqb (length memory) 65536 n)

  module _ (out : List ℕ) (r : Result ℕ HostRefusal) (l : Left (load_on_words w file contents memory) w out r) where
    as-any : length memory ≡ 65536 → Left (on_words w (file_loaded w file contents memory)) w out r
    as-any e = rw (right e) at l

    -- what a load that gives back its number leaves
    pub record Loads : Type 0 where
      pub number : number_in r ≡ load_number_of w file contents memory
      pub next : ForNext w out (number_in r) (file_loaded w file contents memory).tables

    length-is : (length memory ≡ 65536) ⊎ (length memory ≡ 65536 → ⊥)
    length-is = elim (ℕ_discrete (length memory) 65536) [
      | yes e ↦ inl e
      | no n ↦ inr n
    ]

    pub refused-load : (number_in r ≡ 0 → ⊥) → Loads
    refused-load n =
        ⊎_elim
        (λ e. let k = refused-call w (file_loaded w file contents memory) 0 out r (as-any e) n in
        record { number = right-number w file contents memory (number_in r) e k.number; next = k.next })
        (λ q. record {
          number = l.row ∙ wrong q ∙ wrong-number w file contents memory q;
          next = rw (l.stays n) (undone-next w (number_in r) (file_loaded w file contents memory).tables n);
        })
        length-is

    pub done-load : (sound (tables_of w) ≡ true → sound (file_loaded w file contents memory).tables ≡ true) → number_in r ≡ 0 → Loads
    done-load keeps z =
        ⊎_elim
        (λ e. let k = done-call w (file_loaded w file contents memory) 0 out r (as-any e) keeps z in
        record { number = right-number w file contents memory (number_in r) e (z ∙ k.number); next = rw z k.next })
        (λ q. absurd (let two : number_in r ≡ 2 = l.row ∙ wrong q in let no : ⊥ = omega arith in no))
        length-is

    pub loaded : (sound (tables_of w) ≡ true → sound (file_loaded w file contents memory).tables ≡ true) → Loads
    loaded keeps = elim (ℕ_discrete (number_in r) 0) [
      | yes e ↦ done-load keeps e
      | no n ↦ refused-load n
    ]
