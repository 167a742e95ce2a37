-- What a host call's answer tells (document 01, "What a call returns"): the number given out by an add, and that a refusal
-- changes nothing. Assumes nothing.
use Rattle.std.specs.Prelude.{◌≡◌, true, false, List, [], ◌∷◌, ◌++◌, map, ℕ, ◌+◌, ◌≤◌, ◌<◌, length, take, eqb}
use Rattle.std.proofs.Math.Path.{refl}
use Rattle.std.proofs.Common.{sym, ◌∙◌, eqb-true, ne_eqb, arith}
use Rattle.std.proofs.Math.Logic.{inl, inr}
use Rattle.std.proofs.lemmas.List.{length-map}
use Rattle.records.specs.declared.Name.{Name}
use Rattle.records.specs.declared.Tables.{Tables}
use Rattle.records.specs.Held.{sessions_of, trees_of, opens_of}
use Rattle.numbers.specs.Number.{contains, smallest_free}
use Rattle.numbers.specs.Column.{uid_of, tid_of, fid_of}
use Rattle.host.specs.declared.ending.One.{One}
use Rattle.host.specs.HostCall.{refused, done, new_session, add_session, new_tree, add_tree, new_open, add_open, load_number, load_file, load_memory, drop_connection, end_one, set_catalogue}
use Rattle.host.specs.declared.answer.Returned.{Returned}
use Rattle.lists.specs.Truth.{decided}
use Rattle.invariants.specs.Number.{smallest-low, smallest-high, smallest-free, smallest-least}
use Rattle.invariants.specs.Shaped.{sessions-with, trees-with, opens-with}
use Rattle.lists.specs.RoomLaws.{held-fewer}
use Rattle.invariants.specs.HostCases.{add_session-either, add_tree-either, add_open-either, load_file-either, drop_connection-either, end_one-either, set_catalogue-either}

-- ---- "UID, TID and FID are the smallest number from 1 not in use"

-- the number is not in use, lies in 1 to the limit, and every smaller one from 1 is in use
pub record NewNumber (limit : ℕ) (used : List ℕ) (id : ℕ) : Type 0 where
  pub unused : contains id used ≡ false
  pub low : 1 ≤ id
  pub high : id ≤ limit
  pub least : (k : ℕ) → 1 ≤ k → k < id → contains k used ≡ true

-- where fewer than the limit are in use, the smallest free number is such a number
pub smallest-new : {A : Type 0} (f : A → ℕ) (limit n : ℕ) (xs : List A) → n < limit
    → NewNumber limit (map f (take n xs)) (smallest_free (map f (take n xs)))
smallest-new f limit n xs h =
    let high : smallest_free (map f (take n xs)) ≤ length (map f (take n xs)) + 1 = smallest-high (map f (take n xs)) in
    let long : length (map f (take n xs)) ≡ length (take n xs) = length-map (take n xs) f in
    let few : length (take n xs) < limit = held-fewer n xs limit h in
    record {
      unused = smallest-free (map f (take n xs));
      low = smallest-low (map f (take n xs));
      high = omega arith;
      least = smallest-least (map f (take n xs));
    }

-- a refusal's number is not 0
pub refused-not-done : (P : Returned → Type 0) (t : Tables) (n : ℕ) → 1 ≤ n → (refused n t).number ≡ 0 → P (refused n t)
unfolding refused
refused-not-done P t n h e = absurd (let z : ⊥ = omega arith in z)

module _ (t : Tables) where
  -- "for an add, the new number": of a session
  pub add_session-number : (connection : ℕ) → (add_session t connection).number ≡ 0
      → NewNumber 16 (map uid_of (sessions_of t)) (add_session t connection).id
  unfolding done new_session
  add_session-number c =
      add_session-either t (λ a. a.number ≡ 0 → NewNumber 16 (map uid_of (sessions_of t)) a.id)
      (refused-not-done (λ a. NewNumber 16 (map uid_of (sessions_of t)) a.id) t)
      c (λ a h e. smallest-new uid_of 16 t.nsessions t.sessions h)

  -- of a tree
  pub add_tree-number : (uid right : ℕ) → (add_tree t uid right).number ≡ 0
      → NewNumber 32 (map tid_of (trees_of t)) (add_tree t uid right).id
  unfolding done new_tree
  add_tree-number uid right =
      add_tree-either t (λ a. a.number ≡ 0 → NewNumber 32 (map tid_of (trees_of t)) a.id)
      (refused-not-done (λ a. NewNumber 32 (map tid_of (trees_of t)) a.id) t)
      uid right (λ a low named h e. smallest-new tid_of 32 t.ntrees t.trees h)

  -- of an open
  pub add_open-number : (uid tid process file access : ℕ) → (add_open t uid tid process file access).number ≡ 0
      → NewNumber 64 (map fid_of (opens_of t)) (add_open t uid tid process file access).id
  unfolding done new_open
  add_open-number uid tid process file access =
      add_open-either t (λ a. a.number ≡ 0 → NewNumber 64 (map fid_of (opens_of t)) a.id)
      (refused-not-done (λ a. NewNumber 64 (map fid_of (opens_of t)) a.id) t)
      uid tid process file access (λ p e. smallest-new fid_of 64 t.nopens t.opens p.room)

  -- ---- what was added has that number: "0 | done; .. for an add, the new number"

  -- "done; .. for an add, the new number": the session stands behind the others with that UID
  pub add_session-held : (connection : ℕ) → (add_session t connection).number ≡ 0
      → sessions_of (add_session t connection).tables ≡ sessions_of t ++ (record { uid = (add_session t connection).id; connection = connection } ∷ [])
  unfolding done new_session
  add_session-held c =
      add_session-either t (λ a. a.number ≡ 0 → sessions_of a.tables ≡ sessions_of t ++ (record { uid = a.id; connection = c } ∷ []))
      (refused-not-done (λ a. sessions_of a.tables ≡ sessions_of t ++ (record { uid = a.id; connection = c } ∷ [])) t)
      c (λ a h e. sessions-with t (sessions_of t ++ (new_session t c ∷ [])))

  -- "done; .. for an add, the new number": the tree stands behind the others with that TID
  pub add_tree-held : (uid right : ℕ) → (add_tree t uid right).number ≡ 0
      → trees_of (add_tree t uid right).tables ≡ trees_of t ++ (record { tid = (add_tree t uid right).id; uid = uid; right = right } ∷ [])
  unfolding done new_tree
  add_tree-held uid right =
      add_tree-either t (λ a. a.number ≡ 0 → trees_of a.tables ≡ trees_of t ++ (record { tid = a.id; uid = uid; right = right } ∷ []))
      (refused-not-done (λ a. trees_of a.tables ≡ trees_of t ++ (record { tid = a.id; uid = uid; right = right } ∷ [])) t)
      uid right (λ a low named h e. trees-with t (trees_of t ++ (new_tree t uid right ∷ [])))

  -- "done; .. for an add, the new number": the open stands behind the others with that FID
  pub add_open-held : (uid tid process file access : ℕ) → (add_open t uid tid process file access).number ≡ 0
      → opens_of (add_open t uid tid process file access).tables
      ≡ opens_of t ++ (record { fid = (add_open t uid tid process file access).id; uid = uid; tid = tid; process = process; file = file; access = access; sharing = 4; read = false; seen = 0 } ∷ [])
  unfolding done new_open
  add_open-held uid tid process file access =
      add_open-either t Held (refused-not-done HeldBy t) uid tid process file access
      (λ p e. opens-with t (opens_of t ++ (new_open t uid tid process file access ∷ [])))
    where
      HeldBy : Returned → Type 0
      HeldBy a = opens_of a.tables ≡ opens_of t ++ (record { fid = a.id; uid = uid; tid = tid; process = process; file = file; access = access; sharing = 4; read = false; seen = 0 } ∷ [])

      Held : Returned → Type 0
      Held a = a.number ≡ 0 → HeldBy a

-- ---- "A refusal of this table writes nothing at all"

-- the tables are those given, and the number beside is 0
pub record Unchanged (t : Tables) (a : Returned) : Type 0 where
  pub same_tables : a.tables ≡ t
  pub no_number : a.id ≡ 0

module _ (t : Tables) where
  unless-done : Returned → Type 0
  unless-done a = (a.number ≡ 0 → ⊥) → Unchanged t a

  refused-unchanged : (n : ℕ) → 1 ≤ n → unless-done (refused n t)
  unfolding refused unless-done
  refused-unchanged n h k = record { same_tables = refl; no_number = refl }

  done-not-refused : (id : ℕ) (u : Tables) → unless-done (done id u)
  unfolding done unless-done
  done-not-refused id u k = absurd (k refl)

  -- "A refusal of this table writes nothing at all": an add of a session, of tables not sound too
  pub add_session-refused : (connection : ℕ) → ((add_session t connection).number ≡ 0 → ⊥) → Unchanged t (add_session t connection)
  unfolding unless-done
  add_session-refused c = add_session-either t unless-done refused-unchanged c (λ a h. done-not-refused _ _)

  -- "A refusal of this table writes nothing at all": an add of a tree, of tables not sound too
  pub add_tree-refused : (uid right : ℕ) → ((add_tree t uid right).number ≡ 0 → ⊥) → Unchanged t (add_tree t uid right)
  unfolding unless-done
  add_tree-refused uid right = add_tree-either t unless-done refused-unchanged uid right (λ a b c d. done-not-refused _ _)

  -- "A refusal of this table writes nothing at all": an add of an open, of tables not sound too
  pub add_open-refused : (uid tid process file access : ℕ) → ((add_open t uid tid process file access).number ≡ 0 → ⊥)
      → Unchanged t (add_open t uid tid process file access)
  unfolding unless-done
  add_open-refused uid tid process file access =
      add_open-either t unless-done refused-unchanged uid tid process file access (λ p. done-not-refused _ _)

  -- "A refusal of this table writes nothing at all": the tables of a load, not sound too
  pub load_file-refused : (file : ℕ) (bytes memory : List ℕ) → ((load_file t file bytes memory).number ≡ 0 → ⊥) → Unchanged t (load_file t file bytes memory)
  unfolding unless-done
  load_file-refused file bytes memory = load_file-either t unless-done refused-unchanged file bytes memory (λ p. done-not-refused _ _)

  -- "A refusal of this table writes nothing at all": a drop, of tables not sound too
  pub drop_connection-refused : (connection : ℕ) → ((drop_connection t connection).number ≡ 0 → ⊥) → Unchanged t (drop_connection t connection)
  unfolding unless-done
  drop_connection-refused c = drop_connection-either t unless-done refused-unchanged c (λ a. done-not-refused _ _)

  -- "A refusal of this table writes nothing at all": a record that is to end, of tables not sound too
  pub end_one-refused : (one : One) → ((end_one t one).number ≡ 0 → ⊥) → Unchanged t (end_one t one)
  unfolding unless-done
  end_one-refused one = end_one-either t unless-done refused-unchanged one (λ a b. done-not-refused _ _)

  -- "A refusal of this table writes nothing at all": a catalogue, the tables not sound or a rule broken
  pub set_catalogue-refused : (names : List Name) (count : ℕ) → ((set_catalogue t names count).number ≡ 0 → ⊥) → Unchanged t (set_catalogue t names count)
  unfolding unless-done
  set_catalogue-refused names count = set_catalogue-either t unless-done refused-unchanged names count (λ a b. done-not-refused _ _)

  -- a load's number is that of its tests
  pub load_file-number : (file : ℕ) (bytes memory : List ℕ) → (load_file t file bytes memory).number ≡ load_number t file (length bytes) (length memory)
  unfolding load_file done refused
  load_file-number file bytes memory =
      elim (decided (eqb (load_number t file (length bytes) (length memory)) 0)) [
        | inl e ↦ rw e (sym (eqb-true (load_number t file (length bytes) (length memory)) 0 e))
        | inr e ↦ rw e
      ]

  -- and a load that is refused leaves the file memory too
  pub load_memory-refused : (file : ℕ) (bytes memory : List ℕ) → ((load_file t file bytes memory).number ≡ 0 → ⊥)
      → load_memory t file bytes memory ≡ memory
  unfolding load_memory
  load_memory-refused file bytes memory h =
      rw (ne_eqb (load_number t file (length bytes) (length memory)) 0 (λ e. h (load_file-number file bytes memory ∙ e)))
