-- The two ways in which a host call can end (document 01, "What a call returns"): refused with a number other than 0, or
-- done, each test passed. What holds of both holds of the call's answer. Assumes nothing.
use Rattle.std.specs.Prelude.{◌≡◌, refl, Bool, true, false, cond, not, ◌||◌, List, [], ◌∷◌, ◌++◌, map, ℕ, ◌≤◌, ◌<◌, length, leb, eqb}
use Rattle.std.proofs.Math.Dec.{ltb}
use borrow.Author.Tests.{leb-false, ltb-false, not-false, eqb-true, eqb-false}
use Rattle.std.proofs.Common.{arith}
use Rattle.lists.specs.Walk.{any}
use Rattle.records.specs.declared.Name.{Name}
use Rattle.records.specs.declared.Tables.{Tables}
use Rattle.records.specs.Change.{with_change}
use Rattle.records.specs.Held.{sessions_of, trees_of, opens_of, with_sessions, with_trees, with_opens, with_catalogue}
use Rattle.numbers.specs.Number.{contains}
use Rattle.numbers.specs.Column.{uid_of}
use Rattle.catalogue.specs.Name.{catalogue_ok}
use Rattle.soundness.specs.Sound.{sound, holds_open}
use Rattle.removal.specs.Removal.{remove}
use Rattle.host.specs.declared.ending.One.{One}
use Rattle.host.specs.HostCall.{refused, done, new_session, add_session, new_tree, add_tree, new_open, add_open, is_of, load_number, load_file, drop_connection, is_there, gone_with, end_one, set_catalogue}
use Rattle.soundness.specs.Lookup.{is_tree}
use Rattle.host.specs.declared.answer.Returned.{Returned}
use Rattle.removal.specs.declared.Gone.TheVariants.{Connection}
use Rattle.lists.specs.Truth.{neither-holds}

-- what holds either way holds of the choice
pub by-test : {A : Type 0} (P : A → Type 0) (b : Bool) (x y : A) → (b ≡ true → P x) → (b ≡ false → P y) → P (cond b x y)
by-test P true x y f g = f refl
by-test P false x y f g = g refl

-- a load that is not refused has passed each test
pub record LoadPassed (t : Tables) (file size memory : ℕ) : Type 0 where
  pub whole : memory ≡ 65536
  pub tables : sound t ≡ true
  pub file15 : file ≤ 15
  pub size4096 : size ≤ 4096
  pub unopened : any (is_of file) (opens_of t) ≡ false

-- number 0 says that each test is passed
pub load-passed : (t : Tables) (file size memory : ℕ) → load_number t file size memory ≡ 0 → LoadPassed t file size memory
unfolding load_number
load-passed t file size memory =
    by-test Zero (not (eqb memory 65536)) 2 _ (λ b e. absurd (let z : ⊥ = omega arith in z)) λ whole.
    by-test Zero (not (sound t)) 4 _ (λ b e. absurd (let z : ⊥ = omega arith in z)) λ tables.
    by-test Zero (ltb 15 file || ltb 4096 size) 7 _ (λ b e. absurd (let z : ⊥ = omega arith in z)) λ within.
    by-test Zero (any (is_of file) (opens_of t)) 9 0 (λ b e. absurd (let z : ⊥ = omega arith in z)) λ unopened e.
    let both = neither-holds (ltb 15 file) (ltb 4096 size) within in
    record {
      whole = eqb-true memory 65536 (not-false (eqb memory 65536) whole);
      tables = not-false (sound t) tables;
      file15 = ltb-false 15 file both.0;
      size4096 = ltb-false 4096 size both.1;
      unopened = unopened;
    }
  where
    Zero : ℕ → Type 0
    Zero n = n ≡ 0 → LoadPassed t file size memory

-- an add of an open that is not refused has passed each test
pub record OpenPassed (t : Tables) (uid tid process file access : ℕ) : Type 0 where
  pub tables : sound t ≡ true
  pub file15 : file ≤ 15
  pub access2 : access ≤ 2
  pub held : any (holds_open (new_open t uid tid process file access)) (trees_of t) ≡ true
  pub room : t.nopens < 64

module _ (t : Tables) (P : Returned → Type 0) (no : (n : ℕ) → 1 ≤ n → P (refused n t)) where
  -- "4 tables not sound", "5 table full"; else done
  pub add_session-either : (connection : ℕ)
      → (sound t ≡ true → t.nsessions < 16 → P (done (new_session t connection).uid (with_sessions t (sessions_of t ++ (new_session t connection ∷ [])))))
      → P (add_session t connection)
  unfolding add_session
  add_session-either c did =
      by-test P (not (sound t)) (refused 4 t) _ (λ e. no 4 (omega arith)) λ a.
      by-test P (leb 16 t.nsessions) (refused 5 t) _ (λ e. no 5 (omega arith)) λ b.
      did (not-false (sound t) a) (leb-false 16 t.nsessions b)

  -- "4 tables not sound", "7 number out of range", "6 no such session", "5 table full"; else done
  pub add_tree-either : (uid right : ℕ)
      → (sound t ≡ true → right ≤ 1 → contains uid (map uid_of (sessions_of t)) ≡ true → t.ntrees < 32
      → P (done (new_tree t uid right).tid (with_trees t (trees_of t ++ (new_tree t uid right ∷ [])))))
      → P (add_tree t uid right)
  unfolding add_tree
  add_tree-either uid right did =
      by-test P (not (sound t)) (refused 4 t) _ (λ e. no 4 (omega arith)) λ a.
      by-test P (ltb 1 right) (refused 7 t) _ (λ e. no 7 (omega arith)) λ b.
      by-test P (not (contains uid (map uid_of (sessions_of t)))) (refused 6 t) _ (λ e. no 6 (omega arith)) λ c.
      by-test P (leb 32 t.ntrees) (refused 5 t) _ (λ e. no 5 (omega arith)) λ d.
      did (not-false (sound t) a) (ltb-false 1 right b) (not-false (contains uid (map uid_of (sessions_of t))) c) (leb-false 32 t.ntrees d)

  -- "4", "7 number out of range", "6 no such tree of that session", "8 open would exceed its tree's right", "5"; else done
  pub add_open-either : (uid tid process file access : ℕ)
      → (OpenPassed t uid tid process file access
      → P (done (new_open t uid tid process file access).fid (with_opens t (opens_of t ++ (new_open t uid tid process file access ∷ [])))))
      → P (add_open t uid tid process file access)
  unfolding add_open
  add_open-either uid tid process file access did =
      by-test P (not (sound t)) (refused 4 t) _ (λ e. no 4 (omega arith)) λ a.
      by-test P (ltb 15 file || ltb 2 access) (refused 7 t) _ (λ e. no 7 (omega arith)) λ b.
      by-test P (not (any (is_tree tid uid) (trees_of t))) (refused 6 t) _ (λ e. no 6 (omega arith)) λ c.
      by-test P (not (any (holds_open (new_open t uid tid process file access)) (trees_of t))) (refused 8 t) _ (λ e. no 8 (omega arith)) λ d.
      by-test P (leb 64 t.nopens) (refused 5 t) _ (λ e. no 5 (omega arith)) λ f.
      let both = neither-holds (ltb 15 file) (ltb 2 access) b in
      did (record {
        tables = not-false (sound t) a;
        file15 = ltb-false 15 file both.0;
        access2 = ltb-false 2 access both.1;
        held = not-false (any (holds_open (new_open t uid tid process file access)) (trees_of t)) d;
        room = leb-false 64 t.nopens f;
      })

  -- "2 file memory not 65,536", "4", "7 load over 4,096 bytes", "9 load of a file that has an open"; else done
  pub load_file-either : (file : ℕ) (bytes memory : List ℕ)
      → (LoadPassed t file (length bytes) (length memory) → P (done 0 (with_change t file (length bytes))))
      → P (load_file t file bytes memory)
  unfolding load_file
  load_file-either file bytes memory did =
      by-test P (eqb (load_number t file (length bytes) (length memory)) 0) (done 0 (with_change t file (length bytes))) _
      (λ a. did (load-passed t file (length bytes) (length memory) (eqb-true (load_number t file (length bytes) (length memory)) 0 a)))
      λ a.
      let other : load_number t file (length bytes) (length memory) ≡ 0 → ⊥ = eqb-false (load_number t file (length bytes) (length memory)) 0 a in
      no (load_number t file (length bytes) (length memory)) (omega arith)

  -- "4 tables not sound"; else done
  pub drop_connection-either : (connection : ℕ) → (sound t ≡ true → P (done 0 (remove (Connection connection) t))) → P (drop_connection t connection)
  unfolding drop_connection
  drop_connection-either c did = by-test P (not (sound t)) (refused 4 t) _ (λ e. no 4 (omega arith)) λ a. did (not-false (sound t) a)

  -- "4 tables not sound", then 6 for a number that no record has; else done
  pub end_one-either : (one : One) → (sound t ≡ true → is_there one t ≡ true → P (done 0 (remove (gone_with one) t))) → P (end_one t one)
  unfolding end_one
  end_one-either one did =
      by-test P (not (sound t)) (refused 4 t) _ (λ e. no 4 (omega arith)) λ a.
      by-test P (not (is_there one t)) (refused 6 t) _ (λ e. no 6 (omega arith)) λ b.
      did (not-false (sound t) a) (not-false (is_there one t) b)

  -- "4 tables not sound", then "7" for each of the catalogue's rules; else done
  pub set_catalogue-either : (names : List Name) (count : ℕ)
      → (sound t ≡ true → catalogue_ok names count ≡ true → P (done 0 (with_catalogue t names count))) → P (set_catalogue t names count)
  unfolding set_catalogue
  set_catalogue-either names count did =
      by-test P (not (sound t)) (refused 4 t) _ (λ e. no 4 (omega arith)) λ a.
      by-test P (not (catalogue_ok names count)) (refused 7 t) _ (λ e. no 7 (omega arith)) λ b.
      did (not-false (sound t) a) (not-false (catalogue_ok names count) b)
