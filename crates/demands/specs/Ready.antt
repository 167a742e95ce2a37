-- Words that are ready are never answered with 4, "tables not sound": since each call leaves ready words ready (`ForNext`), a host
-- that starts from `gateway_empty` and leaves the words alone never meets 4. Assumes nothing.
use Rattle.std.specs.Prelude.{◌≡◌, ℕ, true, false, ◌||◌, List, length, eqb, ltb}
use Rattle.std.proofs.Common.{arith}
use Rattle.std.proofs.Math.Bool.{not}
use Rattle.std.proofs.lemmas.Bool.{not-true}
use Rattle.lists.specs.Truth.{not-decided-twice, both_hold, test-cases}
use Rattle.records.specs.declared.Name.{Name}
use Rattle.records.specs.declared.Tables.{Tables}
use Rattle.soundness.specs.Sound.{sound}
use Rattle.host.specs.declared.answer.Returned.{Returned}
use Rattle.host.specs.HostCall.{refused}
use Rattle.chain.specs.Header.{dropped}
use Rattle.message.specs.Message.{Taken, not_taken, replied, answered, take-message}
use Rattle.host.specs.declared.ending.One.{One}
use Rattle.claims.specs.EndOne.{EndReason, end-unsound, end-unknown, end-done, end_one-reason}
use Rattle.claims.specs.HostReasons.{SessionReason, session-unsound, session-full, session-done, TreeReason, tree-unsound, tree-range, tree-nobody, tree-full, tree-done, OpenReason, open-unsound, open-range, open-nowhere, open-exceeds, open_full, open_done, LoadReason, load-memory, load-unsound, load-range, load-opened, load-done, DropReason, drop-unsound, drop-done, SetReason, set-unsound, set-broken, set-done, add_session-reason, add_tree-reason, add_open-reason, load_file-reason, drop_connection-reason}
use Rattle.claims.proofs.HostReasons.{set_catalogue-reason}
use Rattle.invariants.specs.GivenCases.{cond-case}
use Rattle.tables.specs.Words.{word, name_array, name_limits, table_fits, in_use_fit, tables_of}
use Rattle.boundary.specs.Boundary.{ready, number_of, session_added, tree_added, open_added, connection_dropped, one_ended, file_loaded, load_number_of, catalogue_set, message_taken, wrong_room}
use Rattle.boundary.proofs.BoundaryLaws.{set-core}
use Rattle.boundary.specs.BoundaryLaws.{set-no-bytes}

-- a call answers another number than 4
abbrev Takes : ℕ → Type 0
Takes n = n ≡ 4 → ⊥

-- ---- the core, on sound tables

module _ (t : Tables) (s : sound t ≡ true) where
  contrary : {n : ℕ} → sound t ≡ false → Takes n
  contrary f _ = not-decided-twice (sound t) s f

  session-takes : {n : ℕ} → SessionReason t n → Takes n
  session-takes (session-unsound f) = contrary f
  session-takes (session-full a b) = λ e. omega arith
  session-takes (session-done a b) = λ e. omega arith

  tree-takes : {uid right n : ℕ} → TreeReason t uid right n → Takes n
  tree-takes (tree-unsound f) = contrary f
  tree-takes (tree-range a b) = λ e. omega arith
  tree-takes (tree-nobody a b c) = λ e. omega arith
  tree-takes (tree-full a b c d) = λ e. omega arith
  tree-takes (tree-done a b c d) = λ e. omega arith

  open-takes : {uid tid file access n : ℕ} → OpenReason t uid tid file access n → Takes n
  open-takes (open-unsound f) = contrary f
  open-takes (open-range a b) = λ e. omega arith
  open-takes (open-nowhere a b c d) = λ e. omega arith
  open-takes (open-exceeds a b c d f) = λ e. omega arith
  open-takes (open_full a b c d f) = λ e. omega arith
  open-takes (open_done a b c d f) = λ e. omega arith

  load-takes : {file size memory n : ℕ} → LoadReason t file size memory n → Takes n
  load-takes (load-memory a) = λ e. omega arith
  load-takes (load-unsound a f) = contrary f
  load-takes (load-range a b c) = λ e. omega arith
  load-takes (load-opened a b c d f) = λ e. omega arith
  load-takes (load-done a b c d f) = λ e. omega arith

  drop-takes : {n : ℕ} → DropReason t n → Takes n
  drop-takes (drop-unsound f) = contrary f
  drop-takes (drop-done a) = λ e. omega arith

  end-takes : {one : One} {n : ℕ} → EndReason t one n → Takes n
  end-takes (end-unsound f) = contrary f
  end-takes (end-unknown a b) = λ e. omega arith
  end-takes (end-done a b) = λ e. omega arith

  set-takes : {names : List Name} {count n : ℕ} → SetReason t names count n → Takes n
  set-takes (set-unsound f) = contrary f
  set-takes (set-broken a b) = λ e. omega arith
  set-takes (set-done a b) = λ e. omega arith

  message-takes : (connection : ℕ) (m memory room : List ℕ) → Takes (take-message connection m t memory room).number
  unfolding take-message not_taken replied
  message-takes connection m memory room =
      cond-case (λ (k : Taken). Takes k.number) (ltb (length room) 12292 || not (eqb (length memory) 65536)) (not_taken 2 t memory room) _ (λ _ e. omega arith)
      (λ _. cond-case (λ (k : Taken). Takes k.number) (not (sound t)) (not_taken 4 t memory room) _ (λ u. contrary (not-true (sound t) u))
      (λ _. cond-case (λ (k : Taken). Takes k.number) (dropped m) (not_taken 1 t memory room) (replied m room (answered connection m t memory)) (λ _ e. omega arith)
      (λ _ e. omega arith)))

-- ---- the calls, on ready words

module _ (w : List ℕ) (h : ready w ≡ true) where
  ready-says : (in_use_fit w ≡ true) × (sound (tables_of w) ≡ true)
  unfolding ready
  ready-says = both_hold (in_use_fit w) (sound (tables_of w)) h

  number-takes : (a : Returned) → Takes a.number → Takes (number_of w a)
  unfolding number_of
  number-takes a n = rw ready-says.0 n

  pub session-ready : (connection : ℕ) → number_of w (session_added w connection) ≡ 4 → ⊥
  unfolding session_added
  session-ready connection = number-takes _ (session-takes (tables_of w) ready-says.1 (add_session-reason (tables_of w) connection))

  pub tree-ready : (uid right : ℕ) → number_of w (tree_added w uid right) ≡ 4 → ⊥
  unfolding tree_added
  tree-ready uid right = number-takes _ (tree-takes (tables_of w) ready-says.1 (add_tree-reason (tables_of w) uid right))

  pub open-ready : (uid tid process file access : ℕ) → number_of w (open_added w uid tid process file access) ≡ 4 → ⊥
  unfolding open_added
  open-ready uid tid process file access = number-takes _ (open-takes (tables_of w) ready-says.1 (add_open-reason (tables_of w) uid tid process file access))

  pub drop-ready : (connection : ℕ) → number_of w (connection_dropped w connection) ≡ 4 → ⊥
  unfolding connection_dropped
  drop-ready connection = number-takes _ (drop-takes (tables_of w) ready-says.1 (drop_connection-reason (tables_of w) connection))

  pub end-ready : (one : One) → number_of w (one_ended w one) ≡ 4 → ⊥
  unfolding one_ended
  end-ready one = number-takes _ (end-takes (tables_of w) ready-says.1 (end_one-reason (tables_of w) one))

  pub catalogue-ready : (given : List ℕ) → number_of w (catalogue_set w given) ≡ 4 → ⊥
  unfolding refused
  catalogue-ready given =
      number-takes _
      (test-cases (table_fits name_limits 16 given)
      (λ fit. rw (set-core w given fit) (set-takes (tables_of w) ready-says.1 (set_catalogue-reason (tables_of w) (name_array given) (word given 0))))
      (λ fit. rw (set-no-bytes w given ready-says.1 fit) (λ e. omega arith)))

  pub load-ready : (file : ℕ) (contents memory : List ℕ) → load_number_of w file contents memory ≡ 4 → ⊥
  unfolding load_number_of file_loaded
  load-ready file contents memory =
      cond-case Takes (not (eqb (length memory) 65536)) 2 _ (λ _ e. omega arith)
      (λ _. number-takes _ (load-takes (tables_of w) ready-says.1 (load_file-reason (tables_of w) file contents memory)))

  pub message-ready : (connection : ℕ) (m memory room : List ℕ) → (message_taken connection m w memory room).number ≡ 4 → ⊥
  unfolding message_taken not_taken
  message-ready connection m memory room =
      cond-case (λ (k : Taken). Takes k.number) (wrong_room memory room) (not_taken 2 (tables_of w) memory room) _ (λ _ e. omega arith)
      (λ _. rw ready-says.0 (message-takes (tables_of w) ready-says.1 connection m memory room))
