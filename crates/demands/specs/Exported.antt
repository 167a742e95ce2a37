-- What the host sees of each exported function, in the core's own words: the number returned, the out-parameter and the words after
-- it are those of the core's call with the same arguments, on the tables that the words hold; and what a call that is done leaves in
-- them is what `HostFrames.antt` and `EndOne.antt` of `claims` say. From the equations of the contracts. Assumes nothing.
use Rattle.std.specs.Prelude.{◌≡◌, refl, ◌⊎◌, ◌↔◌, ℕ, ◌<◌, ◌≤◌, true, false, None as Nobody, Some as held_by}
use Rattle.std.proofs.Math.Path.{sym, ap}
use Rattle.std.proofs.Common.{◌∙◌, arith}
use Rattle.std.proofs.Math.Logic.{⊎_elim}
use mathlib.Core.List.{List, [], ◌∷◌, Memᴰ as In}
use Rattle.std.proofs.Math.ListN.{length}
use borrow.Author.Tests.{eq-eqb}
use Rattle.lists.specs.Truth.{decided}
use Rattle.records.specs.declared.Open.{Open}
use Rattle.records.specs.Held.{opens_of}
use Rattle.host.specs.declared.answer.Returned.{Returned}
use Rattle.host.specs.declared.ending.One.{One}
use Rattle.host.specs.HostCall.{refused, done, load_file, drop_connection, set_catalogue, ask_unchanged, end_one}
use Rattle.locks.specs.declared.types.Holder.{Holder}
use Rattle.message.specs.HeldBy.{HeldBy}
use Rattle.message.specs.Message.{Taken, not_taken, take-message}
use Rattle.invariants.specs.GivenCases.{cond-case}
use Rattle.invariants.specs.HostCases.{load_file-either, drop_connection-either, end_one-either}
use Rattle.tables.specs.Words.{word, name_array, name_limits, table_fits, in_use_fit, tables_of}
use Rattle.boundary.specs.Boundary.{ready, ForNext, number_of, is_done, id_after, connection_dropped, one_ended, file_loaded, load_number_of, memory_after, catalogue_set, wrong_room, message_taken}
use Rattle.boundary.specs.BoundaryLaws.{wrong-number}
use Rattle.boundary.proofs.BoundaryLaws.{set-no-number}
use Rattle.boundary.specs.MessageLaws.{room-right, row_room, message-fit, message-unfit}
use Rattle.claims.specs.AskUnchanged.{UpToDate}
use Rattle.claims.specs.HostFrames.{FileLoaded, CatalogueSet}
use Rattle.demands.specs.RoomKept.{refused-writes-nothing}

-- ---- the plain words

-- what the host reads off after a call: the number returned, the number given out, and the tables in the words
abbrev pub read_off : ℕ → ℕ → List ℕ → Returned
read_off r id out = record { number = r; id = id; tables = tables_of out }

-- a call on the words w, the out-parameter id before it, where the core answers a: it returns r, and leaves the words out and the
-- out-parameter `after`
pub record CallSeen (Left : Returned → Type 0) (w : List ℕ) (id : ℕ) (a : Returned) (r : ℕ) (out : List ℕ) (after : ℕ) : Type 0 where
  -- the core's number; a word in use that its field cannot hold is "tables not sound"
  pub number : in_use_fit w ≡ true → r ≡ a.number
  pub unfit : in_use_fit w ≡ false → r ≡ 4
  -- done: what is read off is the core's answer, and of that it leaves
  pub same : r ≡ 0 → read_off r after out ≡ a
  pub left : r ≡ 0 → Left (read_off r after out)
  -- "A refusal of this table writes nothing at all"
  pub kept : (r ≡ 0 → ⊥) → (out ≡ w) × (after ≡ id)
  -- "Every call on sound tables leaves sound tables"
  pub again : ready w ≡ true → ready out ≡ true

-- a load: the file memory before it and after it
pub record LoadSeen (w : List ℕ) (file : ℕ) (contents memory : List ℕ) (r : ℕ) (out after : List ℕ) : Type 0 where
  pub wrong-room : (length memory ≡ 65536 → ⊥) → r ≡ 2
  pub number : length memory ≡ 65536 → in_use_fit w ≡ true → r ≡ (load_file (tables_of w) file contents memory).number
  pub unfit : length memory ≡ 65536 → in_use_fit w ≡ false → r ≡ 4
  pub same : r ≡ 0 → read_off r 0 out ≡ load_file (tables_of w) file contents memory
  pub left : r ≡ 0 → FileLoaded (tables_of w) file contents memory (read_off r 0 out) after
  pub kept : (r ≡ 0 → ⊥) → (out ≡ w) × (after ≡ memory)
  pub again : ready w ≡ true → ready out ≡ true

-- the catalogue (document 02, CR 6): the 225 words given hold its names, where each word of a name in use is a byte
pub record CatalogueSeen (w given : List ℕ) (r : ℕ) (out : List ℕ) : Type 0 where
  pub not_sound : ready w ≡ false → r ≡ 4
  pub no_bytes : ready w ≡ true → table_fits name_limits 16 given ≡ false → r ≡ 7
  pub number : in_use_fit w ≡ true → table_fits name_limits 16 given ≡ true → r ≡ (set_catalogue (tables_of w) (name_array given) (word given 0)).number
  pub same : r ≡ 0 → read_off r 0 out ≡ set_catalogue (tables_of w) (name_array given) (word given 0)
  pub left : r ≡ 0 → CatalogueSet (tables_of w) (name_array given) (word given 0) (read_off r 0 out)
  pub kept : (r ≡ 0 → ⊥) → out ≡ w
  pub again : ready w ≡ true → ready out ≡ true

-- the question whether a file has changed (document 02, CR 8): the tables are lent for reading only. The answer is 1 for "unchanged", 0 for "changed"
pub record UnchangedSeen (w : List ℕ) (fid answer r after : ℕ) : Type 0 where
  pub number : in_use_fit w ≡ true → r ≡ (ask_unchanged (tables_of w) fid).number
  pub unfit : in_use_fit w ≡ false → r ≡ 4
  pub same : r ≡ 0 → after ≡ (ask_unchanged (tables_of w) fid).id
  -- so 1 exactly if the open of that FID has read, the numbers are equal and below the largest
  pub means : r ≡ 0 → (o : Open) → In o (opens_of (tables_of w)) → o.fid ≡ fid → (after ≡ 1) ↔ UpToDate (tables_of w) o
  pub kept : (r ≡ 0 → ⊥) → after ≡ answer

-- what the host reads off after a message, with the holder h
abbrev pub read_taken : ℕ → ℕ → HeldBy → List ℕ → List ℕ → List ℕ → Taken
read_taken r long h out memory room = record { number = r; length = long; holder = h; tables = tables_of out; memory = memory; room = room }

-- a message of a connection: words, file memory, reply room and the out-parameters of the length and the holder, before it and after it
pub record MessageSeen (connection : ℕ) (s w memory room : List ℕ) (long : ℕ) (held : List ℕ) (r : ℕ) (out memory' room' : List ℕ) (long' : ℕ) (held' : List ℕ) : Type 0 where
  pub wrong-room : (length room < 12292) ⊎ (length memory ≡ 65536 → ⊥) → r ≡ 2
  pub number : in_use_fit w ≡ true → r ≡ (take-message connection s (tables_of w) memory room).number
  pub unfit : 12292 ≤ length room → length memory ≡ 65536 → in_use_fit w ≡ false → r ≡ 4
  -- done: number, length, tables, file memory and reply room are demand 2's definition, and the six words are those of its holder: 1, FID, process, place, offset and
  -- length, or all zero where it has none
  pub same : r ≡ 0
      → read_taken r long' (take-message connection s (tables_of w) memory room).holder out memory' room' ≡ take-message connection s (tables_of w) memory room
  pub no-holder : r ≡ 0 → (take-message connection s (tables_of w) memory room).holder ≡ Nobody → held' ≡ 0 ∷ 0 ∷ 0 ∷ 0 ∷ 0 ∷ 0 ∷ []
  pub same-holder : r ≡ 0 → (h : Holder) → (take-message connection s (tables_of w) memory room).holder ≡ held_by h
      → held' ≡ 1 ∷ h.lock.fid ∷ h.lock.process ∷ h.place ∷ h.lock.offset ∷ h.lock.length ∷ []
  pub kept : (r ≡ 0 → ⊥) → (out ≡ w) × (memory' ≡ memory) × (room' ≡ room) × (long' ≡ long) × (held' ≡ held)
  pub again : ready w ≡ true → ready out ≡ true

-- ---- a host call

module _ (w : List ℕ) (id : ℕ) (a : Returned) (r : ℕ) (out : List ℕ) (after : ℕ)
    (number : r ≡ number_of w a) (given : after ≡ id_after id w a) (next : ForNext w out r a.tables) where
  pub number-fit : in_use_fit w ≡ true → r ≡ a.number
  unfolding number_of
  number-fit e = rw e at number

  pub number-unfit : in_use_fit w ≡ false → r ≡ 4
  unfolding number_of
  number-unfit e = rw e at number

module _ (w : List ℕ) (r : ℕ) (out : List ℕ) where
  -- a drop gives out no number
  pub drop-no-number : (connection : ℕ) → 0 ≡ id_after 0 w (connection_dropped w connection)
  unfolding id_after connection_dropped refused done
  drop-no-number connection =
      cond-case (λ k. 0 ≡ k) (is_done w (drop_connection (tables_of w) connection)) _ 0
      (λ _. drop_connection-either (tables_of w) (λ a. 0 ≡ a.id) (λ n some. refl) connection (λ sound. refl)) (λ _. refl)

  -- nor does ending a record
  pub end-no-number : (one : One) → 0 ≡ id_after 0 w (one_ended w one)
  unfolding id_after one_ended refused done
  end-no-number one =
      cond-case (λ k. 0 ≡ k) (is_done w (end_one (tables_of w) one)) _ 0
      (λ _. end_one-either (tables_of w) (λ a. 0 ≡ a.id) (λ n some. refl) one (λ sound there. refl)) (λ _. refl)

  -- `gateway_load_file`
  module _ (file : ℕ) (contents memory after : List ℕ) (number : r ≡ load_number_of w file contents memory)
      (bytes : after ≡ memory_after w file contents memory) (next : ForNext w out r (file_loaded w file contents memory).tables) where
    pub load-wrong : (length memory ≡ 65536 → ⊥) → r ≡ 2
    load-wrong n = number ∙ sym (wrong-number w file contents memory n)

    -- where the file memory is whole, as of any call
    pub load-number : length memory ≡ 65536 → r ≡ number_of w (file_loaded w file contents memory)
    unfolding load_number_of
    load-number e = rw (eq-eqb (length memory) 65536 e) at number

    pub load-no-number : 0 ≡ id_after 0 w (file_loaded w file contents memory)
    unfolding id_after file_loaded refused done
    load-no-number =
        cond-case (λ k. 0 ≡ k) (is_done w (load_file (tables_of w) file contents memory)) _ 0
        (λ _. load_file-either (tables_of w) (λ a. 0 ≡ a.id) (λ n some. refl) file contents memory (λ passed. refl)) (λ _. refl)

  -- `gateway_set_catalogue`
  module _ (given : List ℕ) (number : r ≡ number_of w (catalogue_set w given)) (next : ForNext w out r (catalogue_set w given).tables) where
    pub set_given : 0 ≡ id_after 0 w (catalogue_set w given)
    unfolding id_after
    set_given = cond-case (λ k. 0 ≡ k) (is_done w (catalogue_set w given)) _ 0 (λ _. sym (set-no-number w given)) (λ _. refl)

-- ---- a message

module _ (connection : ℕ) (s w memory room : List ℕ) (long : ℕ) (held : List ℕ) (r : ℕ) (out memory' room' : List ℕ) (long' : ℕ) (held' : List ℕ) where
  abbrev pub given : Taken
  given = message_taken connection s w memory room

  -- a refusal gives back what it was given
  pub refused-given-back : (given.number ≡ 0 → ⊥) → given ≡ not_taken given.number (tables_of w) memory room
  unfolding not_taken
  refused-given-back =
      ⊎_elim
      (λ e. rw (message-fit connection s w memory room e) (refused-writes-nothing connection s (tables_of w) memory room))
      (λ e.
      rw (message-unfit connection s w memory room e)
      (cond-case (λ (k : Taken). (k.number ≡ 0 → ⊥) → k ≡ not_taken k.number (tables_of w) memory room) (wrong_room memory room) _ _ (λ _ n. refl) (λ _ n. refl)))
      (decided (in_use_fit w))

  -- the core's call, on words that fit
  pub core : in_use_fit w ≡ true → given ≡ take-message connection s (tables_of w) memory room
  core e = message-fit connection s w memory room e

  pub unfit-number : in_use_fit w ≡ false → given.number ≡ 0 → ⊥
  unfolding not_taken
  unfit-number e =
      rw (message-unfit connection s w memory room e)
      (cond-case (λ (k : Taken). k.number ≡ 0 → ⊥) (wrong_room memory room) _ _ (λ _ z. omega arith) (λ _ z. omega arith))

  pub wrong-two : wrong_room memory room ≡ true → given.number ≡ 2
  unfolding not_taken
  wrong-two e = ap (λ (k : Taken). k.number) (sym (row_room connection s w memory room e))

  pub unfit-four : 12292 ≤ length room → length memory ≡ 65536 → in_use_fit w ≡ false → given.number ≡ 4
  unfolding not_taken
  unfit-four h e f = rw (message-unfit connection s w memory room f, room-right memory room h e)
