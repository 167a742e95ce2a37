-- What a message call gives over words, in each of its rows, and what it leaves for the next call. Assumes nothing.
use Rattle.std.specs.Prelude.{◌≡◌, ℕ, ◌<◌, ◌≤◌, Bool, cond, not, ◌&&◌, ◌||◌, List, length, eqb, ltb}
use Rattle.std.proofs.Math.Path.{refl}
use Rattle.std.proofs.Math.Bool.{true, false}
use Rattle.std.proofs.Common.{eq-eqb, ne_eqb, lt-ltb, le-ltb}
use Rattle.lists.specs.Truth.{holds-second, both_hold}
use Rattle.soundness.specs.Sound.{sound}
use Rattle.chain.specs.Header.{dropped}
use Rattle.message.specs.Message.{Taken, not_taken, replied, answered, take-message}
use Rattle.tables.specs.Words.{tables_of, in_use_fit}
use Rattle.boundary.specs.OutParameter.{stands-else, given-done}
use Rattle.boundary.specs.Boundary.{wrong_room, message_taken, length_after, holder_words, holder_after}

pub room-short : (memory room : List ℕ) → length room < 12292 → wrong_room memory room ≡ true
unfolding wrong_room
room-short memory room h = rw (lt-ltb (length room) 12292 h)

pub memory-wrong : (memory room : List ℕ) → (length memory ≡ 65536 → ⊥) → wrong_room memory room ≡ true
unfolding wrong_room
memory-wrong memory room n = holds-second (ltb (length room) 12292) (not (eqb (length memory) 65536)) (rw (ne_eqb (length memory) 65536 n))

pub room-right : (memory room : List ℕ) → 12292 ≤ length room → length memory ≡ 65536 → wrong_room memory room ≡ false
unfolding wrong_room
room-right memory room h e = rw (le-ltb (length room) 12292 h, eq-eqb (length memory) 65536 e)

-- ---- the rows, in the order 2, 4, 1

module _ (connection : ℕ) (s w memory room : List ℕ) where
  -- "reply room under 12,292 bytes, or file memory not 65,536"
  pub row_room : wrong_room memory room ≡ true → not_taken 2 (tables_of w) memory room ≡ message_taken connection s w memory room
  unfolding message_taken
  row_room e = rw e

  module _ (right : wrong_room memory room ≡ false) where
    -- "tables not sound"
    pub unsound-by : (fit : Bool) → in_use_fit w ≡ fit → (fit && sound (tables_of w)) ≡ false
        → not_taken 4 (tables_of w) memory room ≡ message_taken connection s w memory room
    unfolding message_taken take-message wrong_room
    unsound-by true f e = rw (right, f, e)
    unsound-by false f e = rw (right, f)

    module _ (fit : (in_use_fit w && sound (tables_of w)) ≡ true) where
      -- "message dropped"
      pub row-dropped : dropped s ≡ true → not_taken 1 (tables_of w) memory room ≡ message_taken connection s w memory room
      unfolding message_taken take-message wrong_room
      row-dropped d = let b = both_hold (in_use_fit w) (sound (tables_of w)) fit in rw (right, b.0, b.1, d)

      -- a message fit to be answered
      pub row-answered : dropped s ≡ false → replied s room (answered connection s (tables_of w) memory) ≡ message_taken connection s w memory room
      unfolding message_taken take-message wrong_room
      row-answered d = let b = both_hold (in_use_fit w) (sound (tables_of w)) fit in rw (right, b.0, b.1, d)

-- ---- words in use that fit, and such as do not

over-words : (row : Bool) (x y z : Taken) → cond row x (cond true (cond row x y) z) ≡ cond row x y
over-words true x y z = refl
over-words false x y z = refl

-- demand 2's definition, on the tables that the words hold
pub message-fit : (connection : ℕ) (s w memory room : List ℕ) → in_use_fit w ≡ true
    → message_taken connection s w memory room ≡ take-message connection s (tables_of w) memory room
unfolding message_taken take-message wrong_room
message-fit connection s w memory room e =
    rw e (over-words (ltb (length room) 12292 || not (eqb (length memory) 65536)) (not_taken 2 (tables_of w) memory room) _ (not_taken 4 (tables_of w) memory room))

-- 2 where row 2 applies, else 4, and nothing changes
pub message-unfit : (connection : ℕ) (s w memory room : List ℕ) → in_use_fit w ≡ false
    → message_taken connection s w memory room ≡ cond (wrong_room memory room) (not_taken 2 (tables_of w) memory room) (not_taken 4 (tables_of w) memory room)
unfolding message_taken
message-unfit connection s w memory room e = rw e

-- ---- the reply's length and the holder: where nothing was written the out-parameters stand

module _ (before : ℕ) (k : Taken) where
  pub length-stands : (k.number ≡ 0 → ⊥) → before ≡ length_after before k
  unfolding length_after
  length-stands n = stands-else k.number k.length before n

  pub length-given : k.number ≡ 0 → k.length ≡ length_after before k
  unfolding length_after
  length-given e = given-done k.number k.length before e

module _ (before : List ℕ) (k : Taken) where
  pub holder-stands : (k.number ≡ 0 → ⊥) → before ≡ holder_after before k
  unfolding holder_after
  holder-stands n = stands-else k.number (holder_words k.holder) before n

  pub holder-given : k.number ≡ 0 → holder_words k.holder ≡ holder_after before k
  unfolding holder_after
  holder-given e = given-done k.number (holder_words k.holder) before e

-- ---- for the next call

pub unfit-tables : (w memory room : List ℕ) (row : Bool) → sound (tables_of w) ≡ true
    → sound (cond row (not_taken 2 (tables_of w) memory room) (not_taken 4 (tables_of w) memory room)).tables ≡ true
unfolding not_taken
unfit-tables w memory room true e = e
unfit-tables w memory room false e = e
