-- The call that takes a message: which messages are fit to be answered, and sound tables stay sound whatever the call is given.
-- Assumes nothing.
use Rattle.std.specs.Prelude.{◌≡◌, ℕ, ◌≤◌, true, false, not, ◌||◌, List, length, eqb, ltb}
use Rattle.std.proofs.Common.{le-ltb, eq-eqb}
use Rattle.records.specs.declared.Tables.{Tables}
use Rattle.soundness.specs.Sound.{sound}
use Rattle.chain.specs.Header.{dropped}
use Rattle.message.specs.Message.{answered, Taken, not_taken, replied, take-message}
use Rattle.invariants.specs.GivenCases.{cond-case}
use Rattle.invariants.specs.Sound.{Good, answered-good}

-- "Every call on sound tables leaves sound tables": the call that takes a message, whatever it is given
pub take-message-good : (connection : ℕ) (s : List ℕ) (t : Tables) (memory room : List ℕ) → Good t → Good (take-message connection s t memory room).tables
unfolding take-message not_taken replied
take-message-good connection s t memory room g =
    cond-case (λ (r : Taken). Good r.tables) (ltb (length room) 12292 || not (eqb (length memory) 65536)) (not_taken 2 t memory room) _ (λ _. g)
    (λ _. cond-case (λ (r : Taken). Good r.tables) (not (sound t)) (not_taken 4 t memory room) _ (λ _. g)
    (λ _. cond-case (λ (r : Taken). Good r.tables) (dropped s) (not_taken 1 t memory room) (replied s room (answered connection s t memory)) (λ _. g)
    (λ _. answered-good connection s t memory g)))

-- "Fit to be answered: rows 1, 2 and 4 don't apply"
pub record Fit (s : List ℕ) (t : Tables) (memory room : List ℕ) : Type 0 where
  pub room-enough : 12292 ≤ length room
  pub memory-whole : length memory ≡ 65536
  pub tables-sound : sound t ≡ true
  pub not-dropped : dropped s ≡ false

-- such a message is answered
pub fit-answered : (connection : ℕ) (s : List ℕ) (t : Tables) (memory room : List ℕ) → Fit s t memory room
    → take-message connection s t memory room ≡ replied s room (answered connection s t memory)
unfolding take-message
fit-answered connection s t memory room f =
    rw (le-ltb (length room) 12292 f.room-enough, eq-eqb (length memory) 65536 f.memory-whole, f.tables-sound, f.not-dropped)
