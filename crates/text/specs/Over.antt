-- Text laid over a buffer from a place on, as far as the buffer has room.
-- Assumes nothing.
use Rattle.std.specs.Prelude.{◌≡◌, ℕ, min, ◌+◌, ◌-◌, List, length, take}
use Rattle.lists.specs.Put.{put}

-- the buffer d with the text x laid over it from place `at` on
unfoldable pub over : List ℕ → ℕ → List ℕ → List ℕ
over d at x = put d at (take (length d - at) x)

-- the place behind the text
unfoldable pub past : List ℕ → ℕ → List ℕ → ℕ
past d at x = at + min (length x) (length d - at)

-- what a writer of the text x leaves: the buffer and the next place
pub record Written (d : List ℕ) (at : ℕ) (x e : List ℕ) (to : ℕ) : Type 0 where
  pub buffer : e ≡ over d at x
  pub place : to ≡ past d at x
