-- The three ways of a message's bytes: some are still to come, all stand in the piece, or the last of them do.
-- Assumes nothing.
use mathlib.Core.Path.{◌≡◌}
use Prim.Native.Nat.{ℕ, ◌+◌, ◌-◌, ◌≤◌, ◌<◌}
use mathlib.Core.List.{List}
use lib.ListN.{length, take, drop, length-drop}
use lib.Seq.{take_all}
use native.Mathlib.Omega.{arith}
use native.Mathlib.Nat.{le_of_eq}
use borrow.Author.Tests.{lt-leb, le-leb, eq-eqb, ne_eqb}
use Rattle.lists.specs.Put.{put}
use Rattle.stream.specs.Reader.{NoMessage, InPiece, InBuffer}
use Rattle.stream.specs.State.{none_begun, message_begun}
use Rattle.stream.specs.Reader.{step_of}
use Rattle.stream.specs.Seen.{gathered}

module _ (size got : ℕ) (buffer piece : List ℕ) (at : ℕ) where
  pub gather-wanted : length piece - at < size - got → (after : List ℕ) → after ≡ put buffer got (take (length piece - at) (drop at piece))
      → gathered size got buffer piece at ≡ record { step = step_of 0 (length piece) NoMessage (message_begun size (got + (length piece - at))); buffer = after }
  unfolding gathered
  gather-wanted h after e =
      rw (lt-leb (size - got) (length piece - at) h, e, take_all (length piece - at) (drop at piece) (le_of_eq (length-drop at piece)))

  module _ (there : size - got ≤ length piece - at) where
    pub gather-part : got ≡ 0 → gathered size got buffer piece at ≡ record { step = step_of 0 (at + (size - got)) (InPiece at size) none_begun; buffer = buffer }
    unfolding gathered
    gather-part none =
        let end : at + (size - got) ≡ at + size = omega arith in
        rw (le-leb (size - got) (length piece - at) there, eq-eqb got 0 none, end)

    pub gather-whole : (got ≡ 0 → ⊥) → (after : List ℕ) → after ≡ put buffer got (take (at + (size - got) - at) (drop at piece))
        → gathered size got buffer piece at ≡ record { step = step_of 0 (at + (size - got)) (InBuffer size) none_begun; buffer = after }
    unfolding gathered
    gather-whole some after e =
        let count : at + (size - got) - at ≡ size - got = omega arith in
        rw (le-leb (size - got) (length piece - at) there, ne_eqb got 0 some, e, count)
