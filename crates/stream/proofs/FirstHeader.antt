-- The header that the bytes begun and those of a piece make: judged where all four are in.
-- Assumes nothing.
use mathlib.Core.Path.{◌≡◌, ◌∙◌}
use Prim.Native.Nat.{ℕ, ◌+◌, ◌-◌, ◌≤◌, ◌<◌}
use mathlib.Core.List.{List, ◌++◌}
use lib.ListN.{length, drop, get_or, length-drop}
use native.Mathlib.Omega.{arith}
use Rattle.stream.specs.declared.state.State.{State}
use Rattle.stream.specs.Stream.{Judged}
use Rattle.stream.specs.Stream.{Stop, KeepAlive, Message}
use Rattle.stream.specs.Seen.{Short, Bad, Body}
use Rattle.stream.specs.Stream.{judge, begins_by, begins}
use Rattle.stream.specs.State.{header_words, header_begun, begun_bytes}
use Rattle.stream.specs.Seen.{seen_of}
use Rattle.stream.specs.BeginsLaws.{begins-short, begins-long}
use Rattle.stream.specs.StateLaws.{length-header, behind-header}

module _ (s : State) (few : s.begun ≤ 3) (piece : List ℕ) where
  -- the byte of the header at a place
  abbrev pub head_byte : ℕ → ℕ
  head_byte place = get_or (begun_bytes s ++ piece) place 0

  pub first_short : length piece < 4 - s.begun
      → Short (header_words (s.begun + length piece) (head_byte 0) (head_byte 1) (head_byte 2)) ≡ seen_of (begins (begun_bytes s ++ piece)) (length piece)
  unfolding seen_of header_begun
  first_short h =
      let size = length-header s few piece in
      let short : length (begun_bytes s ++ piece) < 4 = omega arith in
      rw (begins-short (begun_bytes s ++ piece) short, size)

  module _ (there : 4 - s.begun ≤ length piece) where
    by-judged : (j : Judged) → judge (head_byte 0) (head_byte 1) (head_byte 2) (head_byte 3) ≡ j
        → begins (begun_bytes s ++ piece) ≡ begins_by j (begun_bytes s ++ piece) (begins (drop (4 - s.begun) piece))
    by-judged j e =
        let size = length-header s few piece in
        let long : 4 ≤ length (begun_bytes s ++ piece) = omega arith in
        begins-long (begun_bytes s ++ piece) long ∙ rw (behind-header s few piece, e)

    place : length piece - length (drop 4 (begun_bytes s ++ piece)) ≡ 4 - s.begun
    place = rw (behind-header s few piece, length-drop) (omega arith)

    pub first-bad : (n : ℕ) → judge (head_byte 0) (head_byte 1) (head_byte 2) (head_byte 3) ≡ Stop n
        → Bad n (4 - s.begun) ≡ seen_of (begins (begun_bytes s ++ piece)) (length piece)
    unfolding seen_of begins_by
    first-bad n e = rw (by-judged (Stop n) e, place)

    pub first_body : (n : ℕ) → judge (head_byte 0) (head_byte 1) (head_byte 2) (head_byte 3) ≡ Message n
        → Body n (4 - s.begun) ≡ seen_of (begins (begun_bytes s ++ piece)) (length piece)
    unfolding seen_of begins_by
    first_body n e = rw (by-judged (Message n) e, place)

    pub first-alive : judge (head_byte 0) (head_byte 1) (head_byte 2) (head_byte 3) ≡ KeepAlive
        → seen_of (begins (drop (4 - s.begun) piece)) (length piece) ≡ seen_of (begins (begun_bytes s ++ piece)) (length piece)
    unfolding begins_by
    first-alive e = rw (by-judged KeepAlive e)
