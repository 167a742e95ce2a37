-- The walk over the headers of a piece: what each header that is judged makes of the answer.
-- Assumes nothing.
use mathlib.Core.Path.{◌≡◌, sym, ap, ◌∙◌}
use Prim.Native.Nat.{ℕ, ◌+◌, ◌-◌, ◌≤◌, ◌<◌}
use mathlib.Core.List.{List}
use lib.ListN.{length, take, drop, get_or, length-drop}
use lib.Seq.{drop-drop, take_all}
use native.Mathlib.Omega.{arith}
use native.Mathlib.Nat.{le_of_eq}
use Rattle.stream.specs.Stream.{Judged}
use Rattle.stream.specs.Stream.{Stop, KeepAlive, Message}
use Rattle.stream.specs.Seen.{Short, Bad, Body}
use Rattle.stream.specs.Stream.{judge, begins_by, begins}
use Rattle.stream.specs.State.{header_begun}
use Rattle.stream.specs.Seen.{seen_of}
use Rattle.stream.specs.BeginsLaws.{begins-at, begins-short}

-- the header at a place
abbrev pub header_at : List ℕ → ℕ → Judged
header_at s at = judge (get_or s at 0) (get_or s (at + 1) 0) (get_or s (at + 2) 0) (get_or s (at + 3) 0)

module _ (piece : List ℕ) (from at : ℕ) (same : begins (drop at piece) ≡ begins (drop from piece)) (long : at + 4 ≤ length piece) where
  behind : length piece - length (drop 4 (drop at piece)) ≡ at + 4
  behind = rw (drop-drop 4 at piece, length-drop) (omega arith)

  by-header : (j : Judged) → header_at piece at ≡ j → begins (drop from piece) ≡ begins_by j (drop at piece) (begins (drop (at + 4) piece))
  by-header j e = sym same ∙ begins-at piece at long ∙ ap (λ (x : Judged). begins_by x (drop at piece) (begins (drop (at + 4) piece))) e

  pub pass-bad : (n : ℕ) → header_at piece at ≡ Stop n → Bad n (at + 4) ≡ seen_of (begins (drop from piece)) (length piece)
  unfolding seen_of begins_by
  pass-bad n e = rw (by-header (Stop n) e, behind)

  pub pass-body : (n : ℕ) → header_at piece at ≡ Message n → Body n (at + 4) ≡ seen_of (begins (drop from piece)) (length piece)
  unfolding seen_of begins_by
  pass-body n e = rw (by-header (Message n) e, behind)

  pub pass-alive : header_at piece at ≡ KeepAlive → begins (drop (at + 4) piece) ≡ begins (drop from piece)
  unfolding begins_by
  pass-alive e = sym (by-header KeepAlive e)

pub pass-short : (piece : List ℕ) (from at : ℕ) → begins (drop at piece) ≡ begins (drop from piece) → length piece - at < 4
    → Short (header_begun (take (length piece - at) (drop at piece))) ≡ seen_of (begins (drop from piece)) (length piece)
unfolding seen_of
pass-short piece from at same few =
    let size : length (drop at piece) ≡ length piece - at = length-drop at piece in
    let short : length (drop at piece) < 4 = omega arith in
    rw (← same, begins-short (drop at piece) short, take_all (length piece - at) (drop at piece) (le_of_eq size))
