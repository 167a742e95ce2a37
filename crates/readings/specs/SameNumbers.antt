-- The same bytes make the same number, wherever they stand.
-- Assumes nothing.
use Rattle.std.specs.Prelude.{◌≡◌, ℕ, ◌+◌, ◌<◌, List}
use Rattle.std.proofs.Common.{add-zero, arith}
use Rattle.wire.specs.LittleEndian.{byte_at, le16_at, le32_at}

module _ (s : List ℕ) (at : ℕ) (t : List ℕ) (to : ℕ) where
  -- the bytes from one place on are those from another on
  abbrev pub SameBytes : ℕ → Type 0
  SameBytes size = (j : ℕ) → j < size → byte_at t (to + j) ≡ byte_at s (at + j)

  -- the byte there
  same_byte : SameBytes 1 → byte_at t to ≡ byte_at s at
  same_byte same = rw (add-zero to, add-zero at) at (same 0 (omega arith))

  -- a number of two bytes
  pub same-16 : SameBytes 2 → le16_at t to ≡ le16_at s at
  unfolding le16_at
  same-16 same = rw (same_byte (λ j l. same j (omega arith)), same 1 (omega arith))

-- a number of four bytes
pub same-32 : (s : List ℕ) (at : ℕ) (t : List ℕ) (to : ℕ) → SameBytes s at t to 4 → le32_at t to ≡ le32_at s at
unfolding le32_at
same-32 s at t to same =
    let low : le16_at t to ≡ le16_at s at = same-16 s at t to (λ j l. same j (omega arith)) in
    let high : le16_at t (to + 2) ≡ le16_at s (at + 2) =
    same-16 s (at + 2) t (to + 2)
    (λ j l.
    let e : to + 2 + j ≡ to + (2 + j) = omega arith in
    let f : at + 2 + j ≡ at + (2 + j) = omega arith in
    rw (e, f) (same (2 + j) (omega arith))) in
    rw (low, high)
