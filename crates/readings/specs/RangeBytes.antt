-- A lock range is read from its bytes but for the pad of the longer form: "process 2, pad 2, offset high 4, low 4, length high 4, low 4".
-- Assumes nothing.
use Rattle.std.specs.Prelude.{◌≡◌, refl, ℕ, zero, suc, ◌+◌, ◌*◌, ◌≤◌, ◌<◌, Bool, true, false, List}
use Rattle.std.proofs.Common.{arith}
use Rattle.wire.specs.LittleEndian.{byte_at, le16_at, le32_at}
use Rattle.locks.specs.Wire.{range_size, number_at, range_from, range_at, ranges_at}
use Rattle.readings.specs.SameNumbers.{same-16, same-32}

-- the i-th range of two areas, from 0, has the same bytes but for the pad
abbrev pub SameRange : Bool → List ℕ → List ℕ → ℕ → Type 0
SameRange large a b i =
    (j : ℕ) → j < range_size large → (large ≡ true → 2 ≤ j → j < 4 → ⊥) → byte_at b (i * range_size large + j) ≡ byte_at a (i * range_size large + j)

-- it is the same range
range_same : (large : Bool) (a b : List ℕ) (i : ℕ) → SameRange large a b i → range_at large b i ≡ range_at large a i
unfolding range_at range_from number_at range_size
range_same true a b i same =
    let four : (k : ℕ) → 4 ≤ k → k + 4 ≤ 20 → le32_at b (i * 20 + k) ≡ le32_at a (i * 20 + k) =
    λ k p q. same-32 a (i * 20 + k) b (i * 20 + k)
    (λ j l. let e : i * 20 + k + j ≡ i * 20 + (k + j) = omega arith in rw e (same (k + j) (omega arith) (λ _ f g. omega arith))) in
    let process : le16_at b (i * 20) ≡ le16_at a (i * 20) = same-16 a (i * 20) b (i * 20) (λ j l. same j (omega arith) (λ _ f g. omega arith)) in
    let e : i * 20 + 4 + 4 ≡ i * 20 + 8 = omega arith in
    let f : i * 20 + 12 + 4 ≡ i * 20 + 16 = omega arith in
    rw (e, f, process, four 4 (omega arith) (omega arith), four 8 (omega arith) (omega arith), four 12 (omega arith) (omega arith), four 16 (omega arith) (omega arith))
range_same false a b i same =
    let four : (k : ℕ) → k + 4 ≤ 10 → le32_at b (i * 10 + k) ≡ le32_at a (i * 10 + k) =
    λ k q. same-32 a (i * 10 + k) b (i * 10 + k)
    (λ j l. let e : i * 10 + k + j ≡ i * 10 + (k + j) = omega arith in rw e (same (k + j) (omega arith) (λ n f g. let no : ◌≡◌ {A = ℕ} 0 1 = cc in omega arith))) in
    let process : le16_at b (i * 10) ≡ le16_at a (i * 10) =
    same-16 a (i * 10) b (i * 10) (λ j l. same j (omega arith) (λ _ f g. omega arith)) in
    rw (process, four 2 (omega arith), four 6 (omega arith))

-- so are the ranges of a list
pub ranges-same : (large : Bool) (a b : List ℕ) (k n : ℕ) → ((i : ℕ) → k ≤ i → i < k + n → SameRange large a b i) → ranges_at large b k n ≡ ranges_at large a k n
unfolding ranges_at
ranges-same large a b k zero same = refl
ranges-same large a b k (suc n) same =
    rw (range_same large a b k (same k (omega arith) (omega arith)), ranges-same large a b (suc k) n (λ i p q. same i (omega arith) (omega arith)))
