-- Ranges of bytes (document 01, "Locks, reads and writes"): "A range is the bytes from offset to offset + length, the end
-- left out, in whole numbers. Length 0 covers no byte and overlaps nothing."
-- Assumes nothing.
use Rattle.std.specs.Prelude.{◌≡◌, ℕ, ◌+◌, ◌^◌, ◌≤◌, ◌<◌, max, Bool, true, ◌&&◌, ◌↔◌, ltb}
use Rattle.std.proofs.Common.{ltb-true, lt-ltb, arith}
use Rattle.lists.specs.Truth.{both_hold, same_truth}

-- byte k is in the range
unfoldable pub InRange : ℕ → ℕ → ℕ → Type 0
InRange k offset length = (offset ≤ k) × (k < offset + length)

-- two ranges overlap: some byte is in both
unfoldable pub Overlap : ℕ → ℕ → ℕ → ℕ → Type 0
unfolding InRange
Overlap a n b m = (k : ℕ) × InRange k a n × InRange k b m

-- the same, computed: neither is empty and each starts before the other's end
unfoldable pub overlaps : ℕ → ℕ → ℕ → ℕ → Bool
overlaps a n b m = ltb 0 n && (ltb 0 m && (ltb a (b + m) && ltb b (a + n)))

-- the range passes 2^64: its end lies beyond
unfoldable pub passes_end : ℕ → ℕ → Bool
passes_end offset length = ltb (2 ^ 64) (offset + length)

-- two comparisons that hold together are the same test
pub same-ltb : (a b x y : ℕ) → (a < b → x < y) → (x < y → a < b) → ltb a b ≡ ltb x y
same-ltb a b x y f g =
    same_truth (ltb a b) (ltb x y) (λ e. lt-ltb x y (f (ltb-true a b e))) (λ e. lt-ltb a b (g (ltb-true x y e)))

-- what the test of an overlap says of the numbers
overlaps-says : (a n b m : ℕ) → overlaps a n b m ≡ true → (0 < n) × (0 < m) × (a < b + m) × (b < a + n)
unfolding overlaps
overlaps-says a n b m e =
    let h0 = both_hold (ltb 0 n) (ltb 0 m && (ltb a (b + m) && ltb b (a + n))) e in
    let h1 = both_hold (ltb 0 m) (ltb a (b + m) && ltb b (a + n)) h0.1 in
    let h2 = both_hold (ltb a (b + m)) (ltb b (a + n)) h1.1 in
    (ltb-true 0 n h0.0, ltb-true 0 m h1.0, ltb-true a (b + m) h2.0, ltb-true b (a + n) h2.1)

-- the test of an overlap holds where the numbers say so
overlaps-holds : (a n b m : ℕ) → 0 < n → 0 < m → a < b + m → b < a + n → overlaps a n b m ≡ true
unfolding overlaps
overlaps-holds a n b m h0 h1 h2 h3 = rw (lt-ltb 0 n h0, lt-ltb 0 m h1, lt-ltb a (b + m) h2, lt-ltb b (a + n) h3)

-- the test of an overlap says that some byte is in both ranges: the later of the two starts
pub overlap-iff : (a n b m : ℕ) → (overlaps a n b m ≡ true) ↔ Overlap a n b m
unfolding Overlap InRange
overlap-iff a n b m = (
  λ e. let h = overlaps-says a n b m e in (max a b, (omega arith, omega arith), (omega arith, omega arith)),
  λ o. overlaps-holds a n b m (omega arith) (omega arith) (omega arith) (omega arith),
)

-- an overlap goes both ways
pub overlaps-sym : (a n b m : ℕ) → overlaps a n b m ≡ overlaps b m a n
overlaps-sym a n b m =
    same_truth (overlaps a n b m) (overlaps b m a n)
    (λ e. let h = overlaps-says a n b m e in overlaps-holds b m a n h.1 h.0 h.3 h.2)
    (λ e. let h = overlaps-says b m a n e in overlaps-holds a n b m h.1 h.0 h.3 h.2)
