-- A digest of numbers: a polynomial in 257, modulo the largest prime below 2^32. Assumes nothing.
use Rattle.std.specs.Prelude.{◌≡◌, ℕ, ◌+◌, ◌*◌, ◌%◌, ◌≤◌, ◌<◌, List, [], ◌∷◌, length, drop, get_or}
use Rattle.std.proofs.Common.{add-one, drop_of_length-le, drop-cons}

-- one number more
unfoldable pub added : ℕ → ℕ → ℕ
added d x = (d * 257 + x % 4294967291 + 1) % 4294967291

unfoldable pub digest : ℕ → List ℕ → ℕ
digest d [] = d
digest d (x ∷ xs) = digest (added d x) xs

-- the loop: what is left is digested from here
pub digest-more : (d : ℕ) (xs : List ℕ) (i : ℕ) → i < length xs → digest d (drop i xs) ≡ digest (added d (get_or xs i 0)) (drop (i + 1) xs)
unfolding digest
digest-more d xs i h = rw (add-one i, drop-cons xs i 0 h)

pub digest-end : (d : ℕ) (xs : List ℕ) (i : ℕ) → length xs ≤ i → digest d (drop i xs) ≡ d
unfolding digest
digest-end d xs i h = rw (drop_of_length-le xs h)
