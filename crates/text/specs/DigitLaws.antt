-- Laws of a number in decimal: one digit, and the last digit behind those before it.
-- Assumes nothing.
use Rattle.std.specs.Prelude.{◌≡◌, refl, ℕ, zero, suc, ◌+◌, ◌≤◌, ◌<◌, ◌/◌, ◌%◌, Bool, true, false, cond, List, [], ◌∷◌, ◌++◌, ltb}
use Rattle.std.proofs.Common.{ap, arith, ltb-false, lt-ltb, le-ltb}
use Rattle.text.specs.Digits.{digits_within, decimal}

-- a choice whose second answer matters only where the test fails
cond_same : (t : Bool) (x y z : List ℕ) → (t ≡ false → y ≡ z) → cond t x y ≡ cond t x z
cond_same true x y z h = refl
cond_same false x y z h = h refl

-- turns enough give the same digits, however many they are
turns_same : (t u n : ℕ) → n < t → n < u → digits_within t n ≡ digits_within u n
unfolding digits_within
turns_same zero u n h k = absurd (omega arith)
turns_same (suc t) zero n h k = absurd (omega arith)
turns_same (suc t) (suc u) n h k =
    cond_same (ltb n 10) ((48 + n) ∷ []) (digits_within t (n / 10) ++ ((48 + n % 10) ∷ [])) (digits_within u (n / 10) ++ ((48 + n % 10) ∷ []))
    (λ e.
    let large : 10 ≤ n = ltb-false n 10 e in
    ap (λ (l : List ℕ). l ++ ((48 + n % 10) ∷ [])) (turns_same t u (n / 10) (omega arith) (omega arith)))

pub decimal-small : (n : ℕ) → n < 10 → decimal n ≡ (48 + n) ∷ []
unfolding decimal digits_within
decimal-small n h = rw (lt-ltb n 10 h)

pub decimal-more : (n : ℕ) → 10 ≤ n → decimal n ≡ decimal (n / 10) ++ ((48 + n % 10) ∷ [])
unfolding decimal digits_within
decimal-more n h = rw (le-ltb n 10 h) (ap (λ (l : List ℕ). l ++ ((48 + n % 10) ∷ [])) (turns_same n (suc (n / 10)) (n / 10) (omega arith) (omega arith)))
