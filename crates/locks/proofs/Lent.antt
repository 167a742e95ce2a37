-- The lock list in its words: how many are held, and that the words in use still fit.
-- Assumes nothing.
use mathlib.Core.Path.{◌≡◌, sym, ap, ◌∙◌}
use Prim.Native.Nat.{ℕ, ◌+◌, ◌≤◌, ◌<◌}
use native.Mathlib.Nat.{min-eq_left}
use native.Mathlib.Decide.{dec_le}
use native.Mathlib.Omega.{arith}
use mathlib.Core.Bool.{true}
use mathlib.Core.List.{List}
use lib.ListN.{length, take, drop, set, take-append-drop}
use lib.Seq.{take-append_seam}
use Rattle.lists.specs.Stored.{length-take-most}
use Rattle.records.specs.declared.Lock.{Lock}
use Rattle.tables.specs.Words.{word, lock_array, lock_limits, records_fit, in_use, table_fits}
use Rattle.tables.specs.Written.{Wrote, locks_in}
use Rattle.tables.specs.ChangeLaws.{length-lock_array, count_set, fit_count}
use Rattle.tables.specs.FitLaws.{fit-wrote}

-- as many are held as are in use
pub held-in-use : (w : List ℕ) → length (locks_in w) ≡ in_use w 128
held-in-use w = length-take-most (lock_array w) (word w 0) 128 (length-lock_array w)

-- which is the count, where it is one of the table's
pub held-count : (w : List ℕ) → word w 0 ≤ 128 → word w 0 ≡ length (locks_in w)
held-count w h = let e = held-in-use w in omega arith

-- no more than there are records
pub held-most : (w : List ℕ) → length (locks_in w) ≤ 128
held-most w = let e = held-in-use w in omega arith

-- as many records as are held are those held
pub held-front : (w : List ℕ) (n : ℕ) → n ≡ length (locks_in w) → take n (lock_array w) ≡ locks_in w
held-front w n e =
    ap (λ (k : ℕ). take k (lock_array w)) e
    ∙ ap (take (length (locks_in w))) (sym (take-append-drop (word w 0) (lock_array w)))
    ∙ take-append_seam (locks_in w) (drop (word w 0) (lock_array w))

-- ---- words in use that fit

-- they are those of the locks held
pub fit-held : (w : List ℕ) (n : ℕ) → n ≡ length (locks_in w) → table_fits lock_limits 128 w ≡ true → records_fit lock_limits n w ≡ true
fit-held w n e f = rw (e, held-in-use w) f

-- the first n records fit, and the count is n
pub fit-counted : (w : List ℕ) (n : ℕ) → 0 < length w → n ≤ 128 → records_fit lock_limits n w ≡ true → table_fits lock_limits 128 (set w 0 n) ≡ true
fit-counted w n h k f = rw (count_set w n h, min-eq_left k) (fit_count w n h lock_limits n ∙ f)

-- a record written among n that fit
pub fit-within : {w v : List ℕ} {i : ℕ} {l : Lock} (n m : ℕ) → m ≤ n → Wrote lock_array lock_limits w v i l → records_fit lock_limits n w ≡ true
    → records_fit lock_limits m v ≡ true
fit-within n m h r f = fit-wrote n m r f (λ j k _. omega arith)

-- a number below the next is that one or below it
below_other : {j n : ℕ} → j < n + 1 → (j ≡ n → ⊥) → j < n
below_other {j} {n} h e = elim (dec_le n j) [ yes k ↦ absurd (e (omega arith)) | no k ↦ omega arith ]

-- a record written behind n that fit
pub fit-behind : {w v : List ℕ} {l : Lock} (n m : ℕ) → m ≡ n + 1 → Wrote lock_array lock_limits w v n l → records_fit lock_limits n w ≡ true
    → records_fit lock_limits m v ≡ true
fit-behind n m h r f = fit-wrote n m r f (λ j k e. below_other (let q : j < n + 1 = omega arith in q) e)
