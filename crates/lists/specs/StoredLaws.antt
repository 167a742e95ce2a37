-- Laws of an array that holds a list: stored twice, made longer by one, made shorter by one.
-- Assumes nothing.
use Rattle.std.specs.Prelude.{◌≡◌, ℕ, zero, suc, ◌+◌, ◌-◌, ◌≤◌, ◌<◌, take, get_or, set}
use Rattle.std.proofs.Math.Path.{sym, ap}
use Rattle.std.proofs.Common.{◌∙◌, length-append, take-append-drop, drop-cons, drop-drop, length-take-le, add-one}
use mathlib.Core.List.{List, [], ◌∷◌, ◌++◌, append_assoc}
use Rattle.std.proofs.Math.ListN.{length, drop, replicate}
use Rattle.std.proofs.lemmas.List.{replicate-append-replicate, set_at}
use Rattle.std.proofs.Math.Seq.{drop-append-add, take-append_seam}
use native.Mathlib.Omega.{arith}
use Rattle.lists.specs.Stored.{stored}

module _ {A : Type 0} where
  -- what is left of a gap and the rest behind it
  drop-gap : (z : A) (r : List A) (j g : ℕ) → drop j (replicate g z ++ r) ≡ replicate (g - j) z ++ drop (j - g) r
  drop-gap z r zero g =
      let e : g - 0 ≡ g = omega arith in
      let f : 0 - g ≡ 0 = omega arith in
      rw (e, f)
  drop-gap z r (suc j) zero =
      let e : 0 - suc j ≡ 0 = omega arith in
      let f : suc j - 0 ≡ suc j = omega arith in
      rw (e, f)
  drop-gap z r (suc j) (suc g) =
      let e : suc g - suc j ≡ g - j = omega arith in
      let f : suc j - suc g ≡ j - g = omega arith in
      rw (e, f) (drop-gap z r j g)

  -- the front of the array is the list
  pub take-stored : (z : A) (xs : List A) (n : ℕ) (l : List A) → take (length l) (stored z xs n l) ≡ l
  unfolding stored
  take-stored z xs n l = take-append_seam l (replicate (n - length l) z ++ drop (length l + (n - length l)) xs)

  drop-stored : (z : A) (xs : List A) (n : ℕ) (l : List A) (j : ℕ) → length l ≤ n
      → drop (length l + j) (stored z xs n l) ≡ replicate (n - length l - j) z ++ drop (n + (j - (n - length l))) xs
  unfolding stored
  drop-stored z xs n l j h =
      let e : length l + (n - length l) ≡ n = omega arith in
      drop-append-add l (replicate (n - length l) z ++ drop (length l + (n - length l)) xs) j
      ∙ drop-gap z (drop (length l + (n - length l)) xs) j (n - length l)
      ∙ rw (e, drop-drop)

  -- a list stored over another is as if it were stored first
  pub stored-stored : (z : A) (xs : List A) (n : ℕ) (l m : List A) → length l ≤ n → stored z (stored z xs n l) (length l) m ≡ stored z xs n m
  unfolding stored
  stored-stored z xs n l m h =
      let at : length m + (length l - length m) ≡ length l + (length m - length l) = omega arith in
      let gap : (length l - length m) + (n - length l - (length m - length l)) ≡ n - length m = omega arith in
      let end : n + (length m - length l - (n - length l)) ≡ length m + (n - length m) = omega arith in
      ap (λ (t : List A). m ++ t)
      (
      ap (λ (k : ℕ). replicate (length l - length m) z ++ drop k (stored z xs n l)) at
      ∙ ap (λ (t : List A). replicate (length l - length m) z ++ t) (drop-stored z xs n l (length m - length l) h)
      ∙ sym (append_assoc (replicate (length l - length m) z) (replicate (n - length l - (length m - length l)) z) (drop (n + (length m - length l - (n - length l))) xs))
      ∙ rw (replicate-append-replicate, gap, end)
      )

  -- a list as long as the count is stored without a gap
  pub stored-long : (z : A) (xs : List A) (n : ℕ) (l : List A) → n ≤ length l → stored z xs n l ≡ l ++ drop (length l) xs
  unfolding stored
  stored-long z xs n l h =
      let e : n - length l ≡ 0 = omega arith in
      let f : length l + 0 ≡ length l = omega arith in
      rw (e, f)

  -- the array holds its own first elements
  pub stored_same : (z : A) (xs : List A) (n : ℕ) → n ≤ length xs → stored z xs n (take n xs) ≡ xs
  stored_same z xs n h =
      let e : length (take n xs) ≡ n = length-take-le n xs h in
      stored-long z xs n (take n xs) (omega arith) ∙ rw e (take-append-drop n xs)

  -- one element more is written behind the list
  pub stored-push : (z : A) (xs : List A) (n : ℕ) (l : List A) (x : A) (i : ℕ) → n ≤ length l → i ≡ length l → i < length xs
      → set (stored z xs n l) i x ≡ stored z xs n (l ++ (x ∷ []))
  stored-push z xs n l x i h e k =
      let long : length (l ++ (x ∷ [])) ≡ suc (length l) = length-append l (x ∷ []) ∙ add-one (length l) in
      let more : n ≤ length (l ++ (x ∷ [])) = omega arith in
      let within : length l < length xs = omega arith in
      rw (stored-long z xs n l h, stored-long z xs n (l ++ (x ∷ [])) more, long, append_assoc, drop-cons xs (length l) x within)
      (set_at l (get_or xs (length l) x) (drop (suc (length l)) xs) x i (sym e))

  -- a record added behind those that count
  pub stored-add : (z : A) (xs : List A) (n : ℕ) (x : A) → n < length xs
      → set xs n x ≡ stored z xs (length (take n xs)) (take n xs ++ (x ∷ []))
  stored-add z xs n x h =
      let e : length (take n xs) ≡ n = length-take-le n xs (omega arith) in
      let most : n ≤ length (take n xs) = omega arith in
      ap (λ (l : List A). set l n x) (sym (stored_same z xs n (omega arith)))
      ∙ stored-push z xs n (take n xs) x n most (sym e) h
      ∙ ap (λ (k : ℕ). stored z xs k (take n xs ++ (x ∷ []))) (sym e)

  pub length-add : (xs : List A) (n : ℕ) (x : A) → n ≤ length xs → length (take n xs ++ (x ∷ [])) ≡ n + 1
  length-add xs n x h = length-append (take n xs) (x ∷ []) ∙ ap (λ (k : ℕ). k + 1) (length-take-le n xs h)
