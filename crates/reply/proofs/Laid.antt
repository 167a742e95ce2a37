-- Writes, each into the room behind the one before, are one. Assumes nothing.
use mathlib.Core.Path.{◌≡◌, ap, ◌∙◌}
use Prim.Native.Nat.{ℕ, ◌+◌, ◌-◌, ◌≤◌}
use mathlib.Core.List.{List, ◌++◌}
use lib.ListN.{length, take, drop, length-append}
use native.Mathlib.Omega.{arith}
use Rattle.lists.specs.Put.{put}
use Rattle.lists.specs.PutLaws.{length-put, put_then, put-part}

pub laid-behind : (d x y l e : List ℕ) (n : ℕ) → length x ≡ n → n + length y ≤ length d → l ≡ put d 0 x
    → e ≡ put (take (length l - n) (drop n l)) 0 y
    → take n l ++ (e ++ drop (length l - n) (drop n l)) ≡ put d 0 (x ++ y)
laid-behind d x y l e n k fits p q =
    let front : 0 + length x ≤ length d = omega arith in
    let long : length l ≡ length d = ap length p ∙ length-put d x 0 front in
    let place : n ≡ 0 + length x = omega arith in
    put-part l y e n (length l) (omega arith) (omega arith) q
    ∙ ap (λ (a : List ℕ). put a n y) p
    ∙ ap (λ (k : ℕ). put (put d 0 x) k y) place
    ∙ put_then d x y 0 front

-- three in turn; `mid` is the room after two
pub laid-three : (d x y z l e mid f : List ℕ) (n m : ℕ) → length x ≡ n → length (x ++ y) ≡ m → m + length z ≤ length d → l ≡ put d 0 x
    → e ≡ put (take (length l - n) (drop n l)) 0 y → mid ≡ take n l ++ (e ++ drop (length l - n) (drop n l))
    → f ≡ put (take (length mid - m) (drop m mid)) 0 z
    → take m mid ++ (f ++ drop (length mid - m) (drop m mid)) ≡ put d 0 ((x ++ y) ++ z)
laid-three d x y z l e mid f n m j k fits p q r s =
    let sum : length (x ++ y) ≡ length x + length y = length-append x y in
    let two : n + length y ≤ length d = omega arith in
    laid-behind d (x ++ y) z mid f m k fits (r ∙ laid-behind d x y l e n j two p q) s
