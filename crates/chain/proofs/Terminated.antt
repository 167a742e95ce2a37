-- A name with the byte behind it: all of the bytes but the last, and the last.
-- Assumes nothing.
use mathlib.Core.Path.{◌≡◌, refl}
use Prim.Native.Nat.{ℕ}
use mathlib.Core.Bool.{Bool, true, false, not, ◌&&◌, ◌||◌}
use mathlib.Core.List.{List, [], ◌∷◌}
use lib.ListN.{length}
use lib.Dec.{eqb}
use Rattle.std.specs.Prelude.{◌++◌, ◌+◌, cond}
use native.Mathlib.Omega.{arith}
use borrow.Author.Tests.{ne_eqb}
use Rattle.std.proofs.lemmas.List.{length_push}
use Rattle.std.specs.List.{list_any}
use Rattle.chain.specs.Parse.{terminated}

-- whether a zero byte is among them
abbrev pub has-zero : List ℕ → Bool
has-zero xs = list_any (λ y. eqb y 0) xs

more : (xs : List ℕ) (x : ℕ) → eqb (length (xs ++ x ∷ [])) 0 ≡ false
more xs x = ne_eqb (length (xs ++ x ∷ [])) 0 (λ e. let one : length (xs ++ x ∷ []) ≡ length xs + 1 = length_push xs x in omega arith)

pub terminated-last : (name : List ℕ) (last : ℕ) → terminated (name ++ last ∷ []) ≡ (eqb last 0 && not (has-zero name))
unfolding terminated
terminated-last [] last = alone (eqb last 0) where
  alone : (b : Bool) → cond b true false ≡ (b && true)
  alone true = refl
  alone false = refl
terminated-last (y ∷ ys) last = rw (terminated-last ys last, more ys last) (first (eqb y 0) (eqb last 0)) where
  first : (b l : Bool) → cond b false (l && not (has-zero ys)) ≡ (l && not (b || has-zero ys))
  first true true = refl
  first true false = refl
  first false l = refl
