-- What stands at each place after a write: the bytes written inside, what was there in front and behind.
-- Assumes nothing.
use Rattle.std.specs.Prelude.{◌≡◌, ℕ, ◌+◌, ◌-◌, ◌≤◌, ◌<◌}
use Rattle.std.proofs.Math.Path.{sym, ap}
use Rattle.std.proofs.Common.{◌∙◌, zero-add, length-take, length-drop}
use mathlib.Core.List.{List, [], ◌++◌, append_assoc}
use Rattle.std.proofs.Math.ListN.{length, take, drop, get_or, length-append, take-append-drop, get_or-append}
use Rattle.std.proofs.Math.Seq.{length-take-le, get_or-append-add, get_or-take, get_or-drop, take-length, take_at, drop-append_seam, drop-append-add, drop-drop}
use Rattle.std.proofs.lemmas.List.{drop-append-le}
use native.Mathlib.Omega.{arith}
use Rattle.lists.specs.Put.{put}

module _ {A : Type 0} (d x : List A) (at : ℕ) (fits : at + length x ≤ length d) where
  front : length (take at d) ≡ at
  front = length-take-le at d (omega arith)

  -- as long as before
  pub length-put : length (put d at x) ≡ length d
  unfolding put
  length-put = let f = front in rw (length-append, length-append, length-drop) (omega arith)

  -- in front
  pub put_front : (k : ℕ) (z : A) → k < at → get_or (put d at x) k z ≡ get_or d k z
  unfolding put
  put_front k z h =
      let f = front in
      let inside : k < length (take at d) = omega arith in
      get_or-append (take at d) (x ++ drop (at + length x) d) z k inside ∙ get_or-take at d k z h

  -- inside
  pub put-inside : (i : ℕ) (z : A) → i < length x → get_or (put d at x) (at + i) z ≡ get_or x i z
  unfolding put
  put-inside i z h =
      ap (λ (n : ℕ). get_or (take at d ++ (x ++ drop (at + length x) d)) (n + i) z) (sym front)
      ∙ get_or-append-add (take at d) (x ++ drop (at + length x) d) i z
      ∙ get_or-append x (drop (at + length x) d) z i h

  -- behind
  pub put-behind : (k : ℕ) (z : A) → at + length x ≤ k → get_or (put d at x) k z ≡ get_or d k z
  unfolding put
  put-behind k z h =
      let f = front in
      let place : k ≡ length (take at d) + (length x + (k - (at + length x))) = omega arith in
      let back : at + length x + (k - (at + length x)) ≡ k = omega arith in
      ap (λ (n : ℕ). get_or (take at d ++ (x ++ drop (at + length x) d)) n z) place
      ∙ get_or-append-add (take at d) (x ++ drop (at + length x) d) (length x + (k - (at + length x))) z
      ∙ get_or-append-add x (drop (at + length x) d) (k - (at + length x)) z
      ∙ get_or-drop (at + length x) d (k - (at + length x)) z
      ∙ ap (λ (n : ℕ). get_or d n z) back

module _ {A : Type 0} where
  -- nothing written
  pub put-nothing : (d : List A) (at : ℕ) → put d at [] ≡ d
  unfolding put
  put-nothing d at = ap (λ (k : ℕ). take at d ++ drop k d) (let e : at + 0 ≡ at = omega arith in e) ∙ take-append-drop at d

  -- a write right behind another is one write
  pub put_then : (d x y : List A) (at : ℕ) → at + length x ≤ length d → put (put d at x) (at + length x) y ≡ put d at (x ++ y)
  unfolding put
  put_then d x y at fits =
      let f : length (take at d) ≡ at = length-take-le at d (omega arith) in
      let n : length (take at d ++ x) ≡ at + length x = rw (length-append, f) in
      let whole : take at d ++ (x ++ drop (at + length x) d) ≡ (take at d ++ x) ++ drop (at + length x) d = sym (append_assoc (take at d) x (drop (at + length x) d)) in
      let front : take (at + length x) (take at d ++ (x ++ drop (at + length x) d)) ≡ take at d ++ x =
      ap (take (at + length x)) whole ∙ take_at (take at d ++ x) (drop (at + length x) d) (at + length x) n in
      let behind : drop (at + length x + length y) (take at d ++ (x ++ drop (at + length x) d)) ≡ drop (at + length (x ++ y)) d =
      ap (drop (at + length x + length y)) whole
      ∙ ap (λ (k : ℕ). drop (k + length y) ((take at d ++ x) ++ drop (at + length x) d)) (sym n)
      ∙ drop-append-add (take at d ++ x) (drop (at + length x) d) (length y)
      ∙ drop-drop (length y) (at + length x) d
      ∙ ap (λ (k : ℕ). drop k d) (let e : at + length x + length y ≡ at + length (x ++ y) = rw (length-append x y) (omega arith) in e) in
      rw (front, behind)
      (append_assoc (take at d) x (y ++ drop (at + length (x ++ y)) d)
      ∙ ap (λ (q : List A). take at d ++ q) (sym (append_assoc x y (drop (at + length (x ++ y)) d))))

  -- a write right in front of another is one write
  pub put-before : (d h x : List A) (at : ℕ) → length h ≡ at → at + length x ≤ length d → put (put d at x) 0 h ≡ put d 0 (h ++ x)
  unfolding put
  put-before d h x at e fits =
      let f : length (take at d) ≡ at = length-take-le at d (omega arith) in
      let behind : drop (0 + length h) (take at d ++ (x ++ drop (at + length x) d)) ≡ x ++ drop (at + length x) d =
      ap (λ (k : ℕ). drop k (take at d ++ (x ++ drop (at + length x) d))) (let q : 0 + length h ≡ length (take at d) = omega arith in q)
      ∙ drop-append_seam (take at d) (x ++ drop (at + length x) d) in
      let place : 0 + length (h ++ x) ≡ at + length x = rw (length-append) (omega arith) in
      rw (behind, place, append_assoc)

  -- what stands where a part of d was lent and written at its front
  pub put-part : (d x e : List A) (from to : ℕ) → to ≤ length d → from + length x ≤ to → e ≡ put (take (to - from) (drop from d)) 0 x
      → take from d ++ (e ++ drop (to - from) (drop from d)) ≡ put d from x
  unfolding put
  put-part d x e from to inside fits p =
      let n : length x ≤ length (take (to - from) (drop from d)) = rw (length-take, length-drop) (omega arith) in
      let back : drop (0 + length x) (take (to - from) (drop from d)) ++ drop (to - from) (drop from d) ≡ drop (from + length x) d =
      ap (λ (k : ℕ). drop k (take (to - from) (drop from d)) ++ drop (to - from) (drop from d)) (zero-add (length x))
      ∙ sym (drop-append-le (length x) (take (to - from) (drop from d)) (drop (to - from) (drop from d)) n)
      ∙ ap (drop (length x)) (take-append-drop (to - from) (drop from d))
      ∙ drop-drop (length x) from d in
      ap (λ (q : List A). take from d ++ (q ++ drop (to - from) (drop from d))) p
      ∙ ap (λ (q : List A). take from d ++ q)
      (append_assoc x (drop (0 + length x) (take (to - from) (drop from d))) (drop (to - from) (drop from d)) ∙ ap (λ (q : List A). x ++ q) back)

  -- a copy of x to the front of d
  pub put-copied : (d x e : List A) → length x ≤ length d → e ≡ take (length x) x ++ drop (length x) d → e ≡ put d 0 x
  unfolding put
  put-copied d x e fits p = rw (p, take-length x, zero-add)
