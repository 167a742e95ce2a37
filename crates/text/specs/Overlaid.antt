-- Text laid over a buffer, one piece behind the other: what each writer of the listing leaves.
-- Assumes nothing.
use Rattle.std.specs.Prelude.{◌≡◌, refl, ℕ, zero, suc, ◌+◌, ◌-◌, ◌≤◌, ◌<◌, min, List, [], ◌∷◌, ◌++◌, length, take, set, get_or}
use Rattle.std.proofs.Common.{sym, ap, ◌∙◌, zero-add, suc-add, add-one, arith, append_assoc, append-nil, length-append, take-suc, take_all}
use Rattle.std.proofs.Math.Nat.{zero-sub, suc-sub-suc, sub-zero}
use Rattle.std.proofs.Math.Seq.{take-nil, drop-nil, set_out}
use Rattle.lists.specs.Put.{put}
use Rattle.text.specs.Over.{over, past, Written}
use Rattle.text.specs.Digits.{hex_byte, hex_bytes}

-- the same, byte by byte
abbrev laid : List ℕ → ℕ → List ℕ → List ℕ
laid [] at x = []
laid (a ∷ d) zero [] = a ∷ d
laid (a ∷ d) zero (b ∷ x) = b ∷ laid d zero x
laid (a ∷ d) (suc at) x = a ∷ laid d at x

over-laid : (d : List ℕ) (at : ℕ) (x : List ℕ) → over d at x ≡ laid d at x
unfolding over put
over-laid [] at x = simp (take-nil, zero-sub, drop-nil)
over-laid (a ∷ d) zero [] = rw sub-zero
over-laid (a ∷ d) zero (b ∷ x) = simp (sub-zero, zero-add) (ap (λ (l : List ℕ). b ∷ l) (simp (sub-zero, zero-add) at (over-laid d zero x)))
over-laid (a ∷ d) (suc at) x = rw (suc-sub-suc, suc-add) (ap (λ (l : List ℕ). a ∷ l) (over-laid d at x))

length-laid : (d : List ℕ) (at : ℕ) (x : List ℕ) → length (laid d at x) ≡ length d
length-laid [] at x = refl
length-laid (a ∷ d) zero [] = refl
length-laid (a ∷ d) zero (b ∷ x) = ap suc (length-laid d zero x)
length-laid (a ∷ d) (suc at) x = ap suc (length-laid d at x)

laid_then : (d : List ℕ) (at : ℕ) (x y : List ℕ) → laid (laid d at x) (past d at x) y ≡ laid d at (x ++ y)
unfolding past
laid_then [] at x y = refl
laid_then (a ∷ d) zero [] y =
    let here : 0 + min 0 (suc (length d) - 0) ≡ 0 = omega arith in
    rw here
laid_then (a ∷ d) zero (b ∷ x) y =
    let next : 0 + min (suc (length x)) (suc (length d) - 0) ≡ suc (0 + min (length x) (length d - 0)) = omega arith in
    rw next (ap (λ (l : List ℕ). b ∷ l) (laid_then d zero x y))
laid_then (a ∷ d) (suc at) x y =
    let next : suc at + min (length x) (suc (length d) - suc at) ≡ suc (at + min (length x) (length d - at)) = omega arith in
    rw next (ap (λ (l : List ℕ). a ∷ l) (laid_then d at x y))

past-then : (d : List ℕ) (at : ℕ) (x y : List ℕ) → past (laid d at x) (past d at x) y ≡ past d at (x ++ y)
unfolding past
past-then d at x y = rw (length-laid, length-append) (omega arith)

laid-nothing : (d : List ℕ) (at : ℕ) → laid d at [] ≡ d
laid-nothing [] at = refl
laid-nothing (a ∷ d) zero = refl
laid-nothing (a ∷ d) (suc at) = ap (λ (l : List ℕ). a ∷ l) (laid-nothing d at)

laid-byte : (d : List ℕ) (at b : ℕ) → laid d at (b ∷ []) ≡ set d at b
laid-byte [] at b = refl
laid-byte (a ∷ d) zero b = ap (λ (l : List ℕ). b ∷ l) (laid-nothing d zero)
laid-byte (a ∷ d) (suc at) b = ap (λ (l : List ℕ). a ∷ l) (laid-byte d at b)

-- nothing is written
pub written-nothing : (d : List ℕ) (at : ℕ) → Written d at [] d at
unfolding past
written-nothing d at = record { buffer = sym (over-laid d at [] ∙ laid-nothing d at); place = omega arith }

-- one byte, where there is room for it
pub written_byte : (d : List ℕ) (at b : ℕ) → at < length d → Written d at (b ∷ []) (set d at b) (at + 1)
unfolding past
written_byte d at b h = record { buffer = sym (over-laid d at (b ∷ []) ∙ laid-byte d at b); place = omega arith }

-- and where there is none
pub written_none : (d : List ℕ) (at b : ℕ) → length d ≤ at → Written d at (b ∷ []) d at
unfolding past
written_none d at b h = record { buffer = sym (over-laid d at (b ∷ []) ∙ laid-byte d at b ∙ set_out d at b h); place = omega arith }

-- one text behind the other
pub written_then : {d : List ℕ} {at : ℕ} {x e : List ℕ} {mid : ℕ} {y f : List ℕ} {to : ℕ} → Written d at x e mid → Written e mid y f to → Written d at (x ++ y) f to
written_then {d} {at} {x} {e} {mid} {y} {f} {to} v w =
    let first : e ≡ laid d at x = v.buffer ∙ over-laid d at x in
    record {
      buffer = w.buffer ∙ over-laid e mid y ∙ rw (first, v.place) (laid_then d at x y) ∙ sym (over-laid d at (x ++ y));
      place = w.place ∙ rw (first, v.place) (past-then d at x y);
    }

-- as long as before
pub written-length : {d : List ℕ} {at : ℕ} {x e : List ℕ} {to : ℕ} → Written d at x e to → length e ≡ length d
written-length {d} {at} {x} v = ap length (v.buffer ∙ over-laid d at x) ∙ length-laid d at x

-- one byte more of a text
pub written-more : {d : List ℕ} {at : ℕ} (text : List ℕ) (i : ℕ) {e : List ℕ} {mid : ℕ} {f : List ℕ} {to : ℕ} → i < length text → Written d at (take i text) e mid
    → Written e mid (get_or text i 0 ∷ []) f to → Written d at (take (i + 1) text) f to
written-more text i h v w = rw (add-one i, take-suc text i 0 h) (written_then v w)

-- the whole text
pub written-whole : {d : List ℕ} {at : ℕ} (text : List ℕ) (i : ℕ) {e : List ℕ} {to : ℕ} → length text ≤ i → Written d at (take i text) e to → Written d at text e to
written-whole text i h v = rw (take_all i text h) at v

-- bytes in hex, one more of them
hex-append : (xs ys : List ℕ) → hex_bytes (xs ++ ys) ≡ hex_bytes xs ++ hex_bytes ys
unfolding hex_bytes
hex-append [] ys = refl
hex-append (x ∷ xs) ys = rw (hex-append xs ys) (sym (append_assoc (hex_byte x) (hex_bytes xs) (hex_bytes ys)))

pub written-hex-more : {d : List ℕ} {at : ℕ} (bytes : List ℕ) (i : ℕ) {e : List ℕ} {mid : ℕ} {f : List ℕ} {to : ℕ} → i < length bytes
    → Written d at (hex_bytes (take i bytes)) e mid → Written e mid (hex_byte (get_or bytes i 0)) f to → Written d at (hex_bytes (take (i + 1) bytes)) f to
unfolding hex_bytes
written-hex-more bytes i h v w =
    rw (add-one i, take-suc bytes i 0 h, hex-append (take i bytes) (get_or bytes i 0 ∷ []), append-nil (hex_byte (get_or bytes i 0))) (written_then v w)

-- all of them
pub written-hex-whole : {d : List ℕ} {at : ℕ} (bytes : List ℕ) (i : ℕ) {e : List ℕ} {to : ℕ} → length bytes ≤ i → Written d at (hex_bytes (take i bytes)) e to
    → Written d at (hex_bytes bytes) e to
written-hex-whole bytes i h v = rw (take_all i bytes h) at v

-- what is written from the start on ends inside
pub written-inside : {d x e : List ℕ} {to : ℕ} → Written d 0 x e to → to ≤ length e
unfolding past
written-inside w = omega (arith, w.place, written-length w)
