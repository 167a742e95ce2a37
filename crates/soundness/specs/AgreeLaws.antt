-- When two locks may stand together, test by test: both shared, or apart, or of two files.
-- Assumes nothing.
use Rattle.std.specs.Prelude.{◌≡◌, refl, ℕ, zero, suc, ◌+◌, ◌-◌, ◌^◌, ◌≤◌, ◌<◌, Bool, true, false, cond, not, ◌&&◌, List, [], ◌∷◌, length, take, drop, get_or, eqb, ltb}
use Rattle.std.proofs.Common.{◌∙◌, arith, inl, inr, length-take, get_or-take, drop-drop}
use borrow.Author.Tests.{not-true, ltb-false, lt-ltb, le-ltb}
use Rattle.lists.specs.Truth.{both_hold, hold-both, decided}
use Rattle.lists.specs.Walk.{all, rest}
use Rattle.lists.specs.WalkLaws.{all_end, all_yes}
use Rattle.lists.specs.Members.{all-each}
use Rattle.lists.specs.PairLaws.{place_in}
use Rattle.locks.specs.Range.{overlaps, passes_end}
use Rattle.records.specs.declared.Lock.{Lock}
use Rattle.soundness.specs.Sound.{agree}

-- "no lock passes 2^64"
unfoldable pub in_bounds : Lock → Bool
in_bounds l = not (passes_end l.offset l.length)

-- the first n of a list pass a test, so the one at a place does
pub all-at : {A : Type 0} (p : A → Bool) (xs : List A) (n i : ℕ) (d : A) → i < n → i < length xs → all p (take n xs) ≡ true → p (get_or xs i d) ≡ true
all-at p xs n i d h k e =
    let long : i < length (take n xs) = rw length-take (omega arith) in
    rw (get_or-take n xs i d h) at (all-each p (place_in d (take n xs) i long) e)

-- what the bound says
pub within : (l : Lock) → in_bounds l ≡ true → l.offset + l.length ≤ 2 ^ 64
unfolding in_bounds passes_end
within l e = ltb-false (2 ^ 64) (l.offset + l.length) (not-true (ltb (2 ^ 64) (l.offset + l.length)) e)

module _ (file : ℕ → ℕ) (l m : Lock) where
  swallow : (b c : Bool) → not (b && (false && c)) ≡ true
  swallow true c = refl
  swallow false c = refl

  pub agree-shared : l.shared && m.shared ≡ true → agree file l m ≡ true
  unfolding agree
  agree-shared e = rw e (swallow (overlaps l.offset l.length m.offset m.length) (eqb (file l.fid) (file m.fid)))

  pub agree-apart : overlaps l.offset l.length m.offset m.length ≡ false → agree file l m ≡ true
  unfolding agree
  agree-apart e = rw e

  pub agree-met : l.shared && m.shared ≡ false → overlaps l.offset l.length m.offset m.length ≡ true
      → agree file l m ≡ not (eqb (file l.fid) (file m.fid))
  unfolding agree
  agree-met e o = rw (e, o)

module _ (a n b m : ℕ) where
  no_both : (p q : Bool) → p && false ≡ false
  no_both true q = refl
  no_both false q = refl

  last : (p q : Bool) → p && (q && false) ≡ false
  last true true = refl
  last true false = refl
  last false q = refl

  pub apart-empty : m ≡ 0 → overlaps a n b m ≡ false
  unfolding overlaps
  apart-empty e = rw (le-ltb 0 m (omega arith)) (no_both (ltb 0 n) true)

  pub apart_none : n ≡ 0 → overlaps a n b m ≡ false
  unfolding overlaps
  apart_none e = rw (le-ltb 0 n (omega arith))

  pub apart-before : 0 < n → a + (n - 1) < b → overlaps a n b m ≡ false
  unfolding overlaps
  apart-before h k = rw (lt-ltb 0 n h, le-ltb b (a + n) (omega arith)) (last (ltb 0 m) (ltb a (b + m)))

  pub apart-behind : 0 < m → b + (m - 1) < a → overlaps a n b m ≡ false
  unfolding overlaps
  apart-behind h k = rw (lt-ltb 0 m h, le-ltb a (b + m) (omega arith)) (no_both (ltb 0 n) true)

  pub meet : 0 < n → 0 < m → b ≤ a + (n - 1) → a ≤ b + (m - 1) → overlaps a n b m ≡ true
  unfolding overlaps
  meet h k x y = rw (lt-ltb 0 n h, lt-ltb 0 m k, lt-ltb a (b + m) (omega arith), lt-ltb b (a + n) (omega arith))

-- a lock of no bytes may stand with any
pub agree-empty : (file : ℕ → ℕ) (l : Lock) → l.length ≡ 0 → (ms : List Lock) → all (agree file l) ms ≡ true
unfolding all
agree-empty file l e [] = refl
agree-empty file l e (m ∷ ms) = rw (agree-apart file l m (apart_none l.offset l.length m.offset m.length e)) (agree-empty file l e ms)

-- ---- shared locks at the end of the list

-- of the first n locks of a list those from a place on are shared
pub record SharedFrom (xs : List Lock) (n at : ℕ) : Type 0 where
  pub most : at ≤ n
  pub each : all (λ l. l.shared) (rest xs n at) ≡ true

-- from the end on there is none
pub shared-none : (xs : List Lock) (n : ℕ) → SharedFrom xs n n
shared-none xs n = record { most = omega arith; each = all_end xs n (λ l. l.shared) n (omega arith) }

-- one more, in front of them
pub shared-more : {xs : List Lock} {n at : ℕ} → SharedFrom xs n at → (d : Lock) → 0 < at → at ≤ length xs → (get_or xs (at - 1) d).shared ≡ true
    → SharedFrom xs n (at - 1)
shared-more {xs} {n} {at} before d h k e =
    let most : at ≤ n = before.most in
    let next : at - 1 + 1 ≡ at = omega arith in
    record {
      most = omega arith;
      each = all_yes xs n (at - 1) d (omega arith) (omega arith) (λ l. l.shared) e ∙ rw next before.each;
    }

-- a shared lock may stand with shared ones
agree-all-shared : (file : ℕ → ℕ) (l : Lock) → l.shared ≡ true → (ms : List Lock) → all (λ m. m.shared) ms ≡ true → all (agree file l) ms ≡ true
unfolding all
agree-all-shared file l e [] h = refl
agree-all-shared file l e (m ∷ ms) h =
    let b = both_hold m.shared (all (λ m. m.shared) ms) h in
    hold-both (agree file l m) (all (agree file l) ms) (agree-shared file l m (rw e b.0)) (agree-all-shared file l e ms b.1)

all_drop : {A : Type 0} (p : A → Bool) (k : ℕ) (xs : List A) → all p xs ≡ true → all p (drop k xs) ≡ true
unfolding all
all_drop p zero xs h = h
all_drop p (suc k) [] h = refl
all_drop p (suc k) (x ∷ xs) h = all_drop p k xs (both_hold (p x) (all p xs) h).1

-- how far a lock is compared is a place of the list
pub compared-most : (shared : Bool) (at n : ℕ) → at ≤ n → cond shared at n ≤ n
compared-most true at n h = h
compared-most false at n h = omega arith

-- a lock that was compared so far may stand with the others
pub agree_left : (file : ℕ → ℕ) (l : Lock) {xs : List Lock} {n at : ℕ} (j : ℕ) → SharedFrom xs n at → cond l.shared at n ≤ j
    → all (agree file l) (rest xs n j) ≡ true
agree_left file l {xs} {n} {at} j s h =
    elim (decided l.shared) [
      | inl b ↦
          let far : at ≤ j = rw b at h in
          let past : at + (j - at) ≡ j = omega arith in
          agree-all-shared file l b (rest xs n j) (rw (drop-drop, past) at (all_drop (λ l. l.shared) (j - at) (rest xs n at) s.each))
      | inr b ↦ let far : n ≤ j = rw b at h in all_end xs n (agree file l) j far
    ]
