-- A record and its words: a record whose fields are within their limits is read back from its words, and words within
-- their limits are the words of the record that they hold.
-- Assumes nothing.
use Rattle.std.specs.Prelude.{◌≡◌, refl, ℕ, zero, suc, ◌%◌, ◌≤◌, ◌<◌, Bool, true, false, cond, List, [], ◌∷◌, length, leb, eqb}
use Rattle.std.proofs.Common.{mod-eq_of_lt, arith, le-leb, leb-true}
use Rattle.lists.specs.Truth.{both_hold}
use Rattle.records.specs.declared.Session.{Session}
use Rattle.records.specs.declared.Tree.{Tree}
use Rattle.records.specs.declared.Open.{Open}
use Rattle.records.specs.declared.Lock.{Lock}
use Rattle.tables.specs.Words.{word, within, session_of, tree_of, open_of, lock_of, name_of, session_limits, tree_limits, open_limits, lock_limits, name_limits}
use Rattle.tables.specs.Written.{session_words, tree_words, open_words, lock_words, name_words}

-- each word is at most its limit
abbrev pub Within : List ℕ → List ℕ → Type 0
Within [] r = Unit {0}
Within (l ∷ ls) [] = Unit {0}
Within (l ∷ ls) (x ∷ xs) = (x ≤ l) × Within ls xs

-- which is what the test says
pub within-holds : (ls r : List ℕ) → Within ls r → within ls r ≡ true
unfolding within
within-holds [] r h = refl
within-holds (l ∷ ls) [] h = refl
within-holds (l ∷ ls) (x ∷ xs) h = rw (le-leb x l h.0) (within-holds ls xs h.1)

pub within-told : (ls r : List ℕ) → within ls r ≡ true → Within ls r
unfolding within
within-told [] r e = tt
within-told (l ∷ ls) [] e = tt
within-told (l ∷ ls) (x ∷ xs) e =
    let b = both_hold (leb x l) (within ls xs) e in
    (leb-true x l b.0, within-told ls xs b.1)

-- word by word
pub within-each : (ls r : List ℕ) → ((j : ℕ) → j < length ls → word r j ≤ word ls j) → Within ls r
within-each [] r h = tt
within-each (l ∷ ls) [] h = tt
within-each (l ∷ ls) (x ∷ xs) h = (h 0 (omega arith), within-each ls xs (λ j k. h (suc j) (omega arith)))

pub each_within : (ls r : List ℕ) → Within ls r → (j : ℕ) → j < length ls → word r j ≤ word ls j
each_within [] r h j k = absurd (let q : ⊥ = omega arith in q)
each_within (l ∷ ls) [] h zero k = omega arith
each_within (l ∷ ls) [] h (suc j) k = omega arith
each_within (l ∷ ls) (x ∷ xs) h zero k = h.0
each_within (l ∷ ls) (x ∷ xs) h (suc j) k = each_within ls xs h.1 j (let q : j < length ls = omega arith in q)

-- a word within its field is not changed by the cut
uncut : (x limit : ℕ) → x ≤ limit → x % suc limit ≡ x
uncut x limit h = mod-eq_of_lt (let q : x < suc limit = omega arith in q)

-- a flag crosses as a word and comes back
flag-back : (b : Bool) → eqb (cond b 1 0 % 2) 1 ≡ b
flag-back true = refl
flag-back false = refl

pub flag-narrow : (b : Bool) → cond b 1 0 ≤ 1
flag-narrow true = omega arith
flag-narrow false = omega arith

flag-exact : (x : ℕ) → x ≤ 1 → cond (eqb (x % 2) 1) 1 0 ≡ x
flag-exact zero h = refl
flag-exact (suc zero) h = refl
flag-exact (suc (suc x)) h = absurd (let z : ⊥ = omega arith in z)

-- ---- read back

pub session-back : (s : Session) → Within session_limits (session_words s) → session_of (session_words s) ≡ s
unfolding session_of
session-back s h =
    λ i. record {
      uid = uncut s.uid 65535 h.0 i;
      connection = uncut s.connection 4294967295 h.1.0 i;
    }

pub tree-back : (t : Tree) → Within tree_limits (tree_words t) → tree_of (tree_words t) ≡ t
unfolding tree_of
tree-back t h =
    λ i. record {
      tid = uncut t.tid 65535 h.0 i;
      uid = uncut t.uid 65535 h.1.0 i;
      right = uncut t.right 255 h.1.1.0 i;
    }

pub open-back : (o : Open) → Within open_limits (open_words o) → open_of (open_words o) ≡ o
unfolding open_of
open-back o h =
    λ i. record {
      fid = uncut o.fid 65535 h.0 i;
      uid = uncut o.uid 65535 h.1.0 i;
      tid = uncut o.tid 65535 h.1.1.0 i;
      process = uncut o.process 4294967295 h.1.1.1.0 i;
      file = uncut o.file 255 h.1.1.1.1.0 i;
      access = uncut o.access 255 h.1.1.1.1.1.0 i;
      sharing = uncut o.sharing 255 h.1.1.1.1.1.1.0 i;
      read = flag-back o.read i;
      seen = o.seen;
    }

pub lock-back : (l : Lock) → Within lock_limits (lock_words l) → lock_of (lock_words l) ≡ l
unfolding lock_of
lock-back l h =
    λ i. record {
      fid = uncut l.fid 65535 h.0 i;
      process = uncut l.process 4294967295 h.1.0 i;
      offset = l.offset;
      length = l.length;
      shared = flag-back l.shared i;
    }

-- ---- the words of the record that they hold

pub session-exact : (a b : ℕ) → Within session_limits (a ∷ b ∷ []) → session_words (session_of (a ∷ b ∷ [])) ≡ a ∷ b ∷ []
unfolding session_of
session-exact a b h = rw (uncut a 65535 h.0, uncut b 4294967295 h.1.0)

pub tree-exact : (a b c : ℕ) → Within tree_limits (a ∷ b ∷ c ∷ []) → tree_words (tree_of (a ∷ b ∷ c ∷ [])) ≡ a ∷ b ∷ c ∷ []
unfolding tree_of
tree-exact a b c h = λ i. uncut a 65535 h.0 i ∷ uncut b 65535 h.1.0 i ∷ uncut c 255 h.1.1.0 i ∷ []

pub open-exact : (a b c d e f g k l : ℕ) → Within open_limits (a ∷ b ∷ c ∷ d ∷ e ∷ f ∷ g ∷ k ∷ l ∷ [])
    → open_words (open_of (a ∷ b ∷ c ∷ d ∷ e ∷ f ∷ g ∷ k ∷ l ∷ [])) ≡ a ∷ b ∷ c ∷ d ∷ e ∷ f ∷ g ∷ k ∷ l ∷ []
unfolding open_of
open-exact a b c d e f g k l h =
    λ i.
    uncut a 65535 h.0 i
    ∷ uncut b 65535 h.1.0 i
    ∷ uncut c 65535 h.1.1.0 i
    ∷ uncut d 4294967295 h.1.1.1.0 i
    ∷ uncut e 255 h.1.1.1.1.0 i
    ∷ uncut f 255 h.1.1.1.1.1.0 i
    ∷ uncut g 255 h.1.1.1.1.1.1.0 i
    ∷ flag-exact k h.1.1.1.1.1.1.1.0 i
    ∷ l
    ∷ []

pub lock-exact : (a b c d e : ℕ) → Within lock_limits (a ∷ b ∷ c ∷ d ∷ e ∷ [])
    → lock_words (lock_of (a ∷ b ∷ c ∷ d ∷ e ∷ [])) ≡ a ∷ b ∷ c ∷ d ∷ e ∷ []
unfolding lock_of
lock-exact a b c d e h =
    λ i. uncut a 65535 h.0 i ∷ uncut b 4294967295 h.1.0 i ∷ c ∷ d ∷ flag-exact e h.1.1.1.1.0 i ∷ []

pub name-exact : (a b c d e f g h k l m n o p : ℕ) → Within name_limits (a ∷ b ∷ c ∷ d ∷ e ∷ f ∷ g ∷ h ∷ k ∷ l ∷ m ∷ n ∷ o ∷ p ∷ [])
    → name_words (name_of (a ∷ b ∷ c ∷ d ∷ e ∷ f ∷ g ∷ h ∷ k ∷ l ∷ m ∷ n ∷ o ∷ p ∷ [])) ≡ a ∷ b ∷ c ∷ d ∷ e ∷ f ∷ g ∷ h ∷ k ∷ l ∷ m ∷ n ∷ o ∷ p ∷ []
unfolding name_of
name-exact a b c d e f g h k l m n o p s =
    λ i.
    uncut a 255 s.0 i
    ∷ uncut b 255 s.1.0 i
    ∷ uncut c 255 s.1.1.0 i
    ∷ uncut d 255 s.1.1.1.0 i
    ∷ uncut e 255 s.1.1.1.1.0 i
    ∷ uncut f 255 s.1.1.1.1.1.0 i
    ∷ uncut g 255 s.1.1.1.1.1.1.0 i
    ∷ uncut h 255 s.1.1.1.1.1.1.1.0 i
    ∷ uncut k 255 s.1.1.1.1.1.1.1.1.0 i
    ∷ uncut l 255 s.1.1.1.1.1.1.1.1.1.0 i
    ∷ uncut m 255 s.1.1.1.1.1.1.1.1.1.1.0 i
    ∷ uncut n 255 s.1.1.1.1.1.1.1.1.1.1.1.0 i
    ∷ uncut o 255 s.1.1.1.1.1.1.1.1.1.1.1.1.0 i
    ∷ uncut p 255 s.1.1.1.1.1.1.1.1.1.1.1.1.1.0 i
    ∷ []
