-- What is tested in the words is what the rules say of the records that the words hold.
-- Assumes nothing.
use Rattle.std.specs.Prelude.{◌≡◌, ℕ, zero, suc, min, ◌+◌, ◌*◌, ◌%◌, ◌≤◌, ◌<◌, Bool, true, false, cond, not, ◌&&◌, length, get_or, leb, ltb, eqb}
use Rattle.std.proofs.Math.Path.{refl, ap}
use Rattle.std.proofs.Common.{sym, ◌∙◌, arith, leb-true, le-leb, lt-ltb, le-ltb, ne_eqb}
use Rattle.std.proofs.Math.Decide.{dec_le, dec_lt}
use mathlib.Core.List.{List, [], ◌∷◌, map}
use Rattle.std.proofs.Math.ListN.{take, get_or-eq_default}
use Rattle.std.proofs.lemmas.Bool.{lt-leb}
use Rattle.lists.specs.Truth.{both_hold}
use Rattle.lists.specs.Walk.{all, all_tails}
use Rattle.lists.specs.Stored.{take-most}
use Rattle.locks.specs.Answer.{file_in}
use Rattle.locks.specs.Range.{passes_end}
use Rattle.records.specs.Empty.{no_lock}
use Rattle.numbers.specs.Number.{number_ok, numbered}
use Rattle.numbers.specs.Column.{uid_of, tid_of, fid_of}
use Rattle.numbers.specs.ColumnWords.{map-up_to, take-up_to}
use Rattle.tables.specs.Words.{word, record_at, array_of, within, records_fit, table_fits, session_of, tree_of, open_of, lock_of, tree_array, lock_array, session_limits, tree_limits, open_limits, lock_limits}
use Rattle.tables.specs.Written.{trees_in}
use Rattle.tables.specs.ChangeLaws.{length-tree_array}
use Rattle.tables.specs.PartLaws.{row, part-row}
use Rattle.tables.specs.ArrayLaws.{record-at}
use Rattle.soundness.specs.LockFits.{lock_fits}
use Rattle.numbers.specs.ByNumber.{last-false, uncut, entry, by_number, free-number}
use Rattle.soundness.specs.Sound.{sharing_ok}
use Rattle.soundness.specs.InWords.{rows, in_order, table_in_order, marked, session_stands, tree_code, tree_in, tree_stands, code_holds, holds_at, open_in, open_stands, lock_stands}

-- ---- lists of values of a function, and of its first ones

module _ {A B : Type 0} (f : A → B) where
  map-take : (n : ℕ) (xs : List A) → map f (take n xs) ≡ take n (map f xs)
  map-take zero xs = refl
  map-take (suc n) [] = refl
  map-take (suc n) (x ∷ xs) = ap (λ (l : List B). f x ∷ l) (map-take n xs)

  pub all_map : (p : B → Bool) (xs : List A) → all p (map f xs) ≡ all (λ x. p (f x)) xs
  unfolding all
  all_map p [] = refl
  all_map p (x ∷ xs) = ap (λ (b : Bool). p (f x) && b) (all_map p xs)

  map-map : {C : Type 0} (g : B → C) (xs : List A) → map g (map f xs) ≡ map (λ x. g (f x)) xs
  map-map g [] = refl
  map-map g (x ∷ xs) = ap (λ l. g (f x) ∷ l) (map-map g xs)

  -- a table by number of records made by a function
  pub entry-map : (key value : B → ℕ) (none : ℕ) (xs : List A) (k : ℕ)
      → entry (λ x. key (f x)) (λ x. value (f x)) none xs k ≡ entry key value none (map f xs) k
  unfolding entry
  entry-map key value none [] k = refl
  entry-map key value none (x ∷ xs) k = ap (cond (eqb (key (f x)) k) (value (f x))) (entry-map key value none xs k)

module _ {A : Type 0} (f : List ℕ → A) (k n : ℕ) (w : List ℕ) where
  -- the records in use, from their words
  pub records-rows : map f (take (word w 0) (rows k n w)) ≡ take (word w 0) (array_of f k n w)
  unfolding array_of
  records-rows = map-take f (word w 0) (rows k n w) ∙ ap (take (word w 0)) (map-up_to f (record_at k w) n)

pub fit-rows : (limits : List ℕ) (n : ℕ) (w : List ℕ) → table_fits limits n w ≡ all (within limits) (take (word w 0) (rows (length limits) n w))
unfolding records_fit
fit-rows limits n w = ap (all (within limits)) (take-up_to (record_at (length limits) w) (word w 0) n)

-- ---- the rules of all records, one by one

sorted : (f n o fs ns os : Bool) → (f && (n && o)) && (fs && (ns && os)) ≡ (f && fs) && ((n && ns) && (o && os))
sorted false n o fs ns os = refl
sorted true false o fs ns os = sym (last-false fs)
sorted true true false fs ns os = simp last-false
sorted true true true fs ns os = refl

module _ {A : Type 0} (limits : List ℕ) (f : List ℕ → A) (limit : ℕ) (key : A → ℕ) (ok : A → Bool) where
  rows-in-order : (rs : List (List ℕ)) → all_tails (in_order limits f limit key ok) rs
      ≡ all (within limits) rs && (numbered limit (map (λ r. key (f r)) rs) && all (λ r. ok (f r)) rs)
  unfolding all_tails all numbered in_order
  rows-in-order [] = refl
  rows-in-order (r ∷ rs) =
      rw (rows-in-order rs)
      (sorted (within limits r) (number_ok limit (key (f r)) (map (λ s. key (f s)) rs)) (ok (f r))
      (all (within limits) rs) (numbered limit (map (λ r. key (f r)) rs)) (all (λ r. ok (f r)) rs))

  pub table-in-order : (n : ℕ) (w : List ℕ)
      → all_tails (in_order limits f limit key ok) (take (word w 0) (rows (length limits) n w)) ≡ table_in_order limits n f limit key ok w
  unfolding table_in_order
  table-in-order n w =
      let rs = take (word w 0) (rows (length limits) n w) in
      rw (rows-in-order rs, fit-rows limits n w, ← (records-rows f (length limits) n w), map-map f key rs, all_map f ok rs)

-- ---- one bound for two

-- a bound below what the field can hold
bound : (x a m : ℕ) → a ≤ m → leb x a ≡ leb x m && leb (x % suc m) a
bound x a m h =
    elim (dec_le x m) [
      | yes k ↦ rw (le-leb x m k, uncut x m k)
      | no k ↦ rw (lt-leb x m (omega arith), lt-leb x a (omega arith))
    ]

-- a number that is read off a table
looked : (table : List ℕ) (x m d : ℕ) (p : ℕ → Bool) → length table ≤ suc m → p d ≡ false
    → ltb x (length table) && p (get_or table x d) ≡ leb x m && p (get_or table (x % suc m) d)
looked table x m d p h q =
    elim (dec_lt x (length table)) [
      | yes k ↦
          let wide : x ≤ m = omega arith in
          rw (lt-ltb x (length table) k, le-leb x m wide, uncut x m wide)
      | no k ↦
          let past : length table ≤ x = omega arith in
          rw (le-ltb x (length table) past)
          (elim (dec_le x m) [
            | yes l ↦ rw (le-leb x m l, uncut x m l, get_or-eq_default table d past) (sym q)
            | no l ↦ rw (lt-leb x m (omega arith))
          ])
    ]

-- ---- a record's words

-- sessions
session-sorted : (a o b : Bool) → (a && o) && b ≡ (a && (b && true)) && (o && true)
session-sorted false o b = refl
session-sorted true false b = simp last-false
session-sorted true true true = refl
session-sorted true true false = refl

abbrev pub row_uid : List ℕ → ℕ
row_uid r = uid_of (session_of r)

abbrev pub session_rule : List ℕ → List (List ℕ) → Bool
session_rule = in_order session_limits session_of 16 uid_of (λ _. true)

session-words : (a b : ℕ) (later : List (List ℕ)) (uids : List ℕ) → all_tails session_rule later ≡ true
    → uids ≡ by_number row_uid (λ _. 1) 0 17 later → session_stands uids (a ∷ b ∷ []) ≡ session_rule (a ∷ b ∷ []) later
unfolding session_stands in_order session_of within
session-words a b later uids e q =
    rw (free-number row_uid (λ _. 1) 0 session_rule (λ _ _ _ z. let n : ⊥ = omega arith in n) 16 later uids a (omega arith) e q)
    (session-sorted (leb a 65535) (number_ok 16 (a % 65536) (map row_uid later)) (leb b 4294967295))

pub session-stands : (w : List ℕ) (i : ℕ) (later : List (List ℕ)) (uids : List ℕ) → length w ≡ 33 → i < 16 → all_tails session_rule later ≡ true
    → uids ≡ by_number row_uid (λ _. 1) 0 17 later → session_stands uids (record_at 2 w i) ≡ session_rule (record_at 2 w i) later
session-stands w i later uids long few e q =
    rw (part-row w (1 + 2 * i) 2 (omega arith)) (session-words (word w (1 + 2 * i)) (word w (1 + 2 * i + 1)) later uids e q)

-- trees
tree-sorted : (a o b b' c c' : Bool) → (a && o) && ((c && c') && (b && b')) ≡ (a && (b && (c && true))) && (o && (c' && b'))
tree-sorted false o b b' c c' = refl
tree-sorted true false b b' c c' = simp last-false
tree-sorted true true b b' false c' = simp last-false
tree-sorted true true b b' true false = simp last-false
tree-sorted true true false b' true true = refl
tree-sorted true true true b' true true = refl

abbrev pub row_tid : List ℕ → ℕ
row_tid r = tid_of (tree_of r)

abbrev pub row_code : List ℕ → ℕ
row_code r = tree_code (tree_of r)

abbrev pub tree_rule : List ℕ → List ℕ → List (List ℕ) → Bool
tree_rule uids = in_order tree_limits tree_of 32 tid_of (tree_in uids)

pub tree-words : (a b c : ℕ) (later : List (List ℕ)) (uids codes : List ℕ) → length uids ≤ 65536 → all_tails (tree_rule uids) later ≡ true
    → codes ≡ by_number row_tid row_code 0 33 later → tree_stands uids codes (a ∷ b ∷ c ∷ []) ≡ tree_rule uids (a ∷ b ∷ c ∷ []) later
unfolding tree_stands in_order tree_of within tree_in marked
tree-words a b c later uids codes h e q =
    rw (
      free-number row_tid row_code 0 (tree_rule uids) (λ _ _ _ z. let n : ⊥ = omega arith in n) 32 later codes a (omega arith) e q,
      bound c 1 255 (omega arith),
      looked uids b 65535 0 (λ x. eqb x 1) h refl,
    )
    (tree-sorted (leb a 65535) (number_ok 32 (a % 65536) (map row_tid later)) (leb b 65535) (eqb (get_or uids (b % 65536) 0) 1) (leb c 255) (leb (c % 256) 1))

-- opens
open-sorted : (a o u t p e e' g g' s s' r h h' : Bool) → (g ≡ true → h ≡ h')
    → (a && o) && (p && ((e && e') && ((g && g') && ((s && s') && (r && (u && (t && h)))))))
    ≡ (a && (u && (t && (p && (e && (g && (s && (r && (true && true))))))))) && (o && (e' && (g' && (s' && h'))))
open-sorted false o u t p e e' g g' s s' r h h' k = refl
open-sorted true false u t p e e' g g' s s' r h h' k = simp last-false
open-sorted true true u t false e e' g g' s s' r h h' k = simp last-false
open-sorted true true u t true false e' g g' s s' r h h' k = simp last-false
open-sorted true true u t true true false g g' s s' r h h' k = simp last-false
open-sorted true true u t true true true false g' s s' r h h' k = simp last-false
open-sorted true true u t true true true true false s s' r h h' k = simp last-false
open-sorted true true u t true true true true true false s' r h h' k = simp last-false
open-sorted true true u t true true true true true true false r h h' k = simp last-false
open-sorted true true u t true true true true true true true false h h' k = simp last-false
open-sorted true true false t true true true true true true true true h h' k = refl
open-sorted true true true false true true true true true true true true h h' k = refl
open-sorted true true true true true true true true true true true true h h' k = k refl

abbrev pub row_fid : List ℕ → ℕ
row_fid r = fid_of (open_of r)

abbrev pub row_file : List ℕ → ℕ
row_file r = (open_of r).file

abbrev pub open_rule : List ℕ → List ℕ → List (List ℕ) → Bool
open_rule codes = in_order open_limits open_of 64 fid_of (open_in codes)

-- an open in order has a file below 255
open-some : (codes r : List ℕ) (later : List (List ℕ)) → open_rule codes r later ≡ true → row_file r ≡ 255 → ⊥
unfolding in_order open_in
open-some codes r later e z =
    let a = both_hold (within open_limits r) _ e in
    let b = both_hold (number_ok 64 (row_fid r) (map row_fid later)) _ a.1 in
    let c = both_hold (leb (row_file r) 15) _ b.1 in
    let small : row_file r ≤ 15 = leb-true (row_file r) 15 c.0 in
    omega arith

-- no code is 0
pub code-none : (uid access : ℕ) → code_holds 0 uid access ≡ false
unfolding code_holds
code-none uid access =
    rw (ne_eqb 0 (2 * uid + 2) (λ e. let n : ⊥ = omega arith in n), ne_eqb 0 (2 * uid + 1) (λ e. let n : ⊥ = omega arith in n))

holds-looked : (codes : List ℕ) (tid uid access : ℕ) → length codes ≤ 65536
    → holds_at codes tid uid access ≡ leb uid 65535 && (leb tid 65535 && code_holds (get_or codes (tid % 65536) 0) (uid % 65536) access)
unfolding holds_at
holds-looked codes tid uid access h =
    rw (looked codes tid 65535 0 (λ x. code_holds x uid access) h (code-none uid access))
    (elim (dec_le uid 65535) [
      | yes k ↦ rw (uncut uid 65535 k)
      | no k ↦ rw (lt-leb uid 65535 (omega arith))
    ])

-- a sharing code is among those listed where the word is one
sharing-bound : (x : ℕ) → sharing_ok x ≡ leb x 255 && sharing_ok (x % 256)
unfolding sharing_ok
sharing-bound x =
    elim (dec_le x 255) [
      | yes k ↦ rw (le-leb x 255 k, uncut x 255 k)
      | no k ↦ rw (lt-leb x 255 (omega arith), lt-leb x 4 (omega arith), le-leb 1 x (omega arith))
    ]

open-words : (a b c d f g s r n : ℕ) (later : List (List ℕ)) (codes files : List ℕ) → n ≤ 18446744073709551615 → length codes ≤ 65536
    → all_tails (open_rule codes) later ≡ true → files ≡ by_number row_fid row_file 255 65 later
    → open_stands codes files (a ∷ b ∷ c ∷ d ∷ f ∷ g ∷ s ∷ r ∷ n ∷ []) ≡ open_rule codes (a ∷ b ∷ c ∷ d ∷ f ∷ g ∷ s ∷ r ∷ n ∷ []) later
unfolding open_stands in_order open_of within open_in
open-words a b c d f g s r n later codes files word-sized h e q =
    rw (
      free-number row_fid row_file 255 (open_rule codes) (open-some codes) 64 later files a (omega arith) e q,
      bound f 15 255 (omega arith),
      bound g 2 255 (omega arith),
      sharing-bound s,
      holds-looked codes c b g h,
      le-leb n 18446744073709551615 word-sized,
    )
    (open-sorted (leb a 65535) (number_ok 64 (a % 65536) (map row_fid later)) (leb b 65535) (leb c 65535) (leb d 4294967295) (leb f 255)
    (leb (f % 256) 15) (leb g 255) (leb (g % 256) 2) (leb s 255) (sharing_ok (s % 256)) (leb r 1) (code_holds (get_or codes (c % 65536) 0) (b % 65536) g)
    (code_holds (get_or codes (c % 65536) 0) (b % 65536) (g % 256))
    (λ k. ap (code_holds (get_or codes (c % 65536) 0) (b % 65536)) (sym (uncut g 255 (leb-true g 255 k)))))

pub open-stands : (w : List ℕ) (i : ℕ) (later : List (List ℕ)) (codes files : List ℕ) → length w ≡ 577 → i < 64 → ((k : ℕ) → word w k ≤ 18446744073709551615)
    → length codes ≤ 65536 → all_tails (open_rule codes) later ≡ true → files ≡ by_number row_fid row_file 255 65 later
    → open_stands codes files (record_at 9 w i) ≡ open_rule codes (record_at 9 w i) later
open-stands w i later codes files long few each h e q =
    rw (part-row w (1 + 9 * i) 9 (omega arith))
    (open-words (word w (1 + 9 * i)) (word w (1 + 9 * i + 1)) (word w (1 + 9 * i + 2)) (word w (1 + 9 * i + 3)) (word w (1 + 9 * i + 4)) (word w (1 + 9 * i + 5)) (word w (1 + 9 * i + 6))
    (word w (1 + 9 * i + 7)) (word w (1 + 9 * i + 8)) later codes files (each (1 + 9 * i + 8)) h e q)

-- locks
lock-sorted : (f p s e h : Bool) → s && (p && (e && (f && h))) ≡ (f && (p && (true && (true && (s && true))))) && (e && h)
lock-sorted f p false e h = simp last-false
lock-sorted f false true e h = simp last-false
lock-sorted f true true false h = simp last-false
lock-sorted false true true true h = refl
lock-sorted true true true true h = refl

-- a lock's rules by itself
abbrev pub lock_rule : List ℕ → List ℕ → Bool
lock_rule files r = within lock_limits r && lock_fits (file_in files) (lock_of r)

lock-words : (a b c d f : ℕ) (files : List ℕ) → c ≤ 18446744073709551615 → d ≤ 18446744073709551615 → length files ≤ 65536
    → lock_stands files (a ∷ b ∷ c ∷ d ∷ f ∷ []) ≡ lock_rule files (a ∷ b ∷ c ∷ d ∷ f ∷ [])
unfolding lock_stands lock_fits lock_of within file_in
lock-words a b c d f files u v h =
    rw (looked files a 65535 255 (λ x. not (eqb x 255)) h refl, le-leb c 18446744073709551615 u, le-leb d 18446744073709551615 v)
    (lock-sorted (leb a 65535) (leb b 4294967295) (leb f 1) (not (passes_end c d)) (not (eqb (get_or files (a % 65536) 255) 255)))

pub lock-stands : (w : List ℕ) (i : ℕ) (files : List ℕ) → length w ≡ 641 → i < 128 → ((k : ℕ) → word w k ≤ 18446744073709551615) → length files ≤ 65536
    → lock_stands files (record_at 5 w i) ≡ lock_rule files (record_at 5 w i)
lock-stands w i files long few each h =
    rw (part-row w (1 + 5 * i) 5 (omega arith))
    (lock-words (word w (1 + 5 * i)) (word w (1 + 5 * i + 1)) (word w (1 + 5 * i + 2)) (word w (1 + 5 * i + 3)) (word w (1 + 5 * i + 4))
    files (each (1 + 5 * i + 2)) (each (1 + 5 * i + 3)) h)

-- all locks in use
all_both : {A : Type 0} (p q : A → Bool) (xs : List A) → all (λ x. p x && q x) xs ≡ all p xs && all q xs
unfolding all
all_both p q [] = refl
all_both p q (x ∷ xs) = rw (all_both p q xs) (both-sorted (p x) (q x) (all p xs) (all q xs))
  where
    both-sorted : (a b c d : Bool) → (a && b) && (c && d) ≡ (a && c) && (b && d)
    both-sorted false b c d = refl
    both-sorted true false c d = sym (last-false c)
    both-sorted true true c d = refl

pub locks-stand : (w files : List ℕ)
    → all (lock_rule files) (take (word w 0) (rows 5 128 w)) ≡ table_fits lock_limits 128 w && all (lock_fits (file_in files)) (take (word w 0) (lock_array w))
unfolding lock_array
locks-stand w files =
    let rs = take (word w 0) (rows 5 128 w) in
    all_both (within lock_limits) (λ r. lock_fits (file_in files) (lock_of r)) rs
    ∙ rw (fit-rows lock_limits 128 w, ← (records-rows lock_of 5 128 w), all_map lock_of (lock_fits (file_in files)) rs)

-- a lock as its words stand
pub lock-row : (w : List ℕ) (i : ℕ) → i < 128 → length w ≡ 641 → get_or (lock_array w) i no_lock ≡ lock_of (row w (1 + 5 * i) 5)
unfolding lock_array
lock-row w i h long = record-at lock_of 5 128 w i no_lock h long

-- a count cut to the table's room
pub trees-in-use : (w : List ℕ) (n : ℕ) → n ≡ min (word w 0) 32 → trees_in w ≡ take n (tree_array w)
trees-in-use w n e = sym (ap (λ (m : ℕ). take m (tree_array w)) e ∙ take-most (tree_array w) (word w 0) 32 (length-tree_array w))
