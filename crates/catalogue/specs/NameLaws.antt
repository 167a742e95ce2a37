-- Laws of names: two compared byte by byte, a name in the words of the catalogue, and the file of the name found.
-- Assumes nothing.
use Rattle.std.specs.Prelude.{◌≡◌, refl, Bool, true, false, not, ◌&&◌, ◌||◌, List, [], ◌∷◌, map, drop, leb, eqb, Some}
use Rattle.std.proofs.Math.Path.{sym, ap}
use Rattle.std.proofs.Common.{◌∙◌, mod-eq_of_lt, add-one, drop_of_length-le}
use Prim.Native.Nat.{ℕ, zero, suc, min, ◌+◌, ◌*◌, ◌%◌, ◌≤◌, ◌<◌}
use Rattle.std.proofs.Math.Decide.{dec_le}
use native.Mathlib.Omega.{arith}
use Rattle.std.proofs.Math.ListN.{length, take, get_or, length-take, get_or-map}
use Rattle.std.proofs.lemmas.List.{length-map, get_or-replicate}
use Rattle.std.proofs.Math.Seq.{get_or-take, get_or-drop, drop-cons, ext_get_or}
use borrow.Author.Tests.{leb-true, le-leb, eq-eqb, ne_eqb}
use Rattle.lists.specs.Truth.{both_hold, hold-both, holds-first, holds-second, same_truth, test-cases, either-cases}
use Rattle.lists.specs.Walk.{all, found}
use Rattle.lists.specs.Members.{all-each, each_all}
use Rattle.lists.specs.PairLaws.{place_in, in_place}
use Rattle.lists.specs.FoundLaws.{found_below}
use Rattle.records.specs.declared.Name.{Name}
use Rattle.records.specs.Empty.{no_name}
use Rattle.tables.specs.Words.{word, part, up_to, record_at, within, name_of, name_array, name_limits, table_fits, records_fit}
use Rattle.tables.specs.Written.{names_in}
use Rattle.tables.specs.PartLaws.{length_part}
use Rattle.tables.specs.RecordLaws.{within-told, within-holds, within-each, each_within}
use Rattle.tables.specs.ArrayLaws.{array_at, length-up_to, get_d-up_to}
use Rattle.tables.specs.ChangeLaws.{length-name_array}
use Rattle.tables.specs.FitLaws.{all-up_to, up_to-all}
use Rattle.catalogue.specs.Name.{folded, same_name, name_bytes, not_zero, name_ok, none_doubled, catalogue_ok}
use Rattle.catalogue.specs.InWords.{long_at, text_at, file_at, length_at, byte_at, byte_stands, text_stands, name_stands, name_tested}

-- ---- two names compared byte by byte

-- names of different lengths are different
pub same-long : (xs ys : List ℕ) → (length xs ≡ length ys → ⊥) → same_name xs ys ≡ false
unfolding same_name
same-long [] [] h = absurd (h refl)
same-long [] (y ∷ ys) h = refl
same-long (x ∷ xs) [] h = refl
same-long (x ∷ xs) (y ∷ ys) h =
    let rest = same-long xs ys (λ e. h (ap suc e)) in
    test-cases (eqb (folded x) (folded y)) (λ e. rw (e, rest)) (λ e. rw e)

module _ (xs ys : List ℕ) (k : ℕ) (hx : k < length xs) (hy : k < length ys) where
  -- bytes that are the same when folded leave the question to those behind them
  pub same_more : folded (get_or xs k 0) ≡ folded (get_or ys k 0) → same_name (drop k xs) (drop k ys) ≡ same_name (drop (k + 1) xs) (drop (k + 1) ys)
  unfolding same_name
  same_more e = rw (add-one k, drop-cons xs k 0 hx, drop-cons ys k 0 hy, eq-eqb (folded (get_or xs k 0)) (folded (get_or ys k 0)) e)

  -- others decide it
  pub same_not : (folded (get_or xs k 0) ≡ folded (get_or ys k 0) → ⊥) → same_name (drop k xs) (drop k ys) ≡ false
  unfolding same_name
  same_not e = rw (drop-cons xs k 0 hx, drop-cons ys k 0 hy, ne_eqb (folded (get_or xs k 0)) (folded (get_or ys k 0)) e)

-- where no byte is left of either they are the same
pub same_end : (xs ys : List ℕ) (k : ℕ) → length xs ≤ k → length ys ≤ k → same_name (drop k xs) (drop k ys) ≡ true
unfolding same_name
same_end xs ys k hx hy = rw (drop_of_length-le xs hx, drop_of_length-le ys hy)

-- ---- a name, from its words

-- a word of a name, by its place in the catalogue
name-word : (w : List ℕ) (i j at : ℕ) → j < 14 → 1 + 14 * i + j ≡ at → word (record_at 14 w i) j ≡ word w at
name-word w i j at h e = get_or-take 14 (drop (1 + 14 * i) w) j 0 h ∙ get_or-drop (1 + 14 * i) w j 0 ∙ ap (word w) e

-- a word that is a byte is not changed by the cut
uncut : (x : ℕ) → x ≤ 255 → x % 256 ≡ x
uncut x h = mod-eq_of_lt (let q : x < 256 = omega arith in q)

module _ (w : List ℕ) (i : ℕ) (h : i < 16) where
  name-at : get_or (name_array w) i no_name ≡ name_of (record_at 14 w i)
  unfolding name_array
  name-at = array_at name_of 14 16 w i no_name h

  pub name-length : (get_or (name_array w) i no_name).length ≡ word w (1 + 14 * i) % 256
  unfolding name_of
  name-length = ap (λ (m : Name). m.length) name-at ∙ ap (λ (x : ℕ). x % 256) (name-word w i 0 (1 + 14 * i) (omega arith) (omega arith))

  pub name-file : (get_or (name_array w) i no_name).file ≡ word w (14 + 14 * i) % 256
  unfolding name_of
  name-file = ap (λ (m : Name). m.file) name-at ∙ ap (λ (x : ℕ). x % 256) (name-word w i 13 (14 + 14 * i) (omega arith) (omega arith))

  module _ (long : length w ≡ 225) where
    text : List ℕ
    text = part (record_at 14 w i) 1 12

    length-text : length text ≡ 12
    unfolding text
    length-text =
        let l : length (record_at 14 w i) ≡ 14 = length_part w (1 + 14 * i) 14 (omega arith) in
        length_part (record_at 14 w i) 1 12 (omega arith)

    text-word : (k : ℕ) → k < 12 → word text k ≡ word w (2 + 14 * i + k)
    unfolding text
    text-word k b =
        get_or-take 12 (drop 1 (record_at 14 w i)) k 0 b ∙ get_or-drop 1 (record_at 14 w i) k 0 ∙ name-word w i (1 + k) (2 + 14 * i + k) (omega arith) (omega arith)

    bytes : List ℕ
    unfolding text
    bytes = take (word (record_at 14 w i) 0 % 256) (map (λ x. x % 256) text)

    length-bytes : length bytes ≡ length_at w i
    unfolding bytes
    length-bytes =
        length-take (word (record_at 14 w i) 0 % 256) (map (λ x. x % 256) text)
        ∙ ap (min (word (record_at 14 w i) 0 % 256)) (length-map text (λ x. x % 256) ∙ length-text)
        ∙ ap (λ (x : ℕ). min (x % 256) 12) (name-word w i 0 (1 + 14 * i) (omega arith) (omega arith))

    byte : (k : ℕ) → k < length bytes → get_or bytes k 0 ≡ get_or (up_to (byte_at w i) (length_at w i)) k 0
    unfolding bytes
    byte k b =
        let l : length bytes ≡ length_at w i = length-bytes in
        let e : word (record_at 14 w i) 0 ≡ word w (1 + 14 * i) = name-word w i 0 (1 + 14 * i) (omega arith) (omega arith) in
        let below : k < word (record_at 14 w i) 0 % 256 = rw e (omega arith) in
        get_or-take (word (record_at 14 w i) 0 % 256) (map (λ x. x % 256) text) k 0 below
        ∙ get_or-map (λ x. x % 256) text k 0
        ∙ ap (λ (x : ℕ). x % 256) (text-word k (omega arith))
        ∙ sym (get_d-up_to (byte_at w i) (length_at w i) k 0 (omega arith))

    pub name-bytes : name_bytes (get_or (name_array w) i no_name) ≡ up_to (byte_at w i) (length_at w i)
    unfolding name_bytes name_of bytes text
    name-bytes =
        ap name_bytes name-at
        ∙ ext_get_or 0 bytes (up_to (byte_at w i) (length_at w i)) (length-bytes ∙ sym (length-up_to (byte_at w i) (length_at w i))) byte

    -- how many bytes it has, and each of them
    pub length-name : length (name_bytes (get_or (name_array w) i no_name)) ≡ length_at w i
    length-name = ap length name-bytes ∙ length-up_to (byte_at w i) (length_at w i)

    pub byte-name : (k : ℕ) → k < length (name_bytes (get_or (name_array w) i no_name)) → get_or (name_bytes (get_or (name_array w) i no_name)) k 0 ≡ byte_at w i k
    byte-name k b =
        ap (λ (l : List ℕ). get_or l k 0) name-bytes ∙ get_d-up_to (byte_at w i) (length_at w i) k 0 (rw length-name at b)

-- ---- the rules for a name, in its words

four-hold : (a b c d : Bool) → (a && (b && (c && d))) ≡ true → (a ≡ true) × (b ≡ true) × (c ≡ true) × (d ≡ true)
four-hold a b c d e =
    let f = both_hold a (b && (c && d)) e in
    let g = both_hold b (c && d) f.1 in
    let h = both_hold c d g.1 in
    (f.0, g.0, h.0, h.1)

hold-four : (a b c d : Bool) → a ≡ true → b ≡ true → c ≡ true → d ≡ true → (a && (b && (c && d))) ≡ true
hold-four a b c d e f g h = rw (e, f, g, h)

ok-by : (m : Name) (n f : ℕ) → m.length ≡ n → m.file ≡ f → name_ok m ≡ leb 1 n && (leb n 12 && (all not_zero (name_bytes m) && leb f 15))
unfolding name_ok
ok-by m n f e g = rw (e, g)

-- a byte of a text that stands
text-byte : (n x k : ℕ) → x ≤ 255 → (k < n → not_zero x ≡ true) → byte_stands n x k ≡ true
unfolding byte_stands not_zero
text-byte n x k fits e =
    hold-both (leb x 255) (leb n k || not (eqb x 0)) (le-leb x 255 fits)
    (elim (dec_le n k) [
      | yes q ↦ holds-first (leb n k) (not (eqb x 0)) (le-leb n k q)
      | no q ↦ holds-second (leb n k) (not (eqb x 0)) (e (omega arith))
    ])

byte-text : (n x k : ℕ) → byte_stands n x k ≡ true → (x ≤ 255) × (k < n → not_zero x ≡ true)
unfolding byte_stands not_zero
byte-text n x k e =
    let b = both_hold (leb x 255) (leb n k || not (eqb x 0)) e in (
      leb-true x 255 b.0,
      λ below. either-cases (leb n k) (not (eqb x 0)) b.1 (λ q. let p : n ≤ k = leb-true n k q in absurd (let z : ⊥ = omega arith in z)) (λ q. q),
    )

-- each limit is that of a byte
limit : (j : ℕ) → j < 14 → word name_limits j ≡ 255
limit j h = get_or-replicate 14 j 255 0 h

module _ (w : List ℕ) (i : ℕ) (h : i < 16) (long : length w ≡ 225) where
  -- the name
  abbrev m : Name
  m = get_or (name_array w) i no_name

  -- with words that are bytes the rules need no cut
  ok-uncut : long_at w i ≤ 255 → file_at w i ≤ 255
      → name_ok m ≡ leb 1 (long_at w i) && (leb (long_at w i) 12 && (all not_zero (name_bytes m) && leb (file_at w i) 15))
  ok-uncut a b = ok-by m (long_at w i) (file_at w i) (name-length w i h ∙ uncut (long_at w i) a) (name-file w i h ∙ uncut (file_at w i) b)

  -- the first bytes are not zero
  nonzero : long_at w i ≤ 12 → ((k : ℕ) → k < 12 → text_at w i k ≤ 255) → all not_zero (name_bytes m) ≡ true → (k : ℕ) → k < long_at w i → not_zero (text_at w i k) ≡ true
  nonzero few fits e k below =
      let cut : long_at w i % 256 ≡ long_at w i = uncut (long_at w i) (omega arith) in
      let inside : k < length_at w i = rw cut (omega arith) in
      rw (uncut (text_at w i k) (fits k (omega arith))) at (up_to-all not_zero (byte_at w i) (length_at w i) k (rw (name-bytes w i h long) at e) inside)

  all-nonzero : long_at w i ≤ 12 → ((k : ℕ) → k < 12 → text_at w i k ≤ 255) → ((k : ℕ) → k < long_at w i → not_zero (text_at w i k) ≡ true) → all not_zero (name_bytes m) ≡ true
  all-nonzero few fits each =
      rw (name-bytes w i h long)
      (all-up_to not_zero (byte_at w i) (length_at w i) (λ k below.
      let cut : long_at w i % 256 ≡ long_at w i = uncut (long_at w i) (omega arith) in
      let inside : k < long_at w i = rw cut at (let q : k < long_at w i % 256 = omega arith in q) in
      rw (uncut (text_at w i k) (fits k (omega arith))) (each k inside)))

  stands-tested : name_stands w i ≡ true → name_tested w i ≡ true
  unfolding text_stands
  stands-tested e =
      let b = both_hold (within name_limits (record_at 14 w i)) (name_ok m) e in
      let each = each_within name_limits (record_at 14 w i) (within-told name_limits (record_at 14 w i) b.0) in
      let at : (j at : ℕ) → j < 14 → 1 + 14 * i + j ≡ at → word w at ≤ 255 = λ j at k q. rw (name-word w i j at k q, limit j k) at (each j k) in
      let long-fits : long_at w i ≤ 255 = at 0 (1 + 14 * i) (omega arith) (omega arith) in
      let file-fits : file_at w i ≤ 255 = at 13 (14 + 14 * i) (omega arith) (omega arith) in
      let fits : (k : ℕ) → k < 12 → text_at w i k ≤ 255 = λ k below. at (1 + k) (2 + 14 * i + k) (omega arith) (omega arith) in
      let ok = four-hold (leb 1 (long_at w i)) (leb (long_at w i) 12) (all not_zero (name_bytes m)) (leb (file_at w i) 15) (sym (ok-uncut long-fits file-fits) ∙ b.1) in
      let few : long_at w i ≤ 12 = leb-true (long_at w i) 12 ok.1 in
      hold-four (leb 1 (long_at w i)) (leb (long_at w i) 12) (leb (file_at w i) 15) (text_stands w (2 + 14 * i) (long_at w i)) ok.0 ok.1 ok.3
      (all-up_to (λ k. byte_stands (long_at w i) (text_at w i k) k) (λ k. k) 12 (λ k below. text-byte (long_at w i) (text_at w i k) k (fits k below) (nonzero few fits ok.2 k)))

  -- each word is a byte
  byte_fits : long_at w i ≤ 12 → file_at w i ≤ 15 → ((k : ℕ) → k < 12 → text_at w i k ≤ 255) → (j : ℕ) → j < 14 → word (record_at 14 w i) j ≤ word name_limits j
  byte_fits few known fits zero k = rw (name-word w i 0 (1 + 14 * i) (omega arith) (omega arith)) (omega arith)
  byte_fits few known fits (suc j) k =
      elim (dec_le 12 j) [
        | yes q ↦ rw (limit (suc j) k, name-word w i (suc j) (14 + 14 * i) k (omega arith)) (omega arith)
        | no q ↦ rw (limit (suc j) k, name-word w i (suc j) (2 + 14 * i + j) k (omega arith)) (fits j (omega arith))
      ]

  tested-stands : name_tested w i ≡ true → name_stands w i ≡ true
  unfolding text_stands
  tested-stands e =
      let t = four-hold (leb 1 (long_at w i)) (leb (long_at w i) 12) (leb (file_at w i) 15) (text_stands w (2 + 14 * i) (long_at w i)) e in
      let few : long_at w i ≤ 12 = leb-true (long_at w i) 12 t.1 in
      let known : file_at w i ≤ 15 = leb-true (file_at w i) 15 t.2 in
      let byte : (k : ℕ) → k < 12 → (text_at w i k ≤ 255) × (k < long_at w i → not_zero (text_at w i k) ≡ true) =
      λ k below. byte-text (long_at w i) (text_at w i k) k (up_to-all (λ k. byte_stands (long_at w i) (text_at w i k) k) (λ k. k) 12 k t.3 below)
      in
      let fits : (k : ℕ) → k < 12 → text_at w i k ≤ 255 = λ k below. (byte k below).0 in
      hold-both (within name_limits (record_at 14 w i)) (name_ok m)
      (within-holds name_limits (record_at 14 w i) (within-each name_limits (record_at 14 w i) (byte_fits few known fits)))
      (ok-uncut (omega arith) (omega arith)
      ∙ hold-four (leb 1 (long_at w i)) (leb (long_at w i) 12) (all not_zero (name_bytes m)) (leb (file_at w i) 15) t.0 t.1
      (all-nonzero few fits (λ k below. (byte k (omega arith)).1 below))
      t.2)

  pub name-stands : name_stands w i ≡ name_tested w i
  name-stands = same_truth (name_stands w i) (name_tested w i) stands-tested tested-stands

-- ---- the rules for each name

module _ (w : List ℕ) (few : word w 0 ≤ 16) where
  inside : (i : ℕ) → i < word w 0 → i < length (names_in w)
  inside i h = let l : length (name_array w) ≡ 16 = length-name_array w in rw (length-take (word w 0) (name_array w)) (omega arith)

  each_stands : (table_fits name_limits 16 w && all name_ok (names_in w)) ≡ true → all (name_stands w) (up_to (λ i. i) (word w 0)) ≡ true
  unfolding records_fit
  each_stands e =
      let b = both_hold (table_fits name_limits 16 w) (all name_ok (names_in w)) e in
      all-up_to (name_stands w) (λ i. i) (word w 0) (λ i h.
      hold-both _ _
      (up_to-all (within name_limits) (record_at 14 w) (min (word w 0) 16) i b.0 (omega arith))
      (rw (get_or-take (word w 0) (name_array w) i no_name h) at (all-each name_ok (place_in no_name (names_in w) i (inside i h)) b.1)))

  stands-each : all (name_stands w) (up_to (λ i. i) (word w 0)) ≡ true → (table_fits name_limits 16 w && all name_ok (names_in w)) ≡ true
  unfolding records_fit
  stands-each e =
      let each : (i : ℕ) → i < word w 0 → (within name_limits (record_at 14 w i) ≡ true) × (name_ok (get_or (name_array w) i no_name) ≡ true) =
      λ i h. both_hold _ _ (up_to-all (name_stands w) (λ i. i) (word w 0) i e h)
      in
      hold-both (table_fits name_limits 16 w) (all name_ok (names_in w))
      (all-up_to (within name_limits) (record_at 14 w) (min (word w 0) 16) (λ i h. (each i (omega arith)).0))
      (each_all name_ok (names_in w) (λ m p.
      let q = in_place no_name p in
      let l : length (names_in w) ≡ min (word w 0) (length (name_array w)) = length-take (word w 0) (name_array w) in
      let k : q.0 < length (names_in w) = q.1 in
      let below : q.0 < word w 0 = omega arith in
      ap name_ok (sym q.2 ∙ get_or-take (word w 0) (name_array w) q.0 no_name below) ∙ (each q.0 below).1))

  pub names_stand : (table_fits name_limits 16 w && all name_ok (names_in w)) ≡ all (name_stands w) (up_to (λ i. i) (word w 0))
  names_stand = same_truth (table_fits name_limits 16 w && all name_ok (names_in w)) (all (name_stands w) (up_to (λ i. i) (word w 0))) each_stands stands-each

-- ---- the whole catalogue: the count is tested first, and the words of each name with its rules

in_order : (f l a d : Bool) → (f && (l && (a && d))) ≡ l && ((f && a) && d)
in_order true l a d = refl
in_order false true a d = refl
in_order false false a d = refl

pub catalogue-tested : (w : List ℕ)
    → (table_fits name_limits 16 w && catalogue_ok (name_array w) (word w 0))
    ≡ leb (word w 0) 16 && ((table_fits name_limits 16 w && all name_ok (names_in w)) && none_doubled (names_in w))
unfolding catalogue_ok
catalogue-tested w = in_order (table_fits name_limits 16 w) (leb (word w 0) 16) (all name_ok (names_in w)) (none_doubled (names_in w))

-- ---- the name found

module _ (p : Name → Bool) (k : ℕ) where
  -- its place is one of the catalogue's
  pub found-place : (w : List ℕ) → found p (names_in w) ≡ Some k → (k < 16) × (get_or (names_in w) k no_name ≡ get_or (name_array w) k no_name)
  found-place w e =
      let b : k < length (names_in w) = found_below p (names_in w) k e in
      let l : length (names_in w) ≡ min (word w 0) (length (name_array w)) = length-take (word w 0) (name_array w) in
      let m : length (name_array w) ≡ 16 = length-name_array w in
      (omega arith, get_or-take (word w 0) (name_array w) k no_name (omega arith))

  -- its file is one of the files
  pub found-file : (names : List Name) (count : ℕ) → catalogue_ok names count ≡ true → found p (take count names) ≡ Some k → (get_or (take count names) k no_name).file ≤ 15
  unfolding catalogue_ok name_ok
  found-file names count ok e =
      let n = get_or (take count names) k no_name in
      let rules = (both_hold (all name_ok (take count names)) (none_doubled (take count names)) (both_hold (leb count 16) (all name_ok (take count names) && none_doubled (take count names)) ok).1).0 in
      let one = all-each name_ok (place_in no_name (take count names) k (found_below p (take count names) k e)) rules in
      leb-true n.file 15 (four-hold (leb 1 n.length) (leb n.length 12) (all not_zero (name_bytes n)) (leb n.file 15) one).3
