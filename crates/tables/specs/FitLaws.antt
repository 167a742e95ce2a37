-- Words in use that fit: tested column by column, kept by a write, and exactly the words of the records that they hold.
-- Assumes nothing.
use Rattle.std.specs.Prelude.{◌≡◌, Bool, true, false, cond, List, drop, get_or, eqb}
use Rattle.std.proofs.Math.Path.{refl}
use Rattle.std.proofs.Common.{sym, ap, ◌∙◌, mul-suc, mul-le-mul_left, arith, get_or-take, get_or-drop, take_all}
use Prim.Native.Nat.{ℕ, zero, suc, ◌+◌, ◌*◌, ◌≤◌, ◌<◌}
use Rattle.std.proofs.Math.Decide.{ℕ_discrete}
use Rattle.std.proofs.Math.ListN.{length}
use Rattle.std.proofs.Math.Dec.{leb}
use borrow.Author.Tests.{le-leb, leb-true, eqb-true}
use Rattle.lists.specs.Truth.{same_truth, test-cases}
use Rattle.lists.specs.Walk.{all, rest}
use Rattle.lists.specs.WalkLaws.{all_yes, all-no, all_end}
use Rattle.lists.specs.Members.{all-each, all_snoc}
use Rattle.lists.specs.PairLaws.{place_in}
use Rattle.records.specs.Empty.{no_session, no_tree, no_open, no_lock, no_name}
use Rattle.tables.specs.Words.{word, up_to, record_at, array_of, within, records_fit, in_use, session_of, tree_of, open_of, lock_of, name_of, session_array, tree_array, open_array, lock_array, name_array, session_limits, tree_limits, open_limits, lock_limits, name_limits}
use Rattle.tables.specs.Written.{Wrote, Renewed, session_words, tree_words, open_words, lock_words, name_words}
use Rattle.tables.specs.RecordLaws.{Within, within-holds, within-told, within-each, each_within, session-exact, tree-exact, open-exact, lock-exact, name-exact}
use Rattle.tables.specs.PartLaws.{row, part-row}
use Rattle.tables.specs.ArrayLaws.{length-up_to, get_d-up_to, record-room, record-at}

-- ---- a test of the values of f at 0, 1, 2 and so on

module _ {A : Type 0} (p : A → Bool) (f : ℕ → A) where
  pub all-up_to : (n : ℕ) → ((i : ℕ) → i < n → p (f i) ≡ true) → all p (up_to f n) ≡ true
  unfolding all up_to
  all-up_to zero each = refl
  all-up_to (suc n) each = all_snoc p (up_to f n) (f n) (all-up_to n (λ i h. each i (omega arith))) (each n (omega arith))

  pub up_to-all : (n i : ℕ) → all p (up_to f n) ≡ true → i < n → p (f i) ≡ true
  up_to-all n i e h =
      let long : length (up_to f n) ≡ n = length-up_to f n in
      let inside : i < length (up_to f n) = omega arith in
      rw (get_d-up_to f n i (f i) h) at (all-each p (place_in (f i) (up_to f n) i inside) e)

-- ---- the steps of a loop from 0 to n that tests each f i

module _ {A : Type 0} (p : A → Bool) (f : ℕ → A) (n : ℕ) where
  -- what is left to test at i
  abbrev pub left : ℕ → Bool
  left i = all p (rest (up_to f n) n i)

  pub left-start : all p (up_to f n) ≡ left 0
  left-start = ap (all p) (sym (take_all n (up_to f n) (let l : length (up_to f n) ≡ n = length-up_to f n in omega arith)))

  module _ (i : ℕ) (h : i < n) where
    here : i < length (up_to f n)
    here = let l : length (up_to f n) ≡ n = length-up_to f n in omega arith

    pub left-yes : p (f i) ≡ true → left i ≡ left (i + 1)
    left-yes e = all_yes (up_to f n) n i (f i) h here p (rw (get_d-up_to f n i (f i) h) e)

    pub left-no : p (f i) ≡ false → left i ≡ false
    left-no e = all-no (up_to f n) n i (f i) h here p (rw (get_d-up_to f n i (f i) h) e)

  pub left_end : (i : ℕ) → n ≤ i → left i ≡ true
  left_end i h = all_end (up_to f n) n p i h

-- ---- column by column

-- of the words at `from`, `from + step` and so on, n of them, none is above the limit
unfoldable pub column_fits : List ℕ → ℕ → ℕ → ℕ → ℕ → Bool
column_fits w from step n limit = all (λ x. leb x limit) (up_to (λ i. word w (from + step * i)) n)

-- a word of a column stands inside
pub column-inside : (from step n i room : ℕ) → i < n → from + step * n < step + room → from + step * i < room
column-inside from step n i room h inside =
    let m : step * suc i ≤ step * n = mul-le-mul_left step h in
    let s : step * suc i ≡ step * i + step = mul-suc step i in
    omega arith

-- where every word is at most the limit
pub column-any : (w : List ℕ) (from step n limit : ℕ) → ((k : ℕ) → word w k ≤ limit) → column_fits w from step n limit ≡ true
unfolding column_fits
column-any w from step n limit each =
    all-up_to (λ x. leb x limit) (λ i. word w (from + step * i)) n (λ i h. le-leb (word w (from + step * i)) limit (each (from + step * i)))

-- a column whose limit is the largest word needs no test
pub column-tested : (w : List ℕ) (from step n limit : ℕ) → ((k : ℕ) → word w k ≤ 18446744073709551615)
    → column_fits w from step (cond (eqb limit 18446744073709551615) 0 n) limit ≡ column_fits w from step n limit
column-tested w from step n limit each =
    test-cases (eqb limit 18446744073709551615)
    (λ e.
    let largest : limit ≡ 18446744073709551615 = eqb-true limit 18446744073709551615 e in
    let any : (k : ℕ) → word w k ≤ limit = λ k. rw largest (each k) in
    column-any w from step (cond (eqb limit 18446744073709551615) 0 n) limit any ∙ sym (column-any w from step n limit any))
    (λ e. rw e)

-- the word of a record, in its column
record-word : (w : List ℕ) (k i j : ℕ) → j < k → word (record_at k w i) j ≡ word w (1 + j + k * i)
record-word w k i j h =
    let at : 1 + k * i + j ≡ 1 + j + k * i = omega arith in
    get_or-take k (drop (1 + k * i) w) j 0 h ∙ get_or-drop (1 + k * i) w j 0 ∙ ap (word w) at

module _ (limits : List ℕ) (m : ℕ) (w : List ℕ) where
  -- a column of the first m records
  abbrev pub column_of : ℕ → Bool
  column_of j = column_fits w (1 + j) (length limits) m (word limits j)

  rows-columns : records_fit limits m w ≡ true → all column_of (up_to (λ j. j) (length limits)) ≡ true
  unfolding records_fit column_fits
  rows-columns e =
      all-up_to column_of (λ j. j) (length limits) (λ j h.
      all-up_to (λ x. leb x (word limits j)) (λ i. word w (1 + j + length limits * i)) m (λ i k.
      let r = within-told limits (record_at (length limits) w i) (up_to-all (within limits) (record_at (length limits) w) m i e k) in
      le-leb (word w (1 + j + length limits * i)) (word limits j)
      (rw (record-word w (length limits) i j h) at (each_within limits (record_at (length limits) w i) r j h))))

  columns-rows : all column_of (up_to (λ j. j) (length limits)) ≡ true → records_fit limits m w ≡ true
  unfolding records_fit column_fits
  columns-rows e =
      all-up_to (within limits) (record_at (length limits) w) m (λ i k.
      within-holds limits (record_at (length limits) w i)
      (within-each limits (record_at (length limits) w i) (λ j h.
      rw (record-word w (length limits) i j h)
      (leb-true (word w (1 + j + length limits * i)) (word limits j)
      (up_to-all (λ x. leb x (word limits j)) (λ i. word w (1 + j + length limits * i)) m i (up_to-all column_of (λ j. j) (length limits) j e h) k)))))

  -- the records fit when each column does
  pub by-columns : records_fit limits m w ≡ all column_of (up_to (λ j. j) (length limits))
  by-columns = same_truth (records_fit limits m w) (all column_of (up_to (λ j. j) (length limits))) rows-columns columns-rows

-- ---- after a record is written

module _ (limits before : List ℕ) where
  record-fits : (m i : ℕ) → records_fit limits m before ≡ true → i < m → within limits (record_at (length limits) before i) ≡ true
  unfolding records_fit
  record-fits m i e h = up_to-all (within limits) (record_at (length limits) before) m i e h

-- records that fit stay so: those in front of the one written, and all when it is one of them
pub fit-wrote : {A : Type 0} {array_in : List ℕ → List A} {limits before after : List ℕ} {i : ℕ} {x : A} (m n : ℕ)
    → Wrote array_in limits before after i x → records_fit limits m before ≡ true → ((j : ℕ) → j < n → (j ≡ i → ⊥) → j < m)
    → records_fit limits n after ≡ true
unfolding records_fit
fit-wrote {limits = limits} {before = before} {after = after} {i = i} m n r e inside =
    all-up_to (within limits) (record_at (length limits) after) n (λ j h.
    elim (ℕ_discrete j i) [
      | yes q ↦ rw q r.fit
      | no q ↦ ap (within limits) (r.stand j q) ∙ record-fits limits before m j e (inside j h q)
    ])

-- a record in use, renewed, is written whole
pub renewed-fits : {A : Type 0} {array_in : List ℕ → List A} {limits before after : List ℕ} {i : ℕ} {x : A} (m : ℕ)
    → Renewed array_in limits before after i x → records_fit limits m before ≡ true → i < m → Wrote array_in limits before after i x
renewed-fits {limits = limits} {before = before} {i = i} m r e h =
    record { array = r.array; count = r.count; fit = r.fit (record-fits limits before m i e h); stand = r.stand }

-- ---- faithful: the words of a record in use are the words of what they hold

module _ {A : Type 0} (f : List ℕ → A) (g : A → List ℕ) (limits : List ℕ) (n : ℕ)
    (exact : (w : List ℕ) (at : ℕ) → Within limits (row w at (length limits)) → g (f (row w at (length limits))) ≡ row w at (length limits)) where
  pub faithful : (w : List ℕ) (m i : ℕ) (d : A) → length w ≡ 1 + length limits * n → records_fit limits m w ≡ true → i < m → i < n
      → g (get_or (array_of f (length limits) n w) i d) ≡ record_at (length limits) w i
  faithful w m i d long e h below =
      let k = length limits in
      let room = record-room k n i below in
      let same : record_at k w i ≡ row w (1 + k * i) k = part-row w (1 + k * i) k (omega arith) in
      let fit : within limits (record_at k w i) ≡ true = record-fits limits w m i e h in
      ap g (record-at f k n w i d below long)
      ∙ exact w (1 + k * i) (within-told limits (row w (1 + k * i) k) (rw same at fit))
      ∙ sym same

pub sessions-faithful : (w : List ℕ) (i : ℕ) → length w ≡ 33 → records_fit session_limits (in_use w 16) w ≡ true → i < in_use w 16
    → session_words (get_or (session_array w) i no_session) ≡ record_at 2 w i
unfolding session_array
sessions-faithful w i long e h =
    faithful session_of session_words session_limits 16 (λ w at. session-exact (word w at) (word w (at + 1))) w (in_use w 16) i no_session long e h (omega arith)

pub trees-faithful : (w : List ℕ) (i : ℕ) → length w ≡ 97 → records_fit tree_limits (in_use w 32) w ≡ true → i < in_use w 32
    → tree_words (get_or (tree_array w) i no_tree) ≡ record_at 3 w i
unfolding tree_array
trees-faithful w i long e h =
    faithful tree_of tree_words tree_limits 32 (λ w at. tree-exact (word w at) (word w (at + 1)) (word w (at + 2))) w (in_use w 32) i no_tree long e h (omega arith)

pub opens-faithful : (w : List ℕ) (i : ℕ) → length w ≡ 577 → records_fit open_limits (in_use w 64) w ≡ true → i < in_use w 64
    → open_words (get_or (open_array w) i no_open) ≡ record_at 9 w i
unfolding open_array
opens-faithful w i long e h =
    faithful open_of open_words open_limits 64
    (λ w at. open-exact (word w at) (word w (at + 1)) (word w (at + 2)) (word w (at + 3)) (word w (at + 4)) (word w (at + 5)) (word w (at + 6)) (word w (at + 7)) (word w (at + 8)))
    w (in_use w 64) i no_open long e h (omega arith)

pub locks-faithful : (w : List ℕ) (i : ℕ) → length w ≡ 641 → records_fit lock_limits (in_use w 128) w ≡ true → i < in_use w 128
    → lock_words (get_or (lock_array w) i no_lock) ≡ record_at 5 w i
unfolding lock_array
locks-faithful w i long e h =
    faithful lock_of lock_words lock_limits 128
    (λ w at. lock-exact (word w at) (word w (at + 1)) (word w (at + 2)) (word w (at + 3)) (word w (at + 4)))
    w (in_use w 128) i no_lock long e h (omega arith)

pub names-faithful : (w : List ℕ) (i : ℕ) → length w ≡ 225 → records_fit name_limits (in_use w 16) w ≡ true → i < in_use w 16
    → name_words (get_or (name_array w) i no_name) ≡ record_at 14 w i
unfolding name_array
names-faithful w i long e h =
    faithful name_of name_words name_limits 16
    (λ w at. name-exact (word w at) (word w (at + 1)) (word w (at + 2)) (word w (at + 3)) (word w (at + 4)) (word w (at + 5)) (word w (at + 6)) (word w (at + 7)) (word w (at + 8)) (word w (at + 9)) (word w (at + 10)) (word w (at + 11)) (word w (at + 12)) (word w (at + 13)))
    w (in_use w 16) i no_name long e h (omega arith)
