-- The open that has read, written in its place: the list of opens with what each open remembers (document 02, CR 8). Assumes nothing.
use Rattle.std.specs.Prelude.{◌≡◌, ℕ, zero, suc, ◌+◌, ◌-◌, ◌<◌, ◌≤◌, true, false, not, List, [], ◌∷◌, map, length, get_or, take, drop, set, ◌==◌, ◌≢◌, nat_eq, nat_le, slice_index_or, slice_set}
use Rattle.std.proofs.Math.Path.{refl}
use Rattle.std.proofs.Common.{sym, ap, ◌∙◌, length-set, take-append-drop, length-take-le}
use native.Mathlib.Omega.{arith}
use Rattle.std.proofs.lemmas.List.{set-append_left}
use borrow.Author.Tests.{eqb-false, eq-eqb, ne_eqb, not-true}
use Rattle.lists.specs.Stored.{stored}
use Rattle.lists.specs.Truth.{both_hold, neither-holds}
use Rattle.lists.specs.Walk.{any, all_tails}
use Rattle.records.specs.declared.Open.{Open}
use Rattle.records.specs.Change.{open_after, noting, with_read}
use Rattle.records.specs.Empty.{no_open}
use Rattle.records.specs.Held.{with_opens}
use Rattle.numbers.specs.Number.{contains, number_ok, numbered}
use Rattle.numbers.specs.Column.{fid_of}
use Rattle.tables.specs.Words.{word, part, open_array, open_limits, in_use, tables_of, in_use_fit}
use Rattle.tables.specs.Written.{Wrote, Holds, opens_in}
use Rattle.tables.specs.ChangeLaws.{length-open_array}
use Rattle.tables.specs.FitLaws.{fit-wrote}
use Rattle.tables.specs.PartLaws.{lent}
use Rattle.tables.specs.WholeLaws.{opens_in_lem, with-opens, told_fit, fit-opens}
use Rattle.invariants.specs.SoundParts.{sound-says}
use Rattle.invariants.specs.Sound.{Good}
use Rattle.requests.specs.Reach.{Stands}

module _ (fid number : ℕ) where
  -- where no open has the FID, nothing is noted
  none-noted : (os : List Open) → contains fid (map fid_of os) ≡ false → map (noting fid number) os ≡ os
  unfolding contains any noting
  none-noted [] e = refl
  none-noted (o ∷ os) e =
      let n = neither-holds (o.fid == fid) (any (λ (x : ℕ). nat_eq x fid) (map fid_of os)) e in
      rw (n.0, none-noted os n.1)

  -- the FID of an open in the list is not said to be missing
  not-missing : (os : List Open) (k : ℕ) → k < length os → (get_or os k no_open).fid ≡ fid → contains fid (map fid_of os) ≢ false
  unfolding contains any
  not-missing [] k h e m = omega arith
  not-missing (o ∷ os) zero h e m =
      eqb-false o.fid fid (neither-holds (o.fid == fid) (any (λ (x : ℕ). nat_eq x fid) (map fid_of os)) m).0 e
  not-missing (o ∷ os) (suc k) h e m =
      not-missing os k (omega arith) e (neither-holds (o.fid == fid) (any (λ (x : ℕ). nat_eq x fid) (map fid_of os)) m).1

  -- no other open has the FID of the first
  alone : (o : Open) (os : List Open) → numbered 64 (fid_of o ∷ map fid_of os) ≡ true → contains o.fid (map fid_of os) ≡ false
  unfolding numbered all_tails number_ok
  alone o os d =
      let a = both_hold (number_ok 64 o.fid (map fid_of os)) (numbered 64 (map fid_of os)) d in
      let b = both_hold (nat_le 1 o.fid) _ a.0 in
      not-true (contains o.fid (map fid_of os)) (both_hold (nat_le o.fid 64) (not (contains o.fid (map fid_of os))) b.1).1

  -- opens of distinct FIDs: noting one is writing it in its place
  pub noted-at : (os : List Open) (k : ℕ) → numbered 64 (map fid_of os) ≡ true → k < length os → (get_or os k no_open).fid ≡ fid
      → map (noting fid number) os ≡ slice_set os k (open_after (slice_index_or os k no_open) number)
  unfolding numbered all_tails number_ok noting
  noted-at [] k d h e = absurd (let z : ⊥ = omega arith in z)
  noted-at (o ∷ os) zero d h e = rw (eq-eqb o.fid fid e, none-noted os (rw e at (alone o os d)))
  noted-at (o ∷ os) (suc k) d h e =
      let other : nat_eq o.fid fid ≡ false = ne_eqb o.fid fid (λ q. not-missing os k (omega arith) e (rw q at (alone o os d))) in
      rw (other, noted-at os k (both_hold (number_ok 64 o.fid (map fid_of os)) (numbered 64 (map fid_of os)) d).1 (omega arith) e)

-- a record in use written in its place: the array holds the list with it
stored-set : {A : Type 0} (z : A) (xs : List A) (n k : ℕ) (x : A) → n ≤ length xs → k < length (take n xs)
    → slice_set xs k x ≡ stored z xs (length (take n xs)) (slice_set (take n xs) k x)
unfolding stored
stored-set z xs n k x full h =
    let same : length (slice_set (take n xs) k x) ≡ length (take n xs) = length-set (take n xs) k x in
    let long : length (take n xs) ≡ n = length-take-le n xs full in
    let gap : n - n ≡ 0 = omega arith in
    let sum : n + 0 ≡ n = omega arith in
    ap (λ l. set l k x) (sym (take-append-drop n xs)) ∙ set-append_left (take n xs) (drop n xs) k x h ∙ rw (same, long, gap, sum)

module _ (w e : List ℕ) (full : length w ≡ 1605) (long : length e ≡ 577) (good : Good (tables_of w)) (o : Open) (k number : ℕ)
    (stands : Stands (tables_of w) o.fid o k) (wrote : Wrote open_array open_limits (part w 130 577) e k (open_after o number)) where
  room : word (part w 130 577) 0 ≤ 64
  unfolding tables_of
  room = (sound-says (tables_of w) good.sound).room.opens-fit

  used : k < length (opens_in (part w 130 577))
  used = rw (opens_in_lem w) at stands.used

  holds : Holds open_array no_open (part w 130 577) e (slice_set (opens_in (part w 130 577)) k (open_after o number))
  holds =
      let r = room in
      let all : length (open_array (part w 130 577)) ≡ 64 = length-open_array (part w 130 577) in
      let within : word (part w 130 577) 0 ≤ length (open_array (part w 130 577)) = omega arith in
      record {
        array = wrote.array ∙ stored-set no_open (open_array (part w 130 577)) (word (part w 130 577) 0) k (open_after o number) within used;
        count =
            wrote.count
            ∙ sym (length-set (opens_in (part w 130 577)) k (open_after o number) ∙ length-take-le (word (part w 130 577) 0) (open_array (part w 130 577)) within);
      }

  listed : set (opens_in (part w 130 577)) k (open_after o number) ≡ map (noting o.fid number) (opens_in (part w 130 577))
  listed =
      let is : o ≡ get_or (opens_in (part w 130 577)) k no_open = stands.is ∙ ap (λ (l : List Open). get_or l k no_open) (opens_in_lem w) in
      let fids : numbered 64 (map fid_of (opens_in (part w 130 577))) ≡ true = ap (λ (l : List Open). numbered 64 (map fid_of l)) (sym (opens_in_lem w)) ∙ (sound-says (tables_of w) good.sound).records.fids in
      ap (λ (x : Open). set (opens_in (part w 130 577)) k (open_after x number)) is
      ∙ sym (noted-at o.fid number (opens_in (part w 130 577)) k fids used (sym (ap (λ (x : Open). x.fid) is)))

  pub tables-noted : tables_of (lent w 130 577 e) ≡ with_read (tables_of w) o.fid number
  tables-noted =
      with-opens w e full (slice_set (opens_in (part w 130 577)) k (open_after o number)) long holds
      ∙ ap (with_opens (tables_of w)) (listed ∙ ap (map (noting o.fid number)) (sym (opens_in_lem w)))

  pub fit-noted : in_use_fit w ≡ true → in_use_fit (lent w 130 577 e) ≡ true
  fit-noted f =
      let same = wrote.count in
      fit-opens w e full long f (fit-wrote (in_use (part w 130 577) 64) (in_use e 64) wrote (told_fit w f).opens-fit (λ j h n. omega arith))
