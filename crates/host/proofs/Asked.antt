-- What the question whether a file has changed is on sound tables, and the open that it names.
-- Assumes nothing.
use mathlib.Core.Path.{◌≡◌, sym}
use Prim.Native.Nat.{ℕ, zero, suc, ◌≤◌, ◌<◌}
use native.Mathlib.Omega.{arith}
use mathlib.Core.Bool.{Bool, true, false, cond}
use mathlib.Core.List.{List, [], ◌∷◌, map}
use lib.ListN.{length, get_or, length-take}
use lib.Seq.{get_or-take}
use lib.Dec.{leb, eqb}
use borrow.Author.Tests.{leb-true}
use Rattle.lists.specs.Truth.{both_hold}
use Rattle.lists.specs.Walk.{all, found}
use Rattle.lists.specs.FoundLaws.{found_below}
use Rattle.std.specs.Prelude.{Some, None}
use Rattle.records.specs.Empty.{no_open}
use Rattle.records.specs.Held.{sessions_of, trees_of, opens_of}
use Rattle.records.specs.declared.Open.{Open}
use Rattle.records.specs.declared.Tree.{Tree}
use Rattle.records.specs.declared.Tables.{Tables}
use Rattle.numbers.specs.Number.{numbered}
use Rattle.numbers.specs.Column.{uid_of, tid_of, fid_of}
use Rattle.tables.specs.Words.{word, open_array}
use Rattle.tables.specs.Written.{opens_in}
use Rattle.tables.specs.ChangeLaws.{length-open_array}
use Rattle.soundness.specs.Sound.{within_room, file_ok, tree_ok, open_ok, sound_records, sound}
use Rattle.host.specs.HostCall.{refused, done, is_unchanged, unchanged_at, ask_unchanged}

-- opens by the rule are of one of the 16 files; so is an empty record
open-listed : (trees : List Tree) (os : List Open) (k : ℕ) → all (open_ok trees) os ≡ true → (get_or os k no_open).file ≤ 15
unfolding all open_ok
open-listed trees [] k e = omega arith
open-listed trees (o ∷ os) zero e = leb-true o.file 15 (both_hold (leb o.file 15) _ (both_hold (open_ok trees o) (all (open_ok trees) os) e).0).0
open-listed trees (o ∷ os) (suc k) e = open-listed trees os k (both_hold (open_ok trees o) (all (open_ok trees) os) e).1

pub sound-listed : (t : Tables) (k : ℕ) → sound t ≡ true → (get_or (opens_of t) k no_open).file ≤ 15
unfolding sound sound_records
sound-listed t k e =
    let a = both_hold (within_room t.nsessions t.ntrees t.nopens t.nlocks) _ e in
    let b = both_hold (all file_ok t.files) _ a.1 in
    let c = both_hold (sound_records (sessions_of t) (trees_of t) (opens_of t)) _ b.1 in
    let d = both_hold (numbered 16 (map uid_of (sessions_of t))) _ c.0 in
    let f = both_hold (numbered 32 (map tid_of (trees_of t))) _ d.1 in
    let g = both_hold (numbered 64 (map fid_of (opens_of t))) _ f.1 in
    let h = both_hold (all (tree_ok (map uid_of (sessions_of t))) (trees_of t)) _ g.1 in
    open-listed (trees_of t) (opens_of t) k h.1

-- the place found is one of the array, and its record the one in use there
module _ (p : Open → Bool) (w : List ℕ) (k : ℕ) (e : Some k ≡ found p (opens_in w)) where
  pub place_inside : k < 64
  place_inside =
      let below : k < length (opens_in w) = found_below p (opens_in w) k (sym e) in
      let cut : length (opens_in w) ≡ _ = length-take (word w 0) (open_array w) in
      let long : length (open_array w) ≡ 64 = length-open_array w in
      omega arith

  pub place-used : get_or (open_array w) k no_open ≡ get_or (opens_in w) k no_open
  place-used =
      let below : k < length (opens_in w) = found_below p (opens_in w) k (sym e) in
      let cut : length (opens_in w) ≡ _ = length-take (word w 0) (open_array w) in
      let used : k < word w 0 = omega arith in
      sym (get_or-take (word w 0) (open_array w) k no_open used)

module _ (t : Tables) (fid : ℕ) where
  pub ask-unsound : sound t ≡ false → ask_unchanged t fid ≡ refused 4 t
  unfolding ask_unchanged
  ask-unsound e = rw e

  module _ (ok : sound t ≡ true) where
    pub ask-nobody : None ≡ found (λ o. eqb o.fid fid) (opens_of t) → ask_unchanged t fid ≡ refused 6 t
    unfolding ask_unchanged unchanged_at
    ask-nobody e = rw (ok, ← e)

    pub ask-answered : (k : ℕ) → Some k ≡ found (λ o. eqb o.fid fid) (opens_of t)
        → ask_unchanged t fid ≡ done (cond (is_unchanged t (get_or (opens_of t) k no_open)) 1 0) t
    unfolding ask_unchanged unchanged_at
    ask-answered k e = rw (ok, ← e)
