-- A file changed and an open that has read (document 02, CR 8): what stays as it was, and that the rules of sound tables still hold. Assumes nothing.
use Rattle.std.specs.Prelude.{◌≡◌, Bool, length, get_or, set, leb, eqb}
use Rattle.std.proofs.Math.Path.{refl, ap, fun_ext}
use Rattle.std.proofs.Common.{sym, ◌∙◌}
use Prim.Native.Nat.{ℕ, zero, suc, min, ◌+◌, ◌≤◌}
use native.Mathlib.Omega.{arith}
use Rattle.std.proofs.Math.Bool.{true}
use mathlib.Core.List.{List, [], ◌∷◌, map, Memᴰ as In}
use Rattle.std.proofs.lemmas.List.{length-map}
use borrow.Author.Tests.{leb-true, le-leb, eqb-true}
use Rattle.lists.specs.Truth.{both_hold, hold-both, test-cases}
use Rattle.lists.specs.Walk.{any, all}
use Rattle.lists.specs.Members.{all-each, each_all, map-in}
use Rattle.records.specs.declared.Open.{Open}
use Rattle.records.specs.declared.File.{File}
use Rattle.records.specs.declared.Lock.{Lock}
use Rattle.records.specs.declared.Session.{Session}
use Rattle.records.specs.declared.Tree.{Tree}
use Rattle.records.specs.Change.{LARGEST, file_after, open_after, noting}
use Rattle.records.specs.Empty.{no_file}
use Rattle.numbers.specs.Column.{fid_of}
use Rattle.soundness.specs.File.{file_of}
use Rattle.soundness.specs.Sound.{file_ok, holds_open, open_ok, seen_ok}
use Rattle.invariants.specs.SoundParts.{RecordsOk, LocksOk}

-- ---- a file changed

module _ (size : ℕ) where
  -- the files with one of them changed
  abbrev pub files_after : List File → ℕ → List File
  files_after files i = set files i (file_after (get_or files i no_file) size)

  -- no change number falls
  pub changes-grow : (files : List File) (i j : ℕ) → all file_ok files ≡ true → (get_or files j no_file).changes ≤ (get_or (files_after files i) j no_file).changes
  unfolding all file_ok
  changes-grow [] i j e = omega arith
  changes-grow (f ∷ fs) zero zero e =
      let a = both_hold (file_ok f) (all file_ok fs) e in
      let b = leb-true f.changes LARGEST (both_hold (leb f.size 4096) (leb f.changes LARGEST) a.0).1 in
      omega arith
  changes-grow (f ∷ fs) zero (suc j) e = omega arith
  changes-grow (f ∷ fs) (suc i) zero e = omega arith
  changes-grow (f ∷ fs) (suc i) (suc j) e = changes-grow fs i j (both_hold (file_ok f) (all file_ok fs) e).1

  -- sizes and numbers are still within their limits
  pub after-ok : (files : List File) (i : ℕ) → size ≤ 4096 → all file_ok files ≡ true → all file_ok (files_after files i) ≡ true
  unfolding all file_ok
  after-ok [] i h e = refl
  after-ok (f ∷ fs) zero h e =
      let a = both_hold (file_ok f) (all file_ok fs) e in
      hold-both (file_ok (file_after f size)) (all file_ok fs)
      (hold-both (leb size 4096) (leb (min (f.changes + 1) LARGEST) LARGEST) (le-leb size 4096 h) (le-leb (min (f.changes + 1) LARGEST) LARGEST (omega arith))) a.1
  after-ok (f ∷ fs) (suc i) h e =
      let a = both_hold (file_ok f) (all file_ok fs) e in
      hold-both (file_ok f) (all file_ok (files_after fs i)) a.0 (after-ok fs i h a.1)

  -- "an open's remembered number doesn't exceed its file's": still
  pub after-seen : (files : List File) (i : ℕ) (os : List Open) → all file_ok files ≡ true → all (seen_ok files) os ≡ true
      → all (seen_ok (files_after files i)) os ≡ true
  unfolding seen_ok
  after-seen files i os e s =
      each_all (seen_ok (files_after files i)) os
      (λ o m.
      let below = leb-true o.seen (get_or files o.file no_file).changes (all-each (seen_ok files) m s) in
      let grown = changes-grow files i o.file e in
      le-leb o.seen (get_or (files_after files i) o.file no_file).changes (omega arith))

-- ---- an open that has read

module _ (fid number : ℕ) where
  -- what does not look at what an open remembers says the same of it
  pub noted-same : {B : Type 0} (p : Open → B) → ((o : Open) → p (open_after o number) ≡ p o) → (o : Open) → p (noting fid number o) ≡ p o
  unfolding noting
  noted-same p h o = test-cases (eqb o.fid fid) (λ e. rw e (h o)) (λ e. rw e)

  pub noted-map : {B : Type 0} (p : Open → B) → ((o : Open) → p (open_after o number) ≡ p o) → (os : List Open) → map p (map (noting fid number) os) ≡ map p os
  noted-map p h [] = refl
  noted-map p h (o ∷ os) = rw (noted-same p h o, noted-map p h os)

  pub noted-all : (p : Open → Bool) → ((o : Open) → p (open_after o number) ≡ p o) → (os : List Open) → all p (map (noting fid number) os) ≡ all p os
  unfolding all
  noted-all p h [] = refl
  noted-all p h (o ∷ os) = rw (noted-same p h o, noted-all p h os)

  pub noted-any : (p : Open → Bool) → ((o : Open) → p (open_after o number) ≡ p o) → (os : List Open) → any p (map (noting fid number) os) ≡ any p os
  unfolding any
  noted-any p h [] = refl
  noted-any p h (o ∷ os) = rw (noted-same p h o, noted-any p h os)

  pub noted-fids : (os : List Open) → map fid_of (map (noting fid number) os) ≡ map fid_of os
  noted-fids os = noted-map fid_of (λ o. refl) os

  -- every FID has the file that it had
  noted-file : (os : List Open) (k : ℕ) → file_of (map (noting fid number) os) k ≡ file_of os k
  unfolding file_of
  noted-file [] k = refl
  noted-file (o ∷ os) k = rw (noted-same (λ x. x.fid) (λ x. refl) o, noted-same (λ x. x.file) (λ x. refl) o, noted-file os k)

  pub noted-files : (os : List Open) → file_of (map (noting fid number) os) ≡ file_of os
  noted-files os = fun_ext (noted-file os)

  pub noted-length : (os : List Open) → length (map (noting fid number) os) ≡ length os
  noted-length os = length-map os (noting fid number)

  -- the rules for sessions, trees, opens and locks hold as they did
  pub noted-records : (ss : List Session) (ts : List Tree) (os : List Open) → RecordsOk ss ts os → RecordsOk ss ts (map (noting fid number) os)
  unfolding open_ok holds_open
  noted-records ss ts os r =
      record { uids = r.uids; tids = r.tids; fids = rw (noted-fids os) r.fids; trees_ok = r.trees_ok; opens_ok = noted-all (open_ok ts) (λ o. refl) os ∙ r.opens_ok }

  pub noted-locks : (os : List Open) (ls : List Lock) → LocksOk os ls → LocksOk (map (noting fid number) os) ls
  noted-locks os ls r = record { owned = rw (noted-fids os) r.owned; agreed = rw (noted-files os) r.agreed }

  -- "an open's remembered number doesn't exceed its file's": where it is the number of its file
  pub noted-seen : (files : List File) (os : List Open) → ((o : Open) → In o os → o.fid ≡ fid → number ≤ (get_or files o.file no_file).changes) → all (seen_ok files) os ≡ true
      → all (seen_ok files) (map (noting fid number) os) ≡ true
  unfolding seen_ok noting
  noted-seen files os low s = each_all (seen_ok files) (map (noting fid number) os) (λ x m. let w = map-in (noting fid number) os m in ap (seen_ok files) (sym w.2) ∙ one w.0 w.1)
    where
      one : (o : Open) → In o os → seen_ok files (noting fid number o) ≡ true
      one o m =
          test-cases (eqb o.fid fid)
          (λ e. rw e (le-leb number (get_or files o.file no_file).changes (low o m (eqb-true o.fid fid e))))
          (λ e. rw e (all-each (seen_ok files) m s))
