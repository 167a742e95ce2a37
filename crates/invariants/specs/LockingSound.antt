-- A LOCKING request that is done keeps the rules for locks: "two locks of one file that overlap are both shared", "no lock passes 2^64", and
-- each lock's open exists. Assumes nothing.
use Rattle.std.proofs.Math.Path.{◌≡◌, refl}
use Rattle.std.specs.Prelude.{ℕ, zero, suc, Bool, true, false, Option, Some, None}
use Rattle.std.proofs.Common.{arith}
use mathlib.Core.List.{List, [], ◌∷◌, ◌++◌, map}
use Rattle.lists.specs.Walk.{any, all, all_tails, found}
use Rattle.lists.specs.Members.{all_snoc, tails-snoc}
use Rattle.lists.specs.Truth.{both_hold, hold-both, neither-holds, not-holds}
use Rattle.records.specs.declared.Open.{Open}
use Rattle.records.specs.declared.Lock.{Lock}
use Rattle.numbers.specs.Number.{contains}
use Rattle.numbers.specs.Column.{fid_of}
use Rattle.locks.specs.Range.{passes_end}
use Rattle.locks.specs.Answer.{bars, in_way, answers_for, answers}
use Rattle.locks.specs.Request.{ask_of, lock_of, remove_at, after_find, release_all, Grants, granted, after_walk, grant_all, range_passes}
use Rattle.locks.specs.declared.types.LockRange.{LockRange}
use Rattle.locks.specs.declared.types.Purpose.TheVariants.{Grant, Release}
use Rattle.soundness.specs.File.{file_of}
use Rattle.soundness.specs.Sound.{lock_ok, agree, agree_all}
use Rattle.invariants.specs.SoundParts.{LocksOk}
use Rattle.invariants.specs.RuleLaws.{lock-ok}
use Rattle.invariants.specs.FoundFacts.{found-miss}

-- ---- a lock removed

all-removed : (p : Lock → Bool) (k : ℕ) (l : List Lock) → all p l ≡ true → all p (remove_at k l) ≡ true
unfolding all remove_at
all-removed p zero [] h = refl
all-removed p (suc k) [] h = refl
all-removed p zero (x ∷ xs) h = (both_hold (p x) (all p xs) h).1
all-removed p (suc k) (x ∷ xs) h =
    let b = both_hold (p x) (all p xs) h in hold-both (p x) (all p (remove_at k xs)) b.0 (all-removed p k xs b.1)

agree-removed : (file : ℕ → ℕ) (k : ℕ) (l : List Lock) → agree_all file l ≡ true → agree_all file (remove_at k l) ≡ true
unfolding agree_all all_tails remove_at
agree-removed file zero [] h = refl
agree-removed file (suc k) [] h = refl
agree-removed file zero (x ∷ xs) h = (both_hold (all (agree file x) xs) (agree_all file xs) h).1
agree-removed file (suc k) (x ∷ xs) h =
    let b = both_hold (all (agree file x) xs) (agree_all file xs) h in
    hold-both (all (agree file x) (remove_at k xs)) (agree_all file (remove_at k xs)) (all-removed (agree file x) k xs b.0) (agree-removed file k xs b.1)

removed-ok : (os : List Open) (k : ℕ) (l : List Lock) → LocksOk os l → LocksOk os (remove_at k l)
removed-ok os k l h =
    record { owned = all-removed (lock_ok (map fid_of os)) k l h.owned; agreed = agree-removed (file_of os) k l h.agreed }

found-release : (os : List Open) (f : Option ℕ) (list left : List Lock) (rest : List Lock → Option (List Lock)) → LocksOk os list
    → ((l : List Lock) → LocksOk os l → rest l ≡ Some left → LocksOk os left) → after_find f list rest ≡ Some left → LocksOk os left
unfolding after_find
found-release os (Some k) list left rest h step e = step (remove_at k list) (removed-ok os k list h) e
found-release os None list left rest h step e = let z : ◌≡◌ {A = ℕ} 0 1 = cc in absurd (omega arith)

-- "Unlocks go first, in order"
pub release-ok : (os : List Open) (file : ℕ → ℕ) (fid : ℕ) (rs : List LockRange) (list left : List Lock) → LocksOk os list
    → release_all file fid rs list ≡ Some left → LocksOk os left
unfolding release_all
release-ok os file fid [] list left h e = let same : list ≡ left = cc in rw (← same) h
release-ok os file fid (r ∷ rs) list left h e =
    found-release os (found (answers file (ask_of fid Release r)) list) list left (λ l. release_all file fid rs l) h (λ l k g. release-ok os file fid rs l left k g) e

-- ---- a lock granted

-- a listed lock that is not in the way agrees with the one granted
miss-agrees : (file : ℕ → ℕ) (fid : ℕ) (shared : Bool) (r : LockRange) (m : Lock) → answers file (ask_of fid (Grant shared) r) m ≡ false
    → agree file m (lock_of fid shared r) ≡ true
unfolding answers answers_for in_way bars ask_of agree lock_of
miss-agrees file fid shared r m e = not-holds _ e

module _ (os : List Open) (fid : ℕ) (shared : Bool) (known : contains fid (map fid_of os) ≡ true) where
  granted-ok : (r : LockRange) (list : List Lock) → range_passes r ≡ false → found (answers (file_of os) (ask_of fid (Grant shared) r)) list ≡ None → LocksOk os list
      → LocksOk os (list ++ (lock_of fid shared r ∷ []))
  unfolding range_passes lock_of agree_all all
  granted-ok r list low free h =
      record {
        owned = all_snoc (lock_ok (map fid_of os)) list (lock_of fid shared r) h.owned
            (lock-ok (map fid_of os) (lock_of fid shared r) (record { owner = known; ends = not-holds (passes_end r.offset r.length) low }));
        agreed = tails-snoc (λ l later. all (agree (file_of os) l) later) list (lock_of fid shared r)
            (λ x ys m e. all_snoc (agree (file_of os) x) ys (lock_of fid shared r) e
            (miss-agrees (file_of os) fid shared r x (found-miss (answers (file_of os) (ask_of fid (Grant shared) r)) m free)))
            refl h.agreed;
      }

  walk-granted : (f : Option ℕ) (list : List Lock) (g : Grants) (out : List Lock) → after_walk f list g ≡ granted out → (f ≡ None) × (g ≡ granted out)
  unfolding after_walk
  walk-granted (Some k) list g out e = let z : ◌≡◌ {A = ℕ} 0 1 = cc in absurd (omega arith)
  walk-granted None list g out e = (refl, e)

  -- "Then locks in order, each against the list as it stands"
  pub grant-ok : (rs : List LockRange) (list out : List Lock) → any range_passes rs ≡ false → LocksOk os list
      → grant_all (file_of os) fid shared rs list ≡ granted out → LocksOk os out
  unfolding grant_all any
  grant-ok [] list out low h e = let same : list ≡ out = cc in rw (← same) h
  grant-ok (r ∷ rs) list out low h e =
      let b = neither-holds (range_passes r) (any range_passes rs) low in
      let w = walk-granted (found (answers (file_of os) (ask_of fid (Grant shared) r)) list) list (grant_all (file_of os) fid shared rs (list ++ (lock_of fid shared r ∷ []))) out e in
      grant-ok rs (list ++ (lock_of fid shared r ∷ [])) out b.1 (granted-ok r list b.0 w.0 h) w.1
