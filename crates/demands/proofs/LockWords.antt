-- Of specs/LockWords.antt: what rests on its other theorems. Assumes nothing.
use Rattle.std.proofs.Math.Path.{◌≡◌, refl, ap}
use Rattle.std.proofs.Common.{◌∙◌}
use Prim.Native.Nat.{ℕ, suc, ◌-◌, ◌≤◌}
use native.Mathlib.Omega.{arith}
use Rattle.std.specs.Prelude.{Bool, cond, get_or, Option, None, Some}
use Rattle.std.proofs.Math.Bool.{true, false}
use mathlib.Core.List.{List, [], ◌∷◌, ◌++◌, Memᴰ as In}
use Rattle.lists.specs.Walk.{found_from, found}
use Rattle.lists.specs.Truth.{fails, not-decided-twice}
use Rattle.records.specs.declared.Open.{Open}
use Rattle.records.specs.declared.Lock.{Lock}
use Rattle.records.specs.declared.Tables.{Tables}
use Rattle.records.specs.Empty.{no_lock}
use Rattle.records.specs.Held.{opens_of}
use Rattle.locks.specs.Request.{lock_of, remove_at, after_find, release_all, Grants, granted, blocked, after_walk, grant_all}
use Rattle.locks.specs.declared.types.LockRange.{LockRange}
use Rattle.locks.specs.declared.types.Holder.{Holder}
use Rattle.soundness.specs.Sound.{sound}
use Rattle.invariants.specs.FoundFacts.{found-hit, found-miss}
use Rattle.demands.specs.LoneLock.{BarsLock}
use Rattle.demands.specs.LockWords.{AllGranted, Granting, Named, OneBlocked, Opened, OutFrom, Released, Releasing, TakenOut, Unnamed, bars-is, bars-means, file-of, in-way, named-test, none-blocked, none-unnamed, opened-more, out-named, out-was, out_once, releasing-then, test, test-named}
use Rattle.demands.specs.LockWords.{all-granted}
use Rattle.demands.specs.LockWords.{all-released}
use Rattle.demands.specs.LockWords.{blocked-here}
use Rattle.demands.specs.LockWords.{blocked-later}
use Rattle.demands.specs.LockWords.{grant-then}
use Rattle.demands.specs.LockWords.{later-names-none}
use Rattle.demands.specs.LockWords.{later-one}
use Rattle.demands.specs.LockWords.{names-none}
use Rattle.demands.specs.LockWords.{none-to-grant}
use Rattle.demands.specs.LockWords.{none-to-release}
use Rattle.demands.specs.LockWords.{one-blocked}
use Rattle.demands.specs.LockWords.{one-unnamed}
use Rattle.demands.specs.LockWords.{release-then}
use Rattle.demands.specs.LockWords.{this-one}

module _ (file : ℕ → ℕ) (fid : ℕ) (r : LockRange) where
  pub not_named : (l : Lock) → (test file fid r) l ≡ false → Named fid r l → ⊥
  not_named l e n = not-decided-twice ((test file fid r) l) ((named-test file fid r) l n) e

  pub named-fails : (l : Lock) → (Named fid r l → ⊥) → (test file fid r) l ≡ false
  named-fails l h = fails ((test file fid r) l) (λ e. h ((test-named file fid r) l e))

  pub first_out : (b : Bool) (j k : ℕ) (l : Lock) (ls : List Lock) → (test file fid r) l ≡ b → (found_from (suc j) (test file fid r) ls ≡ Some k → (OutFrom file fid r) (suc j) k ls)
      → cond b (Some j) (found_from (suc j) (test file fid r) ls) ≡ Some k → (OutFrom file fid r) j k (l ∷ ls)
  unfolding remove_at
  first_out true j k l ls e f g =
      let same : j ≡ k = cc in
      let z : k - j ≡ 0 = omega arith in
      record { from = omega arith; out = rw z (this-one ((test-named file fid r) l e)) }
  first_out false j k l ls e f g =
      let h = f g in
      let low : suc j ≤ k = h.from in
      let z : k - j ≡ suc (k - suc j) = omega arith in
      record { from = omega arith; out = rw z (later-one (not_named l e) h.out) }

  pub out-from : (j k : ℕ) (list : List Lock) → found_from j (test file fid r) list ≡ Some k → (OutFrom file fid r) j k list
  unfolding found_from
  out-from j k [] e = let z : ◌≡◌ {A = ℕ} 0 1 = cc in absurd (omega arith)
  out-from j k (l ∷ ls) e = first_out ((test file fid r) l) j k l ls refl (λ g. out-from (suc j) k ls g) e

  pub found-out : (k : ℕ) (list : List Lock) → found (test file fid r) list ≡ Some k → TakenOut fid r list (remove_at k list)
  unfolding found
  found-out k list e =
      let h = out-from 0 k list e in
      let z : k - 0 ≡ k = omega arith in
      rw z at h.out

pub one-names-none : {fid : ℕ} {r : LockRange} {list : List Lock} → Unnamed fid (r ∷ []) list → (l : Lock) → In l list → Named fid r l → ⊥
one-names-none (names-none h) = h
one-names-none (later-names-none out more) = absurd (none-unnamed more refl)

module _ (file : ℕ → ℕ) (fid : ℕ) where
  pub find-releasing : (r : LockRange) (rs : List LockRange) (list : List Lock) (next : List Lock → Option (List Lock)) (x : Option ℕ)
      → found (test file fid r) list ≡ x → ((left : List Lock) → Releasing fid rs left (next left)) → Releasing fid (r ∷ rs) list (after_find x list next)
  unfolding after_find
  find-releasing r rs list next (Some k) e f = releasing-then (found-out file fid r k list e) (f (remove_at k list))
  find-releasing r rs list next None e f = one-unnamed (names-none (λ l m. not_named file fid r l (found-miss (test file fid r) m e)))

  -- "Unlocks go first, in order"
  pub release-means : (rs : List LockRange) (list : List Lock) → Releasing fid rs list (release_all file fid rs list)
  unfolding release_all
  release-means [] list = all-released none-to-release
  release-means (r ∷ rs) list =
      find-releasing r rs list (λ left. release_all file fid rs left) (found (test file fid r) list) refl (λ left. release-means rs left)

  -- the lock that is taken out is the one found
  pub out-found : (r : LockRange) (list left : List Lock) (x : Option ℕ) → found (test file fid r) list ≡ x → TakenOut fid r list left
      → (next : List Lock → Option (List Lock)) → after_find x list next ≡ next left
  unfolding after_find
  out-found r list left (Some k) e t next = ap next (out_once (found-out file fid r k list e) t)
  out-found r list left None e t next =
      let w = out-named t in
      absurd (not-decided-twice (test file fid r w.0) (named-test file fid r w.0 w.2) (found-miss (test file fid r) w.1 e))

  pub none_found : (r : LockRange) (list : List Lock) (x : Option ℕ) → found (test file fid r) list ≡ x → ((l : Lock) → In l list → Named fid r l → ⊥)
      → (next : List Lock → Option (List Lock)) → after_find x list next ≡ None
  unfolding after_find
  none_found r list (Some k) e h next = let w = out-named (found-out file fid r k list e) in absurd (h w.0 w.1 w.2)
  none_found r list None e h next = refl

  pub released-is : {rs : List LockRange} {list left : List Lock} → Released fid rs list left → release_all file fid rs list ≡ Some left
  unfolding release_all
  released-is none-to-release = refl
  released-is (release-then {r} {rs} {list} {left} t a) =
      out-found r list left (found (test file fid r) list) refl t (λ l. release_all file fid rs l) ∙ released-is a

  pub unnamed-is : {rs : List LockRange} {list : List Lock} → Unnamed fid rs list → release_all file fid rs list ≡ None
  unfolding release_all
  unnamed-is (names-none {r} {rs} {list} h) = none_found r list (found (test file fid r) list) refl h (λ l. release_all file fid rs l)
  unnamed-is (later-names-none {r} {rs} {list} {left} t a) =
      out-found r list left (found (test file fid r) list) refl t (λ l. release_all file fid rs l) ∙ unnamed-is a

pub released-was : {fid : ℕ} {rs : List LockRange} {list left : List Lock} → Released fid rs list left → {l : Lock} → In l left → In l list
released-was none-to-release m = m
released-was (release-then t a) m = out-was t (released-was a m)

-- one range has one in its way, or its lock stands behind the others, one more than they were
pub one-barred : {t : Tables} {o : Open} {fid : ℕ} {shared : Bool} {r : LockRange} {list : List Lock} → OneBlocked t o fid shared (r ∷ []) list → BarsLock t o list shared r
one-barred (blocked-here bar) = bar
one-barred (blocked-later free more) = absurd (none-blocked more refl)

module _ (t : Tables) (ok : sound t ≡ true) (o : Open) (fid : ℕ) (there-is : In o (opens_of t)) (of : o.fid ≡ fid) (shared : Bool) where
  module _ (r : LockRange) where
    pub found-bars : (list : List Lock) → Opened t list → (k : ℕ) → found (in-way t ok o fid there-is of shared r) list ≡ Some k → BarsLock t o list shared r
    found-bars list opened k e = let h = found-hit (in-way t ok o fid there-is of shared r) list k no_lock e in (bars-means t ok o fid there-is of shared r) list opened (get_or list k no_lock) h.listed h.passes

    pub none-bars : (list : List Lock) → found (in-way t ok o fid there-is of shared r) list ≡ None → BarsLock t o list shared r → ⊥
    none-bars list e s = not-decided-twice ((in-way t ok o fid there-is of shared r) s.lock) ((bars-is t ok o fid there-is of shared r) list s) (found-miss (in-way t ok o fid there-is of shared r) s.listed e)

    pub walk-granting : (rs : List LockRange) (list : List Lock) → Opened t list → (x : Option ℕ) → found (in-way t ok o fid there-is of shared r) list ≡ x → (next : Grants)
        → Granting t o fid shared rs (list ++ (lock_of fid shared r ∷ [])) next → Granting t o fid shared (r ∷ rs) list (after_walk x list next)
    unfolding after_walk
    walk-granting rs list opened (Some k) e next g = one-blocked (blocked-here (found-bars list opened k e))
    walk-granting rs list opened None e (granted last) (all-granted a) = all-granted (grant-then (none-bars list e) a)
    walk-granting rs list opened None e (blocked h) (one-blocked a) = one-blocked (blocked-later (none-bars list e) a)

    -- none is in the way: the walk finds nothing
    pub bars-none : (list : List Lock) → Opened t list → (x : Option ℕ) → found (in-way t ok o fid there-is of shared r) list ≡ x → (BarsLock t o list shared r → ⊥) → (next : Grants) → after_walk x list next ≡ next
    unfolding after_walk
    bars-none list opened (Some k) e h next = absurd (h (found-bars list opened k e))
    bars-none list opened None e h next = refl

    pub bars-some : (list : List Lock) (x : Option ℕ) → found (in-way t ok o fid there-is of shared r) list ≡ x → BarsLock t o list shared r → (next : Grants) → (h : Holder) × (after_walk x list next ≡ blocked h)
    unfolding after_walk
    bars-some list (Some k) e s next = (_, refl)
    bars-some list None e s next = absurd (none-bars list e s)

  pub grant-means : (rs : List LockRange) (list : List Lock) → Opened t list → Granting t o fid shared rs list (grant_all (file-of t ok o fid there-is of shared) fid shared rs list)
  unfolding grant_all
  grant-means [] list opened = all-granted none-to-grant
  grant-means (r ∷ rs) list opened =
      walk-granting r rs list opened (found ((in-way t ok o fid there-is of shared) r) list) refl (grant_all (file-of t ok o fid there-is of shared) fid shared rs (list ++ (lock_of fid shared r ∷ [])))
      (grant-means rs (list ++ (lock_of fid shared r ∷ [])) ((opened-more t ok o fid there-is of shared) r list opened))

  pub granted-is : {rs : List LockRange} {list last : List Lock} → Opened t list → AllGranted t o fid shared rs list last → grant_all (file-of t ok o fid there-is of shared) fid shared rs list ≡ granted last
  unfolding grant_all
  granted-is opened none-to-grant = refl
  granted-is opened (grant-then {r} {rs} {list} h a) =
      bars-none r list opened (found ((in-way t ok o fid there-is of shared) r) list) refl h (grant_all (file-of t ok o fid there-is of shared) fid shared rs (list ++ (lock_of fid shared r ∷ [])))
      ∙ granted-is ((opened-more t ok o fid there-is of shared) r list opened) a

  pub blocked-is : {rs : List LockRange} {list : List Lock} → Opened t list → OneBlocked t o fid shared rs list → (h : Holder) × (grant_all (file-of t ok o fid there-is of shared) fid shared rs list ≡ blocked h)
  unfolding grant_all
  blocked-is opened (blocked-here {r} {rs} {list} s) = bars-some r list (found ((in-way t ok o fid there-is of shared) r) list) refl s (grant_all (file-of t ok o fid there-is of shared) fid shared rs (list ++ (lock_of fid shared r ∷ [])))
  blocked-is opened (blocked-later {r} {rs} {list} h b) =
      let w = blocked-is ((opened-more t ok o fid there-is of shared) r list opened) b in
      (w.0, bars-none r list opened (found ((in-way t ok o fid there-is of shared) r) list) refl h (grant_all (file-of t ok o fid there-is of shared) fid shared rs (list ++ (lock_of fid shared r ∷ []))) ∙ w.1)
