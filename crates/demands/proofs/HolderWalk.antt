-- Of specs/HolderWalk.antt: what rests on its other theorems. Assumes nothing.
use Rattle.std.proofs.Math.Path.{◌≡◌, refl, ap}
use Rattle.std.proofs.Common.{add-zero}
use Rattle.std.specs.Prelude.{Bool, true, Option, Some, None}
use Prim.Native.Nat.{ℕ, zero, suc, ◌+◌, ◌<◌}
use native.Mathlib.Omega.{arith}
use mathlib.Core.List.{List, [], ◌∷◌, ◌++◌, Memᴰ as In, map}
use Rattle.lists.specs.Walk.{found}
use Rattle.records.specs.declared.Open.{Open}
use Rattle.records.specs.declared.Lock.{Lock}
use Rattle.records.specs.declared.Tables.{Tables}
use Rattle.records.specs.Held.{opens_of}
use Rattle.locks.specs.Wire.{range_at, ranges_at}
use Rattle.locks.specs.Request.{holder_at, Grants, blocked, after_walk, grant_all, of_header}
use Rattle.locks.specs.declared.types.Holder.{Holder}
use Rattle.soundness.specs.Sound.{sound}
use Rattle.demands.specs.LockWords.{AllGranted, none-to-grant, grant-then, Opened, opened-more}
use Rattle.demands.specs.HolderWords.{FirstInWay, RangeHeld}
use Rattle.demands.specs.HolderWalk.{files, first-place, found_first, found_none, lock, none_found, range, test, test-exact}

module _ (t : Tables) (ok : sound t ≡ true) (o : Open) (fid : ℕ) (there-is : In o (opens_of t)) (of : o.fid ≡ fid) (high : ℕ) (shared large : Bool) (area : List ℕ) where
  -- by what the walk of the first range finds
  pub walk-held : (k n : ℕ) (list : List Lock) → Opened t list → (h : Holder) (x : Option ℕ) → found ((test t ok o fid there-is of high shared large area) k) list ≡ x → (next : Grants)
      → (next ≡ blocked h → RangeHeld t o fid high shared large area (suc k) n (list ++ ((lock t ok o fid there-is of high shared large area) ((range t ok o fid there-is of high shared large area) k) ∷ [])) h)
      → after_walk x list next ≡ blocked h → RangeHeld t o fid high shared large area k (suc n) list h
  unfolding after_walk ranges_at of_header
  walk-held k n list opened h (Some j) e next f g =
      let same : holder_at list j ≡ h = cc in
      record {
        granted = 0;
        fewer = omega arith;
        standing = list;
        earlier = none-to-grant;
        first = rw (add-zero k) (rw same at (found_first ((test t ok o fid there-is of high shared large area) k) list ((test-exact t ok o fid there-is of high shared large area) k list opened) j e));
      }
  walk-held k n list opened h None e next f g =
      let w = f g in
      let low : w.granted < n = w.fewer in
      let place : suc k + w.granted ≡ k + suc w.granted = omega arith in
      record {
        granted = suc w.granted;
        fewer = omega arith;
        standing = w.standing;
        earlier = grant-then (none_found ((test t ok o fid there-is of high shared large area) k) list ((test-exact t ok o fid there-is of high shared large area) k list opened) e) w.earlier;
        first = rw place at w.first;
      }

  -- a request that is blocked is so by a range of its own, on the list as it then stands
  pub blocked-held : (k n : ℕ) (list : List Lock) → Opened t list → (h : Holder) → grant_all (files t ok o fid there-is of high shared large area) fid shared (map (of_header high) (ranges_at large area k n)) list ≡ blocked h
      → RangeHeld t o fid high shared large area k n list h
  unfolding grant_all ranges_at of_header
  blocked-held k zero list opened h e = let z : ◌≡◌ {A = ℕ} 0 1 = cc in absurd (omega arith)
  blocked-held k (suc n) list opened h e =
      walk-held k n list opened h (found ((test t ok o fid there-is of high shared large area) k) list) refl (grant_all (files t ok o fid there-is of high shared large area) fid shared (map (of_header high) (ranges_at large area (suc k) n)) (list ++ ((lock t ok o fid there-is of high shared large area) ((range t ok o fid there-is of high shared large area) k) ∷ [])))
      (λ f. blocked-held (suc k) n (list ++ ((lock t ok o fid there-is of high shared large area) ((range t ok o fid there-is of high shared large area) k) ∷ [])) (opened-more t ok o fid there-is of shared ((range t ok o fid there-is of high shared large area) k) list opened) h f) e

  -- and the other way round
  pub held-from : (k n j : ℕ) {list standing : List Lock} → Opened t list → j < n → AllGranted t o fid shared (map (of_header high) (ranges_at large area k j)) list standing → {h : Holder}
      → FirstInWay t o standing (range_at large area (k + j)).offset (range_at large area (k + j)).length (λ m. (m.shared ≡ true) × (shared ≡ true) → ⊥) h
      → grant_all (files t ok o fid there-is of high shared large area) fid shared (map (of_header high) (ranges_at large area k n)) list ≡ blocked h
  unfolding grant_all ranges_at after_walk of_header
  held-from k zero j opened low earlier first = absurd (let z : ⊥ = omega arith in z)
  held-from k (suc n) zero {list} opened low none-to-grant {h} first =
      let p = first-place ((test t ok o fid there-is of high shared large area) k) list ((test-exact t ok o fid there-is of high shared large area) k list opened) (rw (add-zero k) at first) in
      rw p.0 (ap blocked p.1)
  held-from k (suc n) (suc j) {list} opened low (grant-then free more) first =
      let place : k + suc j ≡ suc k + j = omega arith in
      let none : found ((test t ok o fid there-is of high shared large area) k) list ≡ None = found_none ((test t ok o fid there-is of high shared large area) k) list ((test-exact t ok o fid there-is of high shared large area) k list opened) free (found ((test t ok o fid there-is of high shared large area) k) list) refl in
      rw none
      (held-from (suc k) n j (opened-more t ok o fid there-is of shared ((range t ok o fid there-is of high shared large area) k) list opened) (let m : j < n = omega arith in m) more (rw place at first))

  pub held-blocked : (k n : ℕ) (list : List Lock) → Opened t list → (h : Holder) → RangeHeld t o fid high shared large area k n list h
      → grant_all (files t ok o fid there-is of high shared large area) fid shared (map (of_header high) (ranges_at large area k n)) list ≡ blocked h
  held-blocked k n list opened h r = held-from k n r.granted opened r.fewer r.earlier r.first
