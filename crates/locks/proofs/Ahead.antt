-- A walk over the ranges of an area, front to back: what is said of all of them is said of those still ahead.
-- Assumes nothing.
use mathlib.Core.Path.{◌≡◌, ap, ◌∙◌}
use Prim.Native.Nat.{ℕ, ◌+◌, ◌-◌, ◌≤◌, ◌<◌}
use mathlib.Core.Bool.{Bool}
use mathlib.Core.List.{List, [], ◌∷◌}
use native.Mathlib.Omega.{arith}
use Rattle.locks.specs.Wire.{range_at, ranges_at, ranges-cons, ranges-none}
use Rattle.locks.specs.declared.types.LockRange.{LockRange}

module _ {B : Type 0} where
  -- the walk is at k of from..to, and `whole` is what f says of the ranges ahead
  pub record Ahead (whole : B) (f : List LockRange → B) (large : Bool) (s : List ℕ) (from to k : ℕ) : Type 0 where
    pub low : from ≤ k
    pub high : k ≤ to
    pub same : whole ≡ f (ranges_at large s k (to - k))

  -- at first all ranges are ahead
  pub ahead-start : {whole : B} {f : List LockRange → B} {large : Bool} {s : List ℕ} {from to : ℕ} → from ≤ to
      → whole ≡ f (ranges_at large s from (to - from)) → Ahead whole f large s from to from
  ahead-start h e = record { low = omega arith; high = h; same = e }

  -- range k settles the matter
  pub ahead-here : {whole b : B} {f : List LockRange → B} {large : Bool} {s : List ℕ} {from to k : ℕ} → Ahead whole f large s from to k → k < to
      → ((rs : List LockRange) → f (range_at large s k ∷ rs) ≡ b) → whole ≡ b
  ahead-here {f = f} {large = large} {s = s} {to = to} {k = k} a h e =
      a.same ∙ ap f (ranges-cons large s k to h) ∙ e (ranges_at large s (k + 1) (to - (k + 1)))

  -- range k leaves it to those behind it
  pub ahead_more : {whole : B} {f g : List LockRange → B} {large : Bool} {s : List ℕ} {from to k : ℕ} → Ahead whole f large s from to k → k < to
      → ((rs : List LockRange) → f (range_at large s k ∷ rs) ≡ g rs) → Ahead whole g large s from to (k + 1)
  ahead_more {f = f} {large = large} {s = s} {from = from} {to = to} {k = k} a h e =
      let low : from ≤ k = a.low in
      record {
        low = omega arith;
        high = omega arith;
        same = a.same ∙ ap f (ranges-cons large s k to h) ∙ e (ranges_at large s (k + 1) (to - (k + 1)));
      }

  -- no range is ahead
  pub ahead_none : {whole : B} {f : List LockRange → B} {large : Bool} {s : List ℕ} {from to k : ℕ} → Ahead whole f large s from to k → to ≤ k → whole ≡ f []
  ahead_none {f = f} {large = large} {s = s} {to = to} {k = k} a h = a.same ∙ ap f (ranges-none large s k to h)
