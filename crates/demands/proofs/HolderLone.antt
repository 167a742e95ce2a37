-- Of specs/HolderLone.antt: what rests on its other theorems. Assumes nothing.
use Rattle.std.specs.Prelude.{◌≡◌, refl, ◌↔◌, ℕ, ◌+◌, ◌%◌, ◌^◌, ◌≤◌, ◌<◌, true, false, List}
use Rattle.std.proofs.Common.{◌∙◌, add-zero}
use native.Mathlib.Omega.{arith}
use Rattle.records.specs.declared.Open.{Open}
use Rattle.records.specs.declared.Lock.{Lock}
use Rattle.records.specs.declared.Tables.{Tables}
use Rattle.records.specs.Held.{locks_of}
use Rattle.locks.specs.Wire.{ranges_at, small_form}
use Rattle.locks.specs.declared.types.Holder.{Holder}
use Rattle.soundness.specs.Sound.{sound}
use Rattle.chain.specs.declared.block.LockingFields.{LockingFields}
use Rattle.chain.specs.declared.block.WriteFields.{WriteFields}
use Rattle.chain.specs.declared.block.RangeFields.{RangeFields}
use Rattle.message.specs.declared.caller.Caller.{Caller}
use Rattle.message.specs.Command.{range_by, one_range}
use Rattle.demands.specs.LoneLock.{Owner, lower_size, sizes_apart, AnyLock, core_range, lone-back}
use Rattle.demands.specs.LoneCall.{WithinRange}
use Rattle.demands.specs.Admitted.{Admitted}
use Rattle.demands.specs.LockWords.{none-to-release, none-released, none-to-grant, none-granted}
use Rattle.demands.specs.CommandReasons.{OnlyTwoBits}
use Rattle.demands.specs.HolderWords.{FirstInWay, TransferHeld, CoreWriteHeld, write-held, size-held, LockHeld, RangeLockHeld}
use Rattle.demands.specs.HolderLone.{LoneHeld, exclusive-first, not-past, of_none, same-open}

module _ {c : Caller} {t : Tables} (ok : sound t ≡ true) {fid : ℕ} {o : Open} (a : Admitted c t fid o) where
  pub through-exact : {denied : ℕ} {offset size : Open → ℕ} {Clash : Lock → Type 0} {h : Holder} → (o.access ≡ denied → ⊥)
      → TransferHeld c t fid denied offset size Clash h ↔ FirstInWay t o (locks_of t) (offset o) (size o) Clash h
  through-exact may = (
    λ r. rw ((same-open ok a) r.admitted) at r.first,
    λ w. record { through = o; admitted = a; access = may; first = w },
  )

module _ {c : Caller} {t : Tables} (ok : sound t ≡ true) (f : LockingFields) (area : List ℕ) {o : Open} (a : Admitted c t f.fid o) (none_out : f.unlocks ≡ 0) (one : f.locks ≡ 1) where
  pub lone-first : {h : Holder} → LockHeld c t f area h → LoneHeld t o f area h
  lone-first {h} r =
      let w = r.held in
      let few : w.granted < f.locks = w.fewer in
      let zero : w.granted ≡ 0 = omega arith in
      let all : w.standing ≡ locks_of t = none-granted w.earlier ((of_none ok f area a none_out one) f.unlocks w.granted zero) ∙ none-released r.unlocked ((of_none ok f area a none_out one) 0 f.unlocks none_out) in
      let at : f.unlocks + w.granted ≡ 0 = omega arith in
      rw (same-open ok a r.admitted, all, at) at w.first

  pub first-lone : {h : Holder} → OnlyTwoBits f.kind → WithinRange f area → LoneHeld t o f area h → LockHeld c t f area h
  unfolding ranges_at
  first-lone {h} bits low w =
      record {
        through = o;
        admitted = a;
        served = bits;
        left = locks_of t;
        unlocked = rw none_out none-to-release;
        within = (not-past ok f area a none_out one) low;
        held = record {
          granted = 0;
          fewer = omega arith;
          standing = locks_of t;
          earlier = none-to-grant;
          first = rw (add-zero f.unlocks, none_out) w;
        };
      }

-- it is the LOCKING of its one range
pub range-held : (c : Caller) (t : Tables) → sound t ≡ true → (f : RangeFields) (h : Holder) → LockHeld c t (one_range f 0 1) (small_form (range_by c f)) h ↔ RangeLockHeld c t f h
unfolding one_range
range-held c t ok f h =
    let area = small_form (range_by c f) in
    let within : f.offset % 4294967296 + f.length % 4294967296 ≤ 2 ^ 64 = omega arith in (
      λ r. record {
        through = r.through;
        admitted = r.admitted;
        first = exclusive-first.0 (rw (lone-back c f) at (lone-first ok (one_range f 0 1) area r.admitted refl refl r));
      },
      λ r. first-lone ok (one_range f 0 1) area r.admitted refl refl refl (rw (lone-back c f) within) (rw (lone-back c f) (exclusive-first.1 r.first)),
    )

module _ {c : Caller} {t : Tables} (ok : sound t ≡ true) (f : WriteFields) {o : Open} (a : Admitted c t f.fid o) (may : o.access ≡ 0 → ⊥) {h : Holder} where
  pub some_written : (f.count ≡ 0 → ⊥)
      → CoreWriteHeld c t f h ↔ FirstInWay t o (locks_of t) f.offset f.count (λ l. (l.shared ≡ false) × Owner f.fid c.process l → ⊥) h
  some_written some =
      let x = through-exact ok a may in
      (λ r. elim r [ write-held n w ↦ x.0 w | size-held z w ↦ absurd (some z) ], λ w. write-held some (x.1 w))

  pub size-set : f.count ≡ 0
      → CoreWriteHeld c t f h
      ↔ FirstInWay t o (locks_of t) (lower_size t f.offset o) (sizes_apart t f.offset o)
      (λ l. (l.shared ≡ false) × Owner f.fid c.process l → ⊥) h
  size-set none =
      let x = through-exact ok a may in
      (λ r. elim r [ write-held n w ↦ absurd (n none) | size-held z w ↦ x.0 w ], λ w. size-held none (x.1 w))

pub range-through : {c : Caller} {t : Tables} → sound t ≡ true → (f : RangeFields) {o : Open} → Admitted c t f.fid o → {h : Holder}
    → RangeLockHeld c t f h ↔ FirstInWay t o (locks_of t) (core_range c f).offset (core_range c f).length AnyLock h
range-through ok f {o} a = (λ r. rw (same-open ok a r.admitted) at r.first, λ w. record { through = o; admitted = a; first = w })
