-- Of specs/CoreReasons.antt: what rests on its other theorems. Assumes nothing.
use Rattle.std.specs.Prelude.{◌≡◌, ℕ, min, ◌≤◌, true, length, Option}
use Rattle.std.proofs.Common.{arith, length-take}
use mathlib.Core.List.{List, [], ◌∷◌, Memᴰ as In}
use Rattle.records.specs.declared.Lock.{Lock}
use Rattle.records.specs.declared.Tables.{Tables}
use Rattle.records.specs.Held.{locks_of}
use Rattle.locks.specs.declared.types.LockRange.{LockRange}
use Rattle.soundness.specs.Sound.{sound}
use Rattle.claims.proofs.SoundPlain.{sound-plain}
use Rattle.chain.specs.declared.block.RangeFields.{RangeFields}
use Rattle.message.specs.declared.caller.Caller.{Caller}
use Rattle.demands.specs.LoneLock.{core_range}
use Rattle.demands.specs.LockWords.{Named, TakenOut, out-named, Released, Releasing, all-released, one-unnamed}
use Rattle.demands.proofs.LockWords.{one-names-none, release-means}
use Rattle.demands.specs.CoreReasons.{Listed, out-shorter}

-- one that can be taken out is listed
pub out_listed : {c : Caller} {t : Tables} {f : RangeFields} {left : List Lock} → TakenOut f.fid (core_range c f) (locks_of t) left → Listed c t f
out_listed out = let w = out-named out in record { lock = w.0; listed = w.1; named = w.2 }

-- and one that is listed can be
pub taken_out : {fid : ℕ} {r : LockRange} {list : List Lock} {x : Option (List Lock)} → Releasing fid (r ∷ []) list x → (l : Lock) → In l list → Named fid r l
    → (left : List Lock) × Released fid (r ∷ []) list left
taken_out (all-released {left} a) l m n = (left, a)
taken_out (one-unnamed u) l m n = absurd (one-names-none u l m n)

pub listed-out : {c : Caller} {t : Tables} {f : RangeFields} → Listed c t f → (left : List Lock) × Released f.fid (core_range c f ∷ []) (locks_of t) left
listed-out {c} {t} {f} w = taken_out (release-means (λ n. n) f.fid (core_range c f ∷ []) (locks_of t)) w.lock w.listed w.named

pub out-fits : (t : Tables) → sound t ≡ true → {fid : ℕ} {r : LockRange} {left : List Lock} → TakenOut fid r (locks_of t) left → length left ≤ 128
out-fits t ok out =
    let few : t.nlocks ≤ 128 = ((sound-plain t).0 ok).counts.locks-fit in
    let cut : length (locks_of t) ≡ min t.nlocks (length t.locks) = length-take t.nlocks t.locks in
    let less = out-shorter out in
    omega arith
