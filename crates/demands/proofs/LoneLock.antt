-- Of specs/LoneLock.antt: what rests on its other theorems. Assumes nothing.
use Rattle.std.specs.Prelude.{◌≡◌, ◌↔◌, ℕ, ◌+◌, ◌%◌, ◌^◌}
use Rattle.std.proofs.Math.Path.{refl}
use Rattle.std.proofs.Common.{arith}
use Rattle.std.proofs.Math.Bool.{true}
use mathlib.Core.List.{List}
use borrow.Author.Tests.{le-ltb}
use Rattle.records.specs.declared.Tables.{Tables}
use Rattle.locks.specs.Range.{passes_end}
use Rattle.locks.specs.Wire.{range_size, small_form}
use Rattle.locks.specs.Request.{range_passes}
use Rattle.soundness.specs.Sound.{sound}
use Rattle.chain.specs.declared.block.RangeFields.{RangeFields}
use Rattle.message.specs.declared.caller.Caller.{Caller}
use Rattle.message.specs.Command.{served_type, do_locking, range_by, one_range, do_range}
use Rattle.demands.specs.LoneLock.{BarsRange, Conflicts, May, asked, core-conflict, exclusive-way, lock-conflict, lone-back}

-- demand 2's lock alone in its request, "of a served type, .. and within range": a LOCK_BYTE_RANGE is always that
pub range-conflict : (c : Caller) (t : Tables) (memory : List ℕ) (k : ℕ) → sound t ≡ true → (f : RangeFields) (may : May c t f.fid k)
    → Conflicts (do_range c t memory f 0 1) ↔ BarsRange c t f (asked c t f.fid k may)
unfolding do_range one_range small_form served_type range_size range_passes passes_end
range-conflict c t memory k ok f may =
    let area = small_form (range_by c f) in
    let g = do_locking c t memory (one_range f 0 1) area in
    let within = le-ltb (2 ^ 64) (f.offset % 4294967296 + f.length % 4294967296) (omega arith) in
    let q = lock-conflict c t memory k ok (one_range f 0 1) area may refl refl refl refl (rw (lone-back c f) within) in (
      λ h. exclusive-way.0 (rw (lone-back c f) at (q.0 ((core-conflict g).0 h))),
      λ w. (core-conflict g).1 (q.1 (rw (lone-back c f) (exclusive-way.1 w))),
    )
