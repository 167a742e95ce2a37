-- Of specs/LastReadKept.antt: what rests on its other theorems. Assumes nothing.
use Rattle.std.specs.Prelude.{◌≡◌, ℕ}
use Rattle.std.proofs.Math.Path.{ap}
use Rattle.std.proofs.Common.{◌∙◌}
use Rattle.std.proofs.Math.Bool.{true, false}
use mathlib.Core.List.{List, map, Memᴰ as In}
use Rattle.lists.specs.Members.{map-in}
use Rattle.records.specs.declared.Open.{Open}
use Rattle.records.specs.declared.Tables.{Tables}
use Rattle.records.specs.Change.{changes_of, noting}
use Rattle.records.specs.Held.{opens_of}
use Rattle.invariants.specs.Shaped.{opens-with}
use Rattle.invariants.specs.Sound.{Good}
use Rattle.demands.specs.LastRead.{Reads, was_read, after_event}
use Rattle.demands.specs.LastReadKept.{Kept, after, noted-kept, noted-unread}

module _ (t : Tables) (memory : List ℕ) (g : Good t) (through : Open) (listed : In through (opens_of t)) where
  pub read_kept : {reads : Reads} → Kept t memory reads → Kept (after t memory g through listed) memory (after_event (was_read through.fid) t memory reads)
  read_kept {reads} k =
      record {
        each = λ x m h.
            let w = map-in (noting through.fid (changes_of t through.file)) (opens_of t) (rw (opens-with t (map (noting through.fid (changes_of t through.file)) (opens_of t))) at m) in
            let read : (noting through.fid (changes_of t through.file) w.0).read ≡ true = ap (λ (y : Open). y.read) w.2 ∙ h in
            rw w.2 at ((noted-kept t memory g through listed) k w.0 w.1 read);
        unread = λ x m h.
            let w = map-in (noting through.fid (changes_of t through.file)) (opens_of t) (rw (opens-with t (map (noting through.fid (changes_of t through.file)) (opens_of t))) at m) in
            let unread : (noting through.fid (changes_of t through.file) w.0).read ≡ false = ap (λ (y : Open). y.read) w.2 ∙ h in
            rw w.2 at ((noted-unread t memory g through listed) k w.0 w.1 unread);
      }
