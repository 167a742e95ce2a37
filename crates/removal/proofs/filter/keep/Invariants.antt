use Rattle.std.proofs.Common.{◌≡◌, ℕ, Bool, false, ◌≤◌, length, replicate}
use Rattle.tables.specs.Words.{array_of}
use Rattle.removal.specs.Filter.{Tells}
use Rattle.removal.proofs.Marking.{Marking}
use Rattle.removal.proofs.Filtering.{Filtering}
use Rattle.removal.proofs.filter.keep.Given as goal

-- what the first i records have come to, by whatever function says what the closure answers
abbrev pub invariant-loop-i : goal.invariant-loop-i
invariant-loop-i g l =
    (l.count ≤ l.i)
    × ((p : g.row.R.Denot → Bool)
    → Tells (goal.F-post g l.stays) p
    → Filtering (array_of g.R.Record.of_words (length g.R.Record.limits) g.R.Record.ROOM) g.R.Record.limits g.R.Record.EMPTY p l.initial.words l.n l.i l.words l.count)
    × ((p : g.row.R.Denot → Bool)
    → Tells (goal.F-post g l.stays) p
    → (key : g.row.R.Denot → ℕ)
    → Tells (goal.N-post g l.number) key
    → l.initial.marks ≡ replicate 65 false
    → Marking key p (array_of g.R.Record.of_words (length g.R.Record.limits) g.R.Record.ROOM l.initial.words) l.i l.marks)
