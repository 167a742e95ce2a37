-- Of specs/CoreAlone.antt: what rests on its other theorems. Assumes nothing.
use Rattle.std.specs.Prelude.{refl, ℕ}
use mathlib.Core.List.Memᴰ.{head as first}
use mathlib.Core.List.Memᴰ.{tail as later}
use mathlib.Core.List.{List, Memᴰ as In}
use Rattle.chain.specs.Grammar.{Span, span_at, ReadingFrom, plain_end, andx-end, andx-next, Reading}
use Rattle.readings.specs.CoreAlone.{Core, CoreStands, core-last, in-front, in_one}

pub stands_from : {s : List ℕ} {command at : ℕ} {spans : List Span} → ReadingFrom s command at spans → (x : Span) → In x spans → Core x.command → CoreStands x spans
unfolding span_at
stands_from (plain_end h p) x i core = in_one i
stands_from (andx-end h a e) x i core = in_one i
stands_from (andx-next h m g r) x (first e) core = absurd (core-last (rw e at core) m)
stands_from (andx-next h m g r) x (later i) core = in-front m refl r core (stands_from r x i core)

-- "Each stands alone in a message, save that READ and WRITE may end a chain after LOCKING_ANDX"
pub core-stands : {s : List ℕ} {spans : List Span} → Reading s spans → (x : Span) → In x spans → Core x.command → CoreStands x spans
core-stands r = stands_from r
