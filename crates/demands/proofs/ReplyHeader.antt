-- Of specs/ReplyHeader.antt: what rests on its other theorems. Assumes nothing.
use Rattle.std.specs.Prelude.{ℕ}
use mathlib.Core.List.{List}
use Rattle.records.specs.declared.Tables.{Tables}
use Rattle.message.specs.Message.{answered, reply_of, replied, take-message}
use Rattle.invariants.specs.Fit.{Fit, fit-answered}
use Rattle.claims.specs.StatusList.{answered-ended}
use Rattle.claims.proofs.StatusList.{ended-says}
use Rattle.demands.specs.Taken.{not_short}
use Rattle.demands.specs.ReplyHeader.{HeaderOf, header_of}

-- of every message that is answered
pub reply-header : (connection : ℕ) (s : List ℕ) (t : Tables) (memory room : List ℕ) → Fit s t memory room → HeaderOf s (take-message connection s t memory room).room
unfolding replied reply_of
reply-header connection s t memory room fit =
    rw (fit-answered connection s t memory room fit)
    (header_of s (answered connection s t memory).forms (answered connection s t memory).blocks room (not_short s fit.not-dropped) (ended-says (answered-ended connection s t memory)).class)
