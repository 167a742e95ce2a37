-- Of specs/StreamBack.antt: what rests on its other theorems. Assumes nothing.
use Rattle.std.specs.Prelude.{◌≡◌, ℕ, ◌+◌, ◌≤◌, length}
use Rattle.std.proofs.Common.{sym, ◌∙◌, arith}
use mathlib.Core.List.{List, [], ◌∷◌, append-nil, flatten, map}
use Rattle.stream.specs.Stream.{begun}
use Rattle.stream.specs.State.{none_begun}
use Rattle.stream.specs.Writer.{framed}
use Rattle.claims.specs.StreamCut.{Same, drained_all, AllBytes}
use Rattle.claims.proofs.StreamBack.{read_back}
use Rattle.claims.specs.StreamBack.{written-framed, written_in}
use Rattle.claims.specs.StreamBack.{no-messages}
use Rattle.claims.specs.StreamBack.{short-one}

-- one message, as the writer wrote it
pub written_back : (m room : List ℕ) → length m ≤ 8192 → length m + 4 ≤ length room → (pieces : List (List ℕ)) → AllBytes pieces → flatten pieces ≡ written_in m room
    → (buffer : List ℕ) → length buffer ≡ 8192 → Same (drained_all none_begun buffer pieces) (record { messages = m ∷ []; left = begun [] })
unfolding flatten map
written_back m room short fits pieces b same buffer size =
    read_back (short-one short no-messages) pieces b (same ∙ written-framed m room (omega arith) fits ∙ sym (append-nil (framed m))) buffer size
